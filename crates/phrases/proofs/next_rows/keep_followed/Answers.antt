use Rattle.std.proofs.Common.{nat_lt, rules}
use Rattle.std.proofs.lemmas.Fn.{filter_same}
use Rattle.phrases.proofs.next_rows.keep_followed.Goals as goal

pub returns-clause-items : goal.returns-clause-items
returns-clause-items c = filter_same _ (λ r. nat_lt 0 r.count) _ (λ x b f' k. search rules) _ _ c.retain.ensures.filtered
