use Rattle.std.proofs.Common.{ap, not, rules, ◌==◌, ◌∙◌}
use Rattle.std.proofs.lemmas.Fn.{filter_same}
use Rattle.std.specs.List.{list_any}
use Rattle.docsets.proofs.DistinctLaws.{filter-agrees, holds-contains}
use Rattle.docsets.specs.Distinct.{holds}
use Rattle.scorers.proofs.distinct_positions.leave_out.Goals as goal

pub returns-clause-items : goal.returns-clause-items
returns-clause-items c =
    filter_same _ (λ n. not (list_any (λ m. m == n) c.args.held.now)) _ (λ x b f' k. search rules) _ _ c.retain.ensures.filtered
    ∙ filter-agrees (λ n. not (list_any (λ m. m == n) c.args.held.now)) (λ n. not (holds c.args.held.now n)) c.args.numbers.now.items (λ n. ap not (holds-contains c.args.held.now n))
