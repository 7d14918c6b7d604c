-- A text gives the parts that it is cut into.
use Rattle.std.proofs.Common.{Bor, IfOk, List, map, subst, ◌≡◌, ℕ}
use Rattle.std.proofs.lemmas.Iterator.Consumers.{map_from_collect}
use Rattle.std.proofs.lemmas.Iterator.Splits.{YieldsList-from_str_split}
use Rattle.settings.proofs.TermPaths.{parts_at}
use Rattle.settings.proofs.term_values.parts.Goals as goal

pub returns : goal.returns
returns c = subst (λ (ps : List (List ℕ)). IfOk c.collect.result (λ parts. map (λ (part : Bor (List ℕ)). part.now) parts.items ≡ ps)) (parts_at c.args.separator c.args.text.now) (map_from_collect _ c.collect.ensures.ran (YieldsList-from_str_split c.args.separator _ c.requires c.split.ensures.text c.split.ensures.has_more c.split.ensures.pattern))
