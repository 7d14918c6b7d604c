-- What was read and what is left make the whole.
use Rattle.std.proofs.Common.{drop, option_map, ◌++◌, ◌≡◌}
use Rattle.definitions.specs.Json.{each}
use Rattle.definitions.specs.TermGrammar.{term_in}
use Rattle.serde_json.specs.View.{items_view}
use Rattle.query_checks.proofs.json_phrases.read_each_term.Given as goal

abbrev pub invariant-loop-item : goal.invariant-loop-item
invariant-loop-item l = option_map (λ rest. l.terms.items ++ rest) (each (term_in l.schema) (items_view (drop l.item-index l.items))) ≡ each (term_in l.schema) (items_view l.items)
