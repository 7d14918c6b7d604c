use Rattle.std.proofs.Common.{refl, subst, sym, true, ◌≡◌}
use Rattle.std.specs.List.{enumerate_from}
use Rattle.query_trees.specs.PhraseTerms.{are_phrase_terms}
use Rattle.weight_calls.proofs.TwoTerms.{two_of_field}
use Rattle.weight_calls.proofs.plain_queries.in_a_row.Goals as goal

pub new-requires : goal.new-requires
new-requires c = subst (λ ts. are_phrase_terms 2 (enumerate_from 0 ts) ≡ true) (sym c.in_ok-vec.ensures.items) (two_of_field 2 c.args.first c.args.second refl c.requires)
