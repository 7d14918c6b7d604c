use Rattle.std.proofs.Common.{subst, sym}
use Rattle.query_trees.specs.PhraseTerms.{AreSortedTerms}
use Rattle.query_trees.proofs.OffsetOrder.{phrase_told, sorted_terms}
use Rattle.query_trees.proofs.phrase_query.PhraseQuery.new_with_offset_and_slop.Goals as goal

pub invariant_of-result : goal.invariant_of-result
invariant_of-result c = subst (AreSortedTerms 2) (sym c.in_ok-sort_by_offset.ensures) (sorted_terms 2 c.args.terms.items (phrase_told 2 c.args.terms.items c.requires))
