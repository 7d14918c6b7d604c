use Rattle.std.proofs.Common.{subst, sym}
use Rattle.query_trees.specs.PhraseTerms.{AreSortedTerms}
use Rattle.query_trees.proofs.OffsetOrder.{phrase_told, sorted_terms}
use Rattle.query_trees.proofs.phrase_prefix_query.PhrasePrefixQuery.new_with_offset.Goals as goal

pub invariant_of-result : goal.invariant_of-result
invariant_of-result c = subst (AreSortedTerms 1) (sym c.in_ok-sort_by_offset.ensures) (sorted_terms 1 c.args.terms.items (phrase_told 1 c.args.terms.items c.requires))
