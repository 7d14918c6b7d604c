use Rattle.std.proofs.Common.{subst, sym}
use Rattle.std.specs.List.{enumerate_from}
use Rattle.query_trees.specs.PhraseTerms.{AreSortedTerms}
use Rattle.query_trees.proofs.OffsetOrder.{phrase_told, sorted_row}
use Rattle.query_trees.proofs.phrase_prefix_query.PhrasePrefixQuery.new.Goals as goal

pub invariant_of-result : goal.invariant_of-result
invariant_of-result c = subst (AreSortedTerms 1) (sym c.in_ok-terms.ensures) (sorted_row 1 c.args.terms.items (phrase_told 1 (enumerate_from 0 c.args.terms.items) c.requires))
