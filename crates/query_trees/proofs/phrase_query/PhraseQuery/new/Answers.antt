use Rattle.std.proofs.Common.{subst, sym}
use Rattle.std.specs.List.{enumerate_from}
use Rattle.query_trees.specs.PhraseTerms.{AreSortedTerms}
use Rattle.query_trees.proofs.OffsetOrder.{phrase_told, sorted_row}
use Rattle.query_trees.proofs.phrase_query.PhraseQuery.new.Goals as goal

pub invariant_of-result : goal.invariant_of-result
invariant_of-result c = subst (AreSortedTerms 2) (sym c.in_ok-phrase_terms.ensures) (sorted_row 2 c.args.terms.items (phrase_told 2 (enumerate_from 0 c.args.terms.items) c.requires))
