-- Laws of finders over the documents that all terms of a phrase have.
use Rattle.std.proofs.Common.{◌≤◌, List, arith, ℕ}
use Rattle.docsets.specs.Entries.{Entry, IsRest}
use Rattle.phrases.specs.Finders.{HasRoom}
use Rattle.phrases.specs.PhraseEntries.{HaveColumns, longest_column}
use Rattle.phrases.proofs.PhraseEntryLaws.{HaveColumns-rest, longest-rest}
use Rattle.phrases.specs.Settled.{IsSettled}
use Rattle.phrases.specs.Standings.{IsStanding}
use Rattle.phrases.specs.declared.place_finder.PlaceFinder.{PlaceFinder}
use Rattle.term_scorer.proofs.TermScoreLaws.{bound-rest}
use Rattle.term_scorer.specs.TermScores.{documents_bound}

-- room for more is room for fewer
pub HasRoom-lower : (f : PlaceFinder) (n m : ℕ) → n ≤ m → HasRoom f m → HasRoom f n
HasRoom-lower f n m l h = (let places = h.places in let positions = h.positions in record {
  places = omega (arith, l, places);
  positions = omega (arith, l, positions);
  costs = λ some. (let costs = h.costs some in omega (arith, l, costs));
  further_costs = λ some. (let costs = h.further_costs some in omega (arith, l, costs));
})

-- a finder that went on over what is left
pub stands-on : (f g : PlaceFinder) (num_docs : ℕ) (rest es : List Entry) → IsRest rest es → HaveColumns es → HasRoom f (longest_column es) → documents_bound es ≤ num_docs → ((n : ℕ) → HasRoom f n → HasRoom g n) → IsSettled g rest → IsStanding g num_docs rest
stands-on f g num_docs rest es is columns room covered kept settled =
    let fewer = longest-rest rest es is in
    let bound = bound-rest rest es is in
    record {
      settled = settled;
      columns = HaveColumns-rest rest es is columns;
      room = kept (longest_column rest) (HasRoom-lower f (longest_column rest) (longest_column es) fewer room);
      covered = omega (arith, bound, covered);
    }
