-- The score of a document on which a cursor is asked to stand.
use Rattle.std.proofs.Common.{[], List, ap, arith, sym, ◌<◌, ◌∙◌, ◌∷◌, ◌≡◌, ℕ}
use Rattle.docsets.specs.Danger.{Missed}
use Rattle.docsets.specs.Entries.{Entry, Rising, first, first_score, from}
use Rattle.docsets.specs.EntryLaws.{Rising-from}
use Rattle.definitions.specs.Postings.{terminated}
use Rattle.docsets.proofs.MemberLaws.{entries-kept, entries-low, scores-on}
use Rattle.docsets.specs.Members.{entries_of, scores_in}

-- where it stands on the document, that is its score
pub stood_on : (d : ℕ) (before after : List Entry) → Rising 0 after → d < terminated → first after ≡ d → after ≡ from d before → scores_in (entries_of d before) ≡ first_score after ∷ []
stood_on d before after r l at rest =
    ap scores_in (sym (entries-kept d d before (omega arith)) ∙ ap (entries_of d) (sym rest))
    ∙ scores-on d after r at l

-- where the document was missed, there is none
pub missed_at : (d bound : ℕ) (before after : List Entry) → Rising 0 before → Missed d bound before after → scores_in (entries_of d before) ≡ []
missed_at d bound before after r missed =
    ap scores_in (sym (entries-kept d d before (omega arith))
    ∙ entries-low d 0 (from d before) (Rising-from d 0 before r) (let above = missed.above in let next = missed.before_next in omega (arith, above, next)))
