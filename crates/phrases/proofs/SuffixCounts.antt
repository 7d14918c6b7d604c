-- Laws of how often suffixes follow a phrase.
use Rattle.std.proofs.Common.{[], List, ap, arith, get_or, length, max, suc, take, zero, ◌++◌, ◌+◌, ◌<◌, ◌∙◌, ◌∷◌, ◌≡◌, ◌≤◌, ℕ}
use Rattle.std.proofs.lemmas.List.{take_more}
use Rattle.std.proofs.lemmas.List.Sums.{sum_by-cons}
use Rattle.docsets.specs.Entries.{AreSingle, Entry, first, first_positions, most_positions, single}
use Rattle.definitions.specs.Postings.{terminated}
use Rattle.intersections.specs.Columns.{HaveOneColumn}
use Rattle.phrases.specs.Places.{Ascends}
use Rattle.phrases.specs.PrefixEntries.{continued, continued_by, most_suffix_positions}
use Rattle.phrases.specs.MergeLaws.{ascends-from}

-- the positions on which a cursor of one term stands ascend
pub single-ascends : (es : List Entry) → AreSingle es → first es < terminated → Ascends 0 (single (first_positions es))
single-ascends [] s l = absurd (omega (arith, l))
single-ascends (e ∷ es) s l = ascends-from (single e.positions) s.1

-- of one entry
pub continued-one : (moved : ℕ) (places : List ℕ) (es : List Entry) → first es < terminated → continued_by moved places (take 1 es) ≡ continued moved places (single (first_positions es))
continued-one moved places [] l = absurd (omega (arith, l))
continued-one moved places (e ∷ es) l = (let one = sum_by-cons (λ s. continued moved places (single s.positions)) e [] in omega (arith, one))

pub most-get : (ess : List (List Entry)) (i : ℕ) → i < length ess → most_positions (get_or ess i []) ≤ most_suffix_positions ess
most-get [] i l = absurd (omega (arith, l))
most-get (es ∷ ess) zero l = omega arith
most-get (es ∷ ess) (suc i) l = (let ih = most-get ess i (omega (arith, l)) in omega (arith, ih))

-- one list more
most-last : (ess : List (List Entry)) (es : List Entry) → most_suffix_positions (ess ++ es ∷ []) ≡ max (most_suffix_positions ess) (most_positions es)
most-last [] es = omega arith
most-last (xs ∷ ess) es = (let ih = most-last ess es in omega (arith, ih))

pub most-take : (ess : List (List Entry)) (i : ℕ) → i < length ess → most_suffix_positions (take (i + 1) ess) ≡ max (most_suffix_positions (take i ess)) (most_positions (get_or ess i []))
most-take ess i l = ap most_suffix_positions (take_more ess i [] l) ∙ most-last (take i ess) (get_or ess i [])

-- the positions on which a cursor with one column stands ascend
pub column-rises : (es : List Entry) → HaveOneColumn es → first es < terminated → Ascends 0 (single (first_positions es))
column-rises [] c l = absurd (omega (arith, l))
column-rises (e ∷ es) c l = ascends-from (single e.positions) c.1
