-- What a deletion does to the rows of a segment.
use Rattle.std.proofs.Common.{[], ◌&&◌, ◌+◌, ◌∙◌, ◌∷◌, ◌≡◌, ◌≤◌, ◌||◌, Bool, List, ap, ap₂, arith, false, length, map, nat_lt, not, refl, suc, sym, true, zero, ℕ}
use Rattle.std.specs.List.{list_any}
use Rattle.std.proofs.lemmas.Bool.{le-ltb, lt-ltb}
use Rattle.definitions.specs.Alive.{Segment}
use Rattle.definitions.specs.Values.{Document}
use Rattle.segment_definitions.specs.Rows.{cut_flags, flagged, left_rows, struck}
use Rattle.segment_definitions.specs.Waiting.{Numbered, is_removed, struck_from}

abbrev pub Has : Type 0
Has = List ℕ → Document → Bool

-- dead by the one or by the others
dies : (b x y : Bool) → (b && not (x || y)) ≡ ((b && not x) && not y)
dies false x y = refl
dies true true y = refl
dies true false y = refl

pub lives : (b : Bool) → (b && true) ≡ b
lives true = refl
lives false = refl

-- ---- on a committed segment

pub left_next : (has : Has) (t : List ℕ) (ts : List (List ℕ)) (rows : Segment) → left_rows has (t ∷ ts) rows ≡ left_rows has ts (map (struck (has t)) rows)
left_next has t ts [] = refl
left_next has t ts (row ∷ rows) = ap₂ (λ (b : Bool) more. (row.0, b) ∷ more) (dies row.1 (has t row.0) (list_any (λ u. has u row.0) ts)) (left_next has t ts rows)

pub left_end : (has : Has) (rows : Segment) → left_rows has [] rows ≡ rows
left_end has [] = refl
left_end has (row ∷ rows) = ap₂ (λ (b : Bool) more. (row.0, b) ∷ more) (lives row.1) (left_end has rows)

-- ---- on a pending one

pub struck_next : (has : Has) (del : Numbered) (dels : List Numbered) (i : ℕ) (rows : Segment) → struck_from has (del ∷ dels) i rows ≡ struck_from has dels i (struck_from has (del ∷ []) i rows)
struck_next has del dels i [] = refl
struck_next has del dels i (row ∷ rows) =
    let one = nat_lt i del.1 && has del.0 row.0 in
    ap₂ (λ (b : Bool) more. (row.0, b) ∷ more) (dies row.1 one (is_removed has dels i row.0) ∙ ap (λ (x : Bool). (row.1 && not x) && not (is_removed has dels i row.0)) (sym (alone one))) (struck_next has del dels (suc i) rows)
  where
    alone : (b : Bool) → (b || false) ≡ b
    alone true = refl
    alone false = refl

pub struck_end : (has : Has) (i : ℕ) (rows : Segment) → struck_from has [] i rows ≡ rows
struck_end has i [] = refl
struck_end has i (row ∷ rows) = ap₂ (λ (b : Bool) more. (row.0, b) ∷ more) (lives row.1) (struck_end has (suc i) rows)

-- a deletion behind all documents
pub struck_whole : (has : Has) (t : List ℕ) (n i : ℕ) (docs : List Document) (flags : List Bool) → i + length docs ≤ n → struck_from has ((t, n) ∷ []) i (flagged docs flags) ≡ map (struck (has t)) (flagged docs flags)
struck_whole has t n i [] flags l = refl
struck_whole has t n i (doc ∷ docs) [] l = refl
struck_whole has t n i (doc ∷ docs) (flag ∷ flags) l =
    let below : nat_lt i n ≡ true = lt-ltb i n (omega arith) in
    ap₂ (λ (b : Bool) more. (doc, flag && not b) ∷ more) (ap (λ (b : Bool). (b && has t doc) || false) below ∙ alone (has t doc)) (struck_whole has t n (suc i) docs flags (omega arith))
  where
    alone : (b : Bool) → (b || false) ≡ b
    alone true = refl
    alone false = refl

-- a deletion before all documents
pub struck_none : (has : Has) (t : List ℕ) (n i : ℕ) (rows : Segment) → n ≤ i → struck_from has ((t, n) ∷ []) i rows ≡ rows
struck_none has t n i [] l = refl
struck_none has t n i (row ∷ rows) l =
    let below : nat_lt i n ≡ false = le-ltb i n l in
    ap₂ (λ (b : Bool) more. (row.0, b) ∷ more) (ap (λ (b : Bool). row.1 && not ((b && has t row.0) || false)) below ∙ lives row.1) (struck_none has t n (suc i) rows (omega arith))

-- ---- on the first documents alone

pub cut_rows : (has : Has) (t : List ℕ) (k i : ℕ) (docs : List Document) (flags : List Bool) → flagged docs (cut_flags k (map (λ doc. not (has t doc)) docs) flags) ≡ struck_from has ((t, i + k) ∷ []) i (flagged docs flags)
cut_rows has t zero i docs flags = sym (struck_none has t (i + 0) i (flagged docs flags) (omega arith))
cut_rows has t (suc k) i [] flags = refl
cut_rows has t (suc k) i (doc ∷ docs) [] = refl
cut_rows has t (suc k) i (doc ∷ docs) (flag ∷ flags) =
    let below : nat_lt i (i + suc k) ≡ true = lt-ltb i (i + suc k) (omega arith) in
    let e : suc i + k ≡ i + suc k = omega arith in
    ap₂ (λ (b : Bool) more. (doc, flag && not b) ∷ more) (sym (ap (λ (b : Bool). (b && has t doc) || false) below ∙ alone (has t doc))) (cut_rows has t k (suc i) docs flags ∙ ap (λ n. struck_from has ((t, n) ∷ []) (suc i) (flagged docs flags)) e)
  where
    alone : (b : Bool) → (b || false) ≡ b
    alone true = refl
    alone false = refl

-- ---- deletions one after the other
