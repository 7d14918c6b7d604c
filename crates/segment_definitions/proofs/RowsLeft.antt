-- What deletions leave of rows.
use Rattle.std.proofs.Common.{[], ◌&&◌, ◌*◌, ◌++◌, ◌+◌, ◌-◌, ◌/◌, ◌<◌, ◌∙◌, ◌∷◌, ◌≡◌, ◌≤◌, ◌||◌, Bool, List, ap, ap₂, arith, false, filter, if◌then◌else◌, length, map, nat_lt, not, refl, subst, suc, sym, true, ℕ}
use Rattle.std.specs.List.{list_any}
use Rattle.definitions.specs.Alive.{Segment}
use Rattle.definitions.specs.Analyzers.{Analyzer}
use Rattle.definitions.specs.Recorded.{holds}
use Rattle.definitions.specs.Schema.{Schema}
use Rattle.definitions.specs.State.{Pending, added, as_group, deleted, deleted_terms, groups_of, living, marked, pieces}
use Rattle.definitions.specs.Values.{Document}
use Rattle.definitions.proofs.Joins.{joined}
use Rattle.segment_definitions.proofs.Deletings.{Has}
use Rattle.std.proofs.lemmas.Bool.{le-ltb, lt-ltb}
use Rattle.std.proofs.lemmas.Nat.{div-mul-add}
use Rattle.std.proofs.Math.Seq.{drop-append_seam, take-append_seam}
use Rattle.std.proofs.lemmas.List.{append_assoc, length-append, take_all}
use Rattle.segment_definitions.specs.Rows.{left_rows}
use Rattle.segment_definitions.specs.Waiting.{AllLong, Numbered, deletions_from, docs_of, is_removed, numbered_rows, pending_rows}

-- ---- committed segments

-- the living after some died are those that are left of the living
pub living_left : (has : Has) (ts : List (List ℕ)) (rows : Segment) → living (left_rows has ts rows) ≡ filter (λ doc. not (list_any (λ t. has t doc) ts)) (living rows)
living_left has ts [] = refl
living_left has ts ((doc, false) ∷ rows) = living_left has ts rows
living_left has ts ((doc, true) ∷ rows) = go (not (list_any (λ t. has t doc) ts)) (living_left has ts rows)
  where
    test : Document → Bool
    test d = not (list_any (λ t. has t d) ts)

    go : (b : Bool) → living (left_rows has ts rows) ≡ filter test (living rows) → living ((doc, b) ∷ left_rows has ts rows) ≡ (if b then doc ∷ filter test (living rows) else filter test (living rows))
    go true h = ap (λ docs. doc ∷ docs) h
    go false h = h

pub living_lefts : (has : Has) (ts : List (List ℕ)) (rowss : List Segment) → map living (map (left_rows has ts) rowss) ≡ map (filter (λ doc. not (list_any (λ t. has t doc) ts))) (map living rowss)
living_lefts has ts [] = refl
living_lefts has ts (rows ∷ rowss) = ap₂ (λ docs more. docs ∷ more) (living_left has ts rows) (living_lefts has ts rowss)

-- ---- pending ones

-- later deletions cover an earlier document
later_cover : (has : Has) (calls : List Pending) (n i : ℕ) (doc : Document) → i < n → is_removed has (deletions_from n calls) i doc ≡ list_any (λ t. has t doc) (deleted_terms calls)
later_cover has [] n i doc l = refl
later_cover has (added d ∷ calls) n i doc l = later_cover has calls (suc n) i doc (omega arith)
later_cover has (deleted t ∷ calls) n i doc l =
    let below : nat_lt i n ≡ true = lt-ltb i n l in
    ap₂ (λ (a b : Bool). a || b) (ap (λ (b : Bool). b && has t doc) below) (later_cover has calls n i doc l)

-- a deletion changes nothing of documents behind it
earlier_none : (has : Has) (dels : List Numbered) (t : List ℕ) (n i : ℕ) (docs : List Document) → n ≤ i → numbered_rows has ((t, n) ∷ dels) i docs ≡ numbered_rows has dels i docs
earlier_none has dels t n i [] l = refl
earlier_none has dels t n i (doc ∷ docs) l =
    let below : nat_lt i n ≡ false = le-ltb i n l in
    ap₂ (λ (b : Bool) rows. (doc, not b) ∷ rows) (ap (λ (b : Bool). (b && has t doc) || is_removed has dels i doc) below) (earlier_none has dels t n (suc i) docs (omega arith))

-- the marks of the definitions are those of numbered deletions
pub marked_rows : (schema : Schema) (analyze : Analyzer) (calls : List Pending) (n : ℕ) → marked schema analyze calls ≡ numbered_rows (holds schema analyze) (deletions_from n calls) n (docs_of calls)
marked_rows schema analyze [] n = refl
marked_rows schema analyze (added doc ∷ calls) n = ap₂ (λ (b : Bool) rows. (doc, not b) ∷ rows) (sym (later_cover (holds schema analyze) calls (suc n) n doc (omega arith))) (marked_rows schema analyze calls (suc n))
marked_rows schema analyze (deleted t ∷ calls) n = marked_rows schema analyze calls n ∙ sym (earlier_none (holds schema analyze) (deletions_from n calls) t n n (docs_of calls) (omega arith))

-- ---- cut into segments

length-rows : (has : Has) (dels : List Numbered) (i : ℕ) (docs : List Document) → length (numbered_rows has dels i docs) ≡ length docs
length-rows has dels i [] = refl
length-rows has dels i (doc ∷ docs) = ap (λ n. suc n) (length-rows has dels (suc i) docs)

-- the rows of two lists, one after the other
append-rows : (has : Has) (dels : List Numbered) (i : ℕ) (docs more : List Document) → numbered_rows has dels i (docs ++ more) ≡ numbered_rows has dels i docs ++ numbered_rows has dels (i + length docs) more
append-rows has dels i [] more = let e : i ≡ i + 0 = omega arith in ap (λ j. numbered_rows has dels j more) e
append-rows has dels i (doc ∷ docs) more = let e : suc i + length docs ≡ i + length (doc ∷ docs) = omega arith in
    ap (λ rows. (doc, not (is_removed has dels i doc)) ∷ rows) (append-rows has dels (suc i) docs more ∙ ap (λ j. numbered_rows has dels (suc i) docs ++ numbered_rows has dels j more) e)

-- the first piece of two lists of which the first has its size
cut : {X : Type 0} (n m : ℕ) (xs ys : List X) → length xs ≡ n → groups_of (suc m) n (xs ++ ys) ≡ xs ∷ groups_of m n ys
cut n m xs ys e = subst (λ k. groups_of (suc m) k (xs ++ ys) ≡ xs ∷ groups_of m k ys) e (ap₂ (λ one rest. one ∷ groups_of m (length xs) rest) (take-append_seam xs ys) (drop-append_seam xs ys))

-- `m` more than there are groups
abbrev pub more_than : List (List Document) → ℕ → ℕ
more_than [] m = m
more_than (g ∷ gs) m = suc (more_than gs m)

more_than-is : (gs : List (List Document)) (m : ℕ) → more_than gs m ≡ length gs + m
more_than-is [] m = omega arith
more_than-is (g ∷ gs) m = let e = more_than-is gs m in omega arith

-- whole segments in front are pieces of their own
groups-rows : (has : Has) (dels : List Numbered) (n m i : ℕ) (gs : List (List Document)) (w : List Document) → AllLong n gs → ((j : ℕ) → groups_of m n (numbered_rows has dels j w) ≡ pending_rows has dels n j (as_group w)) → groups_of (more_than gs m) n (numbered_rows has dels i (joined gs ++ w)) ≡ pending_rows has dels n i (gs ++ as_group w)
groups-rows has dels n m i [] w long last = last i
groups-rows has dels n m i (g ∷ gs) w long last =
    let rows = numbered_rows has dels i g in
    let rest = numbered_rows has dels (i + n) (joined gs ++ w) in
    let split : numbered_rows has dels i ((g ++ joined gs) ++ w) ≡ rows ++ rest = ap (λ docs. numbered_rows has dels i docs) (append_assoc g (joined gs) w) ∙ append-rows has dels i g (joined gs ++ w) ∙ ap (λ k. rows ++ numbered_rows has dels (i + k) (joined gs ++ w)) long.0 in
    ap (λ all. groups_of (suc (more_than gs m)) n all) split
    ∙ cut n (more_than gs m) rows rest (length-rows has dels i g ∙ long.0)
    ∙ ap (λ more. rows ∷ more) (groups-rows has dels n m (i + n) gs w long.1 last)

-- how many pieces there are
abbrev pub last_pieces : List Document → ℕ
last_pieces [] = 0
last_pieces (doc ∷ docs) = 1

last_piece : (has : Has) (dels : List Numbered) (n : ℕ) (w : List Document) → length w < n → (j : ℕ) → groups_of (last_pieces w) n (numbered_rows has dels j w) ≡ pending_rows has dels n j (as_group w)
last_piece has dels n [] l j = refl
last_piece has dels n (doc ∷ docs) l j =
    let e : length (numbered_rows has dels j (doc ∷ docs)) ≤ n = rw (length-rows has dels j (doc ∷ docs)) (omega arith) in
    ap (λ rows. rows ∷ []) (take_all n (numbered_rows has dels j (doc ∷ docs)) e)

length-joined : (n : ℕ) (gs : List (List Document)) (w : List Document) → AllLong n gs → length (joined gs ++ w) ≡ length gs * n + length w
length-joined n [] w long = omega arith
length-joined n (g ∷ gs) w long = ap length (append_assoc g (joined gs) w) ∙ length-append g (joined gs ++ w) ∙ ap₂ (λ (a b : ℕ). a + b) long.0 (length-joined n gs w long.1) ∙ omega arith

piece_count : (n k : ℕ) (w : List Document) → length w < n → (k * n + length w + n - 1) / n ≡ k + last_pieces w
piece_count n k [] l = let e : k * n + 0 + n - 1 ≡ k * n + (n - 1) = omega arith in ap (λ m. m / n) e ∙ div-mul-add k n (n - 1) (omega arith) ∙ omega arith
piece_count n k (doc ∷ docs) l = let e : k * n + suc (length docs) + n - 1 ≡ (suc k) * n + length docs = omega arith in ap (λ m. m / n) e ∙ div-mul-add (suc k) n (length docs) (omega arith) ∙ omega arith

-- the pieces of pending rows are segments
pub pieces-rows : (has : Has) (dels : List Numbered) (n : ℕ) (gs : List (List Document)) (w : List Document) → AllLong n gs → length w < n → pieces n (numbered_rows has dels 0 (joined gs ++ w)) ≡ pending_rows has dels n 0 (gs ++ as_group w)
pieces-rows has dels n gs w long short =
    let rows = numbered_rows has dels 0 (joined gs ++ w) in
    let count : (length rows + n - 1) / n ≡ more_than gs (last_pieces w) = ap (λ k. (k + n - 1) / n) (length-rows has dels 0 (joined gs ++ w) ∙ length-joined n gs w long) ∙ piece_count n (length gs) w short ∙ sym (more_than-is gs (last_pieces w)) in
    ap (λ k. groups_of k n rows) count ∙ groups-rows has dels n (last_pieces w) 0 gs w long (last_piece has dels n w short)
