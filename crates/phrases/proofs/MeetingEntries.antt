-- Laws of the documents that several cursors have, from laws of each of their entries.
use Rattle.std.proofs.Common.{[], Bool, List, ap, arith, false, flat_map, if◌then◌else◌, leb-true, length, map, max, refl, subst, suc, sym, true, zero, ◌++◌, ◌+◌, ◌-◌, ◌<◌, ◌==◌, ◌∷◌, ◌≡◌, ◌≤◌, ℕ}
use Rattle.std.specs.List.{AllByRecursion}
use Rattle.std.proofs.lemmas.Bool.Decides.{nat_tests}
use Rattle.std.proofs.lemmas.List.{length-append, length-map}
use Rattle.docsets.specs.Entries.{Entry, from, most_positions, single}
use Rattle.definitions.specs.Postings.{terminated}
use Rattle.definitions.specs.Scoring.{greatest_of}
use Rattle.intersections.specs.Columns.{HaveOneColumn}
use Rattle.intersections.specs.Meetings.{meeting}
use Rattle.docsets.specs.Members.{at_document, enough, entries_at, entries_of, joining, listed, walk}
use Rattle.phrases.specs.PhraseEntries.{AreColumns, HaveColumns, longest, longest_column}
use Rattle.phrases.specs.MergeLaws.{ascends-from}
use Rattle.term_scorer.proofs.TermScoreLaws.{bound-of}
use Rattle.term_scorer.specs.TermScores.{documents_bound}

-- ---- entries that are listed

all-walk : (P : Entry → Type 0) (f : ℕ → Bool) (s : ℕ → Entry) (low n : ℕ) → ((d : ℕ) → f d ≡ true → P (at_document d (s d))) → AllByRecursion P (walk f s low n)
unfolding walk
all-walk P f s low zero h = tt
all-walk P f s low (suc n) h =
    let rest = all-walk P f s (low + 1) n h in
    (elim (f low) as (λ b. f low ≡ b → AllByRecursion P (if b then at_document low (s low) ∷ walk f s (low + 1) n else walk f s (low + 1) n)) [
      | true ↦ (λ e. (h low e, rest))
      | false ↦ (λ e. rest)
    ]) refl

all-listed : (P : Entry → Type 0) (f : ℕ → Bool) (s : ℕ → Entry) (low : ℕ) → ((d : ℕ) → f d ≡ true → P (at_document d (s d))) → AllByRecursion P (listed f s low)
unfolding listed
all-listed P f s low h = all-walk P f s low (terminated - low) h

all-of : (P : Entry → Type 0) (d : ℕ) (es : List Entry) → AllByRecursion P es → AllByRecursion P (entries_of d es)
all-of P d [] h = tt
all-of P d (e ∷ es) h = (let rest = all-of P d es h.1 in elim (d == e.doc) as (λ b. AllByRecursion P (if b then e ∷ entries_of d es else entries_of d es)) [ true ↦ (h.0, rest) | false ↦ rest ])

all-append : (P : Entry → Type 0) (xs ys : List Entry) → AllByRecursion P xs → AllByRecursion P ys → AllByRecursion P (xs ++ ys)
all-append P [] ys a b = b
all-append P (x ∷ xs) ys a b = (a.0, all-append P xs ys a.1 b)

all-at : {X : Type 0} (P : Entry → Type 0) (entries : X → List Entry) (d : ℕ) (xs : List X) → AllByRecursion (λ x. AllByRecursion P (entries x)) xs → AllByRecursion P (entries_at d (map entries xs))
all-at P entries d [] h = tt
all-at P entries d (x ∷ xs) h = all-append P (entries_of d (entries x)) (entries_at d (map entries xs)) (all-of P d (entries x) h.0) (all-at P entries d xs h.1)

-- what all documents of a meeting are, from what the entries are that meet
all-meeting : {X : Type 0} (P Q : Entry → Type 0) (entries : X → List Entry) (xs : List X) → 0 < length xs → AllByRecursion (λ x. AllByRecursion P (entries x)) xs → ((d : ℕ) (es : List Entry) → 0 < length es → AllByRecursion P es → AllByRecursion (λ e. e.doc ≡ d) es → Q (at_document d (joining d es))) → AllByRecursion Q (meeting (map entries xs))
all-meeting P Q entries xs some h made =
    let ess : List (List Entry) = map entries xs in
    all-listed Q (enough (length ess) ess) (λ d. joining d (entries_at d ess)) 0
    (λ d e. (let many = leb-true (length ess) (length (entries_at d ess)) e in let long = length-map xs entries in made d (entries_at d ess) (omega (arith, many, long, some)) (all-at P entries d xs h) (here-at d ess)))
  where
    here-of : (d : ℕ) (es : List Entry) → AllByRecursion (λ e. e.doc ≡ d) (entries_of d es)
    here-of d [] = tt
    here-of d (e ∷ es) = (elim (d == e.doc) as (λ b. (d == e.doc) ≡ b → AllByRecursion (λ e. e.doc ≡ d) (if b then e ∷ entries_of d es else entries_of d es)) [ true ↦ (λ h. (grind (arith, nat_tests, h), here-of d es)) | false ↦ (λ h. here-of d es) ]) refl

    here-at : (d : ℕ) (ess : List (List Entry)) → AllByRecursion (λ e. e.doc ≡ d) (entries_at d ess)
    here-at d [] = tt
    here-at d (es ∷ ess) = all-append (λ e. e.doc ≡ d) (entries_of d es) (entries_at d ess) (here-of d es) (here-at d ess)

-- ---- columns

abbrev HasColumn : Entry → Type 0
HasColumn e = (length e.positions ≡ 1) × AreColumns e.positions

columns-append : (xs ys : List (List ℕ)) → AreColumns xs → AreColumns ys → AreColumns (xs ++ ys)
columns-append [] ys a b = b
columns-append (x ∷ xs) ys a b = (a.0, a.1, columns-append xs ys a.2 b)

columns-joined : (es : List Entry) → AllByRecursion HasColumn es → AreColumns (flat_map (λ e. e.positions) es)
columns-joined [] h = tt
columns-joined (e ∷ es) h = columns-append e.positions (flat_map (λ e. e.positions) es) h.0.1 (columns-joined es h.1)

columns-some : (es : List Entry) → 0 < length es → AllByRecursion HasColumn es → 0 < length (flat_map (λ e. e.positions) es)
columns-some [] l h = absurd (omega (arith, l))
columns-some (e ∷ es) l h = (let both = length-append e.positions (flat_map (λ e. e.positions) es) in let one = h.0.0 in omega (arith, both, one))

columns-each : (es : List Entry) → HaveOneColumn es → AllByRecursion HasColumn es
columns-each [] c = tt
columns-each (e ∷ es) c = ((ap length c.0, subst AreColumns (sym c.0) (ascends-from (single e.positions) c.1, c.2, tt)), columns-each es c.3)

each : {X : Type 0} (P : X → Type 0) → ((x : X) → P x) → (xs : List X) → AllByRecursion P xs
each P h [] = tt
each P h (x ∷ xs) = (h x, each P h xs)

have-columns : (es : List Entry) → AllByRecursion (λ e. (0 < length e.positions) × AreColumns e.positions) es → HaveColumns es
have-columns [] h = tt
have-columns (e ∷ es) h = (h.0.0, h.0.1, have-columns es h.1)

pub HaveColumns-meeting : {X : Type 0} (entries : X → List Entry) → ((x : X) → HaveOneColumn (entries x)) → (xs : List X) → 0 < length xs → HaveColumns (meeting (map entries xs))
HaveColumns-meeting entries one xs some =
    have-columns (meeting (map entries xs)) (all-meeting HasColumn (λ e. (0 < length e.positions) × AreColumns e.positions) entries xs some (each (λ x. AllByRecursion HasColumn (entries x)) (λ x. columns-each (entries x) (one x)) xs) (λ d es l h here. (columns-some es l h, columns-joined es h)))

-- ---- lengths of columns

longest-append : (xs ys : List (List ℕ)) → longest (xs ++ ys) ≡ max (longest xs) (longest ys)
longest-append [] ys = omega arith
longest-append (x ∷ xs) ys = (let ih = longest-append xs ys in omega (arith, ih))

longest-joined : (n : ℕ) (es : List Entry) → AllByRecursion (λ e. longest e.positions ≤ n) es → longest (flat_map (λ e. e.positions) es) ≤ n
longest-joined n [] h = omega arith
longest-joined n (e ∷ es) h = (let both = longest-append e.positions (flat_map (λ e. e.positions) es) in let ih = longest-joined n es h.1 in let here = h.0 in omega (arith, both, ih, here))

longest-each : (n : ℕ) (es : List Entry) → HaveOneColumn es → most_positions es ≤ n → AllByRecursion (λ e. longest e.positions ≤ n) es
longest-each n [] c l = tt
longest-each n (e ∷ es) c l = ((let one = ap longest c.0 in omega (arith, one, l)), longest-each n es c.3 (omega (arith, l)))

longest-lists : {X : Type 0} (entries : X → List Entry) → ((x : X) → HaveOneColumn (entries x)) → (n : ℕ) (xs : List X) → greatest_of (map (λ x. most_positions (entries x)) xs) ≤ n → AllByRecursion (λ x. AllByRecursion (λ e. longest e.positions ≤ n) (entries x)) xs
longest-lists entries one n [] l = tt
longest-lists entries one n (x ∷ xs) l = (longest-each n (entries x) (one x) (omega (arith, l)), longest-lists entries one n xs (omega (arith, l)))

longest-small : (n : ℕ) (es : List Entry) → AllByRecursion (λ e. longest e.positions ≤ n) es → longest_column es ≤ n
longest-small n [] h = omega arith
longest-small n (e ∷ es) h = (let ih = longest-small n es h.1 in let here = h.0 in omega (arith, ih, here))

pub longest-meeting : {X : Type 0} (entries : X → List Entry) → ((x : X) → HaveOneColumn (entries x)) → (n : ℕ) (xs : List X) → 0 < length xs → greatest_of (map (λ x. most_positions (entries x)) xs) ≤ n → longest_column (meeting (map entries xs)) ≤ n
longest-meeting entries one n xs some l = longest-small n (meeting (map entries xs)) (all-meeting (λ e. longest e.positions ≤ n) (λ e. longest e.positions ≤ n) entries xs some (longest-lists entries one n xs l) (λ d es m h here. longest-joined n es h))

-- ---- documents

below-each : (n : ℕ) (es : List Entry) → documents_bound es ≤ n → AllByRecursion (λ e. e.doc < n) es
below-each n [] l = tt
below-each n (e ∷ es) l = (omega (arith, l), below-each n es (omega (arith, l)))

below-lists : {X : Type 0} (entries : X → List Entry) (n : ℕ) (xs : List X) → AllByRecursion (λ x. from n (entries x) ≡ []) xs → AllByRecursion (λ x. AllByRecursion (λ e. e.doc < n) (entries x)) xs
below-lists entries n [] h = tt
below-lists entries n (x ∷ xs) h = (below-each n (entries x) (bound-of n (entries x) h.0), below-lists entries n xs h.1)

below-bound : (n : ℕ) (es : List Entry) → AllByRecursion (λ e. e.doc < n) es → documents_bound es ≤ n
below-bound n [] h = omega arith
below-bound n (e ∷ es) h = (let ih = below-bound n es h.1 in let here = h.0 in omega (arith, ih, here))

first-below : (d n : ℕ) (es : List Entry) → 0 < length es → AllByRecursion (λ e. e.doc < n) es → AllByRecursion (λ e. e.doc ≡ d) es → d < n
first-below d n [] l h here = absurd (omega (arith, l))
first-below d n (e ∷ es) l h here = (let below = h.0 in let is = here.0 in omega (arith, below, is))

pub bound-meeting : {X : Type 0} (entries : X → List Entry) (n : ℕ) (xs : List X) → 0 < length xs → AllByRecursion (λ x. from n (entries x) ≡ []) xs → documents_bound (meeting (map entries xs)) ≤ n
bound-meeting entries n xs some covered = below-bound n (meeting (map entries xs)) (all-meeting (λ e. e.doc < n) (λ e. e.doc < n) entries xs some (below-lists entries n xs covered) (λ d es l h here. first-below d n es l h here))
