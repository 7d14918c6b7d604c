-- The postings of a term as a cursor tells them.
use Rattle.std.proofs.Common.{[], Bool, List, ap, arith, cond, drop, false, length, length-append, map, min, refl, replicate, subst, sum_by, sym, true, true≢false, ◌&&◌, ◌/◌, ◌<◌, ◌≡◌, ◌∙◌, ◌∷◌, ◌^◌, ℕ}
use Rattle.std.proofs.Math.Seq.{drop-nil, take-nil}
use Rattle.std.proofs.lemmas.List.{length-map}
use Rattle.std.proofs.lemmas.List.Sums.{sum_by-cons}
use Rattle.std.specs.List.{AllByRecursion}
use Rattle.codes.proofs.PositionNumbers.{length-differences as many_differences}
use Rattle.definitions.specs.Blocks.{block_len}
use Rattle.definitions.specs.Postings.{Posting}
use Rattle.definitions.specs.Schema.{IndexRecordOption, has_freq, has_positions}
use Rattle.layouts.specs.InvertedIndexes.{IsPosting}
use Rattle.layouts.specs.Positions.{ArePositions, differences, position_numbers}
use Rattle.layouts.specs.TermPostings.{skip_entries}
use Rattle.docsets.specs.Entries.{Entry, from, highest}
use Rattle.docsets.proofs.EntryLaws.{from-out}
use Rattle.segment_postings.specs.Reading.{HasPostings}
use Rattle.codes.specs.PositionPlaces.{places}
use Rattle.definitions.proofs.Lists.{no_numbers as none_of, docs_in}
use Rattle.segment_postings.specs.TermEntries.{HasPositions, IsPlaced, entries_of, term_entries}
use Rattle.segment_postings.proofs.WholeTerms.{freqs_too}
use Rattle.segment_reader.specs.OpenedTerms.{HasTerm, entries_of_postings, entry_as, positions_asked}

abbrev counts_in : List Posting → List ℕ
counts_in ps = map (λ (p : Posting). p.count) ps

abbrev lists_in : List Posting → List (List ℕ)
lists_in ps = map (λ (p : Posting). p.positions) ps

pub has_postings : (option : IndexRecordOption) (n : ℕ) (postings positions : List ℕ) (ps : List Posting) → HasTerm option n postings positions ps → HasPostings (has_freq option) (has_positions option) n postings (map (λ (p : Posting). p.doc) ps) (map (λ (p : Posting). p.count) ps)
has_postings option n postings positions ps h = record { option = option; ids = h.ids; postings = h.is_term.postings_are; many = length-map ps (λ (p : Posting). p.doc) ∙ h.many; counts_are = refl; positions_are = refl }

-- positions
lengths_are : (n : ℕ) (ps : List Posting) → AllByRecursion (IsPosting true n) ps → map length (lists_in ps) ≡ counts_in ps
lengths_are n [] all = refl
lengths_are n (p ∷ ps) all = ap (λ k. k ∷ map length (lists_in ps)) all.0.counted ∙ ap (λ ks. p.count ∷ ks) (lengths_are n ps all.1)

highest_below : (ns : List ℕ) → AllByRecursion (λ k. k < 2 ^ 31) ns → highest ns < 2 ^ 31
highest_below [] all = omega arith
highest_below (n ∷ ns) all = (let rest = highest_below ns all.1 in let here = all.0 in omega (arith, rest, here))

placed_are : (n : ℕ) (ps : List Posting) → AllByRecursion (IsPosting true n) ps → AllByRecursion IsPlaced (lists_in ps)
placed_are n [] all = tt
placed_are n (p ∷ ps) all = ((all.0.placed, highest_below p.positions all.0.placed_fit), placed_are n ps all.1)

pub has_positions_in : (option : IndexRecordOption) (n : ℕ) (postings positions : List ℕ) (ps : List Posting) → has_positions option ≡ true → HasTerm option n postings positions ps → HasPositions (map (λ (p : Posting). p.count) ps) (map (λ (p : Posting). p.positions) ps) (position_numbers (map (λ (p : Posting). p.positions) ps)) × ArePositions (position_numbers (map (λ (p : Posting). p.positions) ps)) positions
has_positions_in option n postings positions ps recorded h =
    let each : AllByRecursion (IsPosting true h.num_docs) ps = subst (λ b. AllByRecursion (IsPosting b h.num_docs) ps) recorded h.is_term.each_posting in
    (record { counted = lengths_are h.num_docs ps each; placed = placed_are h.num_docs ps each; numbers_are = refl }, subst (λ b. Rattle.layouts.specs.InvertedIndexes.HasPositions b (position_numbers (lists_in ps)) positions) recorded h.is_term.positions_are)

-- entries
pub whole_entries : (ps : List Posting) → term_entries (map (λ (p : Posting). p.doc) ps) (map (λ (p : Posting). p.count) ps) (map (λ (p : Posting). p.positions) ps) ≡ map (λ p. record { doc = p.doc; score = 0; count = p.count; positions = p.positions ∷ [] }) ps
whole_entries [] = refl
whole_entries (p ∷ ps) = ap (λ es. record { doc = p.doc; score = 0; count = p.count; positions = p.positions ∷ [] } ∷ es) (whole_entries ps)

-- counts and positions that aren't read
ones : (n : ℕ) (ps : List Posting) → length ps ≡ n → replicate {A = ℕ} n 1 ≡ map (λ (p : Posting). 1) ps
ones n ps long = ap (λ k. replicate {A = ℕ} k 1) (sym long) ∙ go ps
  where
    go : (qs : List Posting) → replicate {A = ℕ} (length qs) 1 ≡ map (λ (p : Posting). 1) qs
    go [] = refl
    go (q ∷ qs) = ap (λ (ks : List ℕ). 1 ∷ ks) (go qs)

all_ones : (ps : List Posting) → AllByRecursion (λ k. k ≡ 1) (counts_in ps) → map (λ (p : Posting). 1) ps ≡ counts_in ps
all_ones [] all = refl
all_ones (p ∷ ps) all = ap (λ k. k ∷ map (λ (q : Posting). 1) ps) (sym all.0) ∙ ap (λ ks. p.count ∷ ks) (all_ones ps all.1)

counts_by : (a b : Bool) (n : ℕ) (ps : List Posting) → (a ≡ false → AllByRecursion (λ k. k ≡ 1) (counts_in ps)) → length ps ≡ n → cond (a && b) (counts_in ps) (replicate n 1) ≡ map (λ (p : Posting). cond b p.count 1) ps
counts_by true true n ps alone long = refl
counts_by true false n ps alone long = ones n ps long
counts_by false true n ps alone long = ones n ps long ∙ all_ones ps (alone refl)
counts_by false false n ps alone long = ones n ps long

pub counts_as : (option asked : IndexRecordOption) (n : ℕ) (postings positions : List ℕ) (ps : List Posting) → HasTerm option n postings positions ps → cond (has_freq option && has_freq asked) (map (λ (p : Posting). p.count) ps) (replicate n 1) ≡ map (λ (p : Posting). cond (has_freq asked) p.count 1) ps
counts_as option asked n postings positions ps h = counts_by (has_freq option) (has_freq asked) n ps h.is_term.postings_are.posted.alone h.many

no_positions : (a b : Bool) (n : ℕ) (ps : List Posting) → (a && b) ≡ false → AllByRecursion (IsPosting a n) ps → AllByRecursion (λ (p : Posting). cond b p.positions [] ≡ []) ps
no_positions a b n [] none all = tt
no_positions true true n (p ∷ ps) none all = absurd (true≢false none)
no_positions true false n (p ∷ ps) none all = (refl, no_positions true false n ps none all.1)
no_positions false true n (p ∷ ps) none all = (none_of p.positions all.0.counted, no_positions false true n ps none all.1)
no_positions false false n (p ∷ ps) none all = (refl, no_positions false false n ps none all.1)

abbrev entry_by : Bool → Bool → Posting → Entry
entry_by counts wanted p = record { doc = p.doc; score = 0; count = cond counts p.count 1; positions = cond wanted p.positions [] ∷ [] }

entries_by : (b p : Bool) (ps : List Posting) → AllByRecursion (λ (x : Posting). cond p x.positions [] ≡ []) ps → entries_of (docs_in ps) (map (λ (x : Posting). cond b x.count 1) ps) [] ≡ map (entry_by b p) ps
entries_by b p [] none = refl
entries_by b p (x ∷ xs) none =
    let rest = entries_by b p xs none.1 in
    let count = cond b x.count 1 in
    let counts = map (λ (y : Posting). cond b y.count 1) xs in
    ap (λ ns. record { doc = x.doc; score = 0; count = count; positions = places 0 ns ∷ [] } ∷ entries_of (docs_in xs) counts (drop count [])) (take-nil count)
    ∙ ap (λ ns. record { doc = x.doc; score = 0; count = count; positions = [] ∷ [] } ∷ entries_of (docs_in xs) counts ns) (drop-nil count)
    ∙ ap (λ ns. record { doc = x.doc; score = 0; count = count; positions = ns ∷ [] } ∷ entries_of (docs_in xs) counts []) (sym none.0)
    ∙ ap (λ es. entry_by b p x ∷ es) rest

pub entries_as : (option asked : IndexRecordOption) (n : ℕ) (postings positions : List ℕ) (ps : List Posting) → (has_positions option && has_positions asked) ≡ false → HasTerm option n postings positions ps → entries_of (map (λ (p : Posting). p.doc) ps) (cond (has_freq option && has_freq asked) (map (λ (p : Posting). p.count) ps) (replicate n 1)) [] ≡ map (entry_as asked) ps
entries_as option asked n postings positions ps none h =
    ap (λ cs. entries_of (docs_in ps) cs []) (counts_as option asked n postings positions ps h)
    ∙ entries_by (has_freq asked) (has_positions asked) ps (no_positions (has_positions option) (has_positions asked) h.num_docs ps none h.is_term.each_posting)

pub reads_all : (option asked : IndexRecordOption) → (has_positions option && has_positions asked) ≡ true → (has_freq option ≡ true) × (has_positions option ≡ true) × (has_freq asked ≡ true) × (has_positions asked ≡ true)
reads_all option asked both = go (has_positions option) (has_positions asked) refl refl both
  where
    go : (a b : Bool) → has_positions option ≡ a → has_positions asked ≡ b → (a && b) ≡ true → (has_freq option ≡ true) × (has_positions option ≡ true) × (has_freq asked ≡ true) × (has_positions asked ≡ true)
    go true true p q all = (freqs_too option p, p, freqs_too asked q, q)
    go true false p q all = absurd (true≢false (sym all))
    go false b p q all = absurd (true≢false (sym all))

pub placed_as : (option asked : IndexRecordOption) (ps : List Posting) → (has_positions option && has_positions asked) ≡ true → term_entries (map (λ (p : Posting). p.doc) ps) (map (λ (p : Posting). p.count) ps) (map (λ (p : Posting). p.positions) ps) ≡ map (entry_as asked) ps
placed_as option asked ps both =
    let all = reads_all option asked both in
    whole_entries ps ∙ ap (λ b. map (entry_by b true) ps) (sym all.2) ∙ ap (λ b. map (entry_by (has_freq asked) b) ps) (sym all.3)

pub one_block : (option : IndexRecordOption) (n : ℕ) (postings positions : List ℕ) (ps : List Posting) → HasTerm option n postings positions ps → min 1 n ≡ 1
one_block option n postings positions ps h = (let some = h.is_term.has_postings in let many = h.many in omega (arith, some, many))

-- what is recorded, as the code tells it
abbrev pub told_postings : (option : IndexRecordOption) (counts positions : Bool) (n : ℕ) (bytes numbers : List ℕ) (ps : List Posting) → counts ≡ has_freq option → positions ≡ has_positions option → HasTerm option n bytes numbers ps → HasPostings counts positions n bytes (map (λ (p : Posting). p.doc) ps) (map (λ (p : Posting). p.count) ps)
told_postings option counts positions n bytes numbers ps a b h = record { option = option; ids = h.ids; postings = h.is_term.postings_are; many = length-map ps (λ (p : Posting). p.doc) ∙ h.many; counts_are = sym a; positions_are = sym b }

-- ---- what an opened cursor tells beside its entries

-- by as many entries as there are full blocks
pub entries_told : (option : IndexRecordOption) (ids : List ℕ) (ps : List Posting) → skip_entries option ids (length (map (λ (p : Posting). p.doc) ps) / block_len) 0 (map (λ (p : Posting). p.doc) ps) (map (λ (p : Posting). p.count) ps) ≡ entries_of_postings option ids ps
entries_told option ids ps = ap (λ n. skip_entries option ids (n / block_len) 0 (map (λ (p : Posting). p.doc) ps) (map (λ (p : Posting). p.count) ps)) (length-map ps (λ (p : Posting). p.doc))

pub entries_within : (asked : IndexRecordOption) (recorded : Bool) (n : ℕ) (ps : List Posting) → AllByRecursion (IsPosting recorded n) ps → from n (map (entry_as asked) ps) ≡ []
entries_within asked recorded n [] all = refl
entries_within asked recorded n (p ∷ ps) all = from-out n (entry_as asked p) (map (entry_as asked) ps) all.0.within ∙ entries_within asked recorded n ps all.1

many_numbers : (ps : List Posting) → length (position_numbers (lists_in ps)) ≡ sum_by (λ (p : Posting). length p.positions) ps
many_numbers [] = refl
many_numbers (p ∷ ps) =
    let rest = many_numbers ps in
    let here = many_differences 0 p.positions in
    let both = length-append (differences 0 p.positions) (position_numbers (lists_in ps)) in
    let all = sum_by-cons (λ (q : Posting). length q.positions) p ps in
    omega (arith, rest, here, both, all)

pub all_positions : (asked : IndexRecordOption) (ps : List Posting) → has_positions asked ≡ true → length (position_numbers (map (λ (p : Posting). p.positions) ps)) ≡ positions_asked asked ps
all_positions asked ps reads = many_numbers ps ∙ ap (λ b. sum_by (λ (p : Posting). length (cond b p.positions [])) ps) (sym reads)

pub none_asked : (option asked : IndexRecordOption) (n : ℕ) (postings positions : List ℕ) (ps : List Posting) → (has_positions option && has_positions asked) ≡ false → HasTerm option n postings positions ps → 0 ≡ positions_asked asked ps
none_asked option asked n postings positions ps none h = go ps (no_positions (has_positions option) (has_positions asked) h.num_docs ps none h.is_term.each_posting)
  where
    go : (qs : List Posting) → AllByRecursion (λ (p : Posting). cond (has_positions asked) p.positions [] ≡ []) qs → 0 ≡ sum_by (λ (p : Posting). length (cond (has_positions asked) p.positions [])) qs
    go [] all = refl
    go (q ∷ qs) all =
        let here = ap length all.0 in
        let rest = go qs all.1 in
        let both = sum_by-cons (λ (p : Posting). length (cond (has_positions asked) p.positions [])) q qs in
        omega (arith, here, rest, both)
