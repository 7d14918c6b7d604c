-- Terms as postings, and as lists of documents, counts and positions.
use Rattle.std.proofs.Common.{[], Bool, List, ap, ap₂, arith, drop, false, if◌then◌else◌, length, length-append, length-drop, length-take, map, refl, subst, sum, sum_by, sym, take, true, ◌++◌, ◌+◌, ◌-◌, ◌<◌, ◌≡◌, ◌∙◌, ◌∷◌, ◌^◌, ℕ}
use Rattle.std.proofs.lemmas.List.{length-map, take-append-drop}
use Rattle.std.proofs.lemmas.List.Sums.{sum_by-cons}
use Rattle.std.specs.List.{AllByRecursion}
use Rattle.definitions.proofs.Lists.{no_numbers}
use Rattle.segment_postings.specs.Placed.{HasNumbers, LastPositionsFit, term_of}
use Rattle.segment_postings.specs.Terms.{HasTerm}
use Rattle.definitions.specs.Postings.{Posting}
use Rattle.definitions.specs.Schema.{IndexRecordOption, basic, has_freq, has_positions, with_freqs, with_freqs_and_positions}
use Rattle.definitions.specs.Scoring.{DontFall}
use Rattle.layouts.specs.InvertedIndexes.{HasPositions, IsPosting, IsTerm}
use Rattle.layouts.specs.Positions.{ArePositions, differences, position_numbers}
use Rattle.layouts.specs.TermPostings.{AreTermPostings}
use Rattle.codes.proofs.AppendedPlaces.{length-places}
use Rattle.segment_postings.specs.Reading.{HasPostings}
use Rattle.segment_postings.proofs.Lists.{behind, first_of}
use Rattle.segment_postings.proofs.PositionLists.{differences_of_places}
use Rattle.codes.specs.PositionPlaces.{places}
use Rattle.codes.proofs.PositionNumbers.{length-differences}

-- ---- positions of one document

places_rise : (before : ℕ) (xs : List ℕ) → DontFall (places before xs)
places_rise before [] = tt
places_rise before (x ∷ []) = tt
places_rise before (x ∷ y ∷ xs) = (omega arith, places_rise (before + x) (y ∷ xs))

places_below : (m before : ℕ) (xs : List ℕ) → before + sum xs < m → AllByRecursion (λ p. p < m) (places before xs)
places_below m before [] few = tt
places_below m before (x ∷ xs) few = (let total : sum (x ∷ xs) ≡ x + sum xs = sum_by-cons (λ y. y) x xs in (omega (arith, total, few), places_below m (before + x) xs (omega (arith, total, few))))

last_below : (m before : ℕ) (ps : List ℕ) → DontFall (before ∷ ps) → AllByRecursion (λ p. p < m) ps → before < m → before + sum (differences before ps) < m
last_below m before [] falls small few = omega (arith, few)
last_below m before (p ∷ ps) falls small few =
    let total : sum (differences before (p ∷ ps)) ≡ (p - before) + sum (differences p ps) = sum_by-cons (λ y. y) (p - before) (differences p ps) in
    let least = falls.0 in
    let later = last_below m p ps falls.1 small.1 small.0 in
    omega (arith, total, least, later)

from_0 : (ps : List ℕ) → DontFall ps → DontFall (0 ∷ ps)
from_0 [] falls = tt
from_0 (p ∷ ps) falls = (omega arith, falls)

positions_bounded : (ps : List ℕ) → DontFall ps → AllByRecursion (λ p. p < 2 ^ 31) ps → sum (differences 0 ps) < 2 ^ 31
positions_bounded ps falls small = (let h = last_below (2 ^ 31) 0 ps (from_0 ps falls) small (omega arith) in omega (arith, h))

-- ---- postings out of lists

-- the positions of each document, by their numbers
abbrev cut : List ℕ → List ℕ → List (List ℕ)
cut [] numbers = []
cut (n ∷ ns) numbers = places 0 (take n numbers) ∷ cut ns (drop n numbers)

-- none for each document
abbrev none_each : List ℕ → List (List ℕ)
none_each [] = []
none_each (n ∷ ns) = [] ∷ none_each ns

-- lists of positions that fit counts
abbrev AreLists : Bool → List ℕ → List (List ℕ) → Type 0
AreLists recorded [] [] = Unit {0}
AreLists recorded [] (ps ∷ pss) = ⊥
AreLists recorded (n ∷ ns) [] = ⊥
AreLists recorded (n ∷ ns) (ps ∷ pss) = (length ps ≡ (if recorded then n else 0)) × DontFall ps × AllByRecursion (λ p. p < 2 ^ 31) ps × AreLists recorded ns pss

lists_none : (counts : List ℕ) → AreLists false counts (none_each counts)
lists_none [] = tt
lists_none (n ∷ ns) = (refl, tt, tt, lists_none ns)

lists_cut : (counts numbers : List ℕ) → length numbers ≡ sum counts → LastPositionsFit counts numbers → AreLists true counts (cut counts numbers)
lists_cut [] numbers many bounded = tt
lists_cut (n ∷ ns) numbers many bounded =
    let total : sum (n ∷ ns) ≡ n + sum ns = sum_by-cons (λ y. y) n ns in
    let few = bounded.0 in (
      length-places 0 (take n numbers) ∙ (let long : length (take n numbers) ≡ n = omega (arith, length-take n numbers, many, total) in long),
      places_rise 0 (take n numbers),
      places_below (2 ^ 31) 0 (take n numbers) (omega (arith, few)),
      lists_cut ns (drop n numbers) (omega (arith, length-drop n numbers, many, total)) bounded.1,
    )

numbers_cut : (counts numbers : List ℕ) → length numbers ≡ sum counts → position_numbers (cut counts numbers) ≡ numbers
numbers_cut [] numbers many = sym (no_numbers numbers many)
numbers_cut (n ∷ ns) numbers many =
    let total : sum (n ∷ ns) ≡ n + sum ns = sum_by-cons (λ y. y) n ns in
    ap₂ (λ xs ys. xs ++ ys) (differences_of_places 0 (take n numbers)) (numbers_cut ns (drop n numbers) (omega (arith, length-drop n numbers, many, total))) ∙ take-append-drop n numbers

-- a posting for each document
abbrev made : List ℕ → List ℕ → List (List ℕ) → List Posting
made [] counts lists = []
made (d ∷ ds) [] lists = []
made (d ∷ ds) (n ∷ ns) [] = []
made (d ∷ ds) (n ∷ ns) (ps ∷ pss) = record { doc = d; count = n; positions = ps } ∷ made ds ns pss

-- its lists are those that were given
record Made (recorded : Bool) (num_docs : ℕ) (docs counts : List ℕ) (lists : List (List ℕ)) : Type 0 where
  docs_are : map (λ (p : Posting). p.doc) (made docs counts lists) ≡ docs
  counts_are : map (λ (p : Posting). p.count) (made docs counts lists) ≡ counts
  lists_are : map (λ (p : Posting). p.positions) (made docs counts lists) ≡ lists
  each : AllByRecursion (IsPosting recorded num_docs) (made docs counts lists)

all_made : (recorded : Bool) (num_docs : ℕ) (docs counts : List ℕ) (lists : List (List ℕ)) → length counts ≡ length docs → AllByRecursion (λ d. d < num_docs) docs → AreLists recorded counts lists → Made recorded num_docs docs counts lists
all_made recorded num_docs [] [] [] same within are = record { docs_are = refl; counts_are = refl; lists_are = refl; each = tt }
all_made recorded num_docs [] [] (ps ∷ pss) same within are = absurd are
all_made recorded num_docs [] (n ∷ ns) lists same within are = absurd (omega (arith, same))
all_made recorded num_docs (d ∷ ds) [] lists same within are = absurd (omega (arith, same))
all_made recorded num_docs (d ∷ ds) (n ∷ ns) [] same within are = absurd are
all_made recorded num_docs (d ∷ ds) (n ∷ ns) (ps ∷ pss) same within are =
    let later = all_made recorded num_docs ds ns pss (omega (arith, same)) within.1 are.3 in
    record {
      docs_are = ap (λ xs. d ∷ xs) later.docs_are;
      counts_are = ap (λ xs. n ∷ xs) later.counts_are;
      lists_are = ap (λ xs. ps ∷ xs) later.lists_are;
      each = (record { within = within.0; counted = are.0; placed = are.1; placed_fit = are.2 }, later.each);
    }

sum_of_counts : (ps : List Posting) → sum (map (λ (p : Posting). p.count) ps) ≡ sum_by (λ (p : Posting). p.count) ps
sum_of_counts [] = refl
sum_of_counts (p ∷ ps) =
    let ih = sum_of_counts ps in
    let first = sum_by-cons (λ x. x) p.count (map (λ (q : Posting). q.count) ps) in
    let second = sum_by-cons (λ (q : Posting). q.count) p ps in
    omega (arith, ih, first, second)

-- ---- a term that was checked

-- a term that the bytes are
pub record Stands (option : IndexRecordOption) (num_docs doc_freq : ℕ) (ids postings_bytes positions_bytes : List ℕ) (total : ℕ) : Type 0 where
  pub postings : List Posting
  pub many : length postings ≡ doc_freq
  pub is : IsTerm option num_docs ids (term_of postings postings_bytes positions_bytes)
  pub total_is : total ≡ sum_by (λ (p : Posting). p.count) postings

stands : (option : IndexRecordOption) (num_docs doc_freq : ℕ) (ids postings_bytes positions_bytes : List ℕ) (total : ℕ) (h : HasTerm option ids num_docs doc_freq postings_bytes total) (lists : List (List ℕ)) → 0 < doc_freq → AreLists (has_positions option) h.counts lists → HasPositions (has_positions option) (position_numbers lists) positions_bytes → Stands option num_docs doc_freq ids postings_bytes positions_bytes total
stands option num_docs doc_freq ids postings_bytes positions_bytes total h lists some are positions =
    let m = all_made (has_positions option) num_docs h.docs h.counts lists h.postings.posted.same h.within are in
    let ps = made h.docs h.counts lists in
    let long = ap length m.docs_are in
    let count = h.many in
    let freq : length ps ≡ doc_freq = omega (arith, length-map ps (λ (p : Posting). p.doc), long, count) in
    record {
      postings = ps;
      many = freq;
      is = record {
        has_postings = omega (arith, freq, some);
        each_posting = m.each;
        postings_are = subst (λ ns. AreTermPostings option ids (map (λ (p : Posting). p.doc) ps) ns postings_bytes) (sym m.counts_are) (subst (λ ds. AreTermPostings option ids ds h.counts postings_bytes) (sym m.docs_are) h.postings);
        positions_are = subst (λ ls. HasPositions (has_positions option) (position_numbers ls) positions_bytes) (sym m.lists_are) positions;
      };
      total_is = h.total_is ∙ (ap sum (sym m.counts_are) ∙ sum_of_counts ps);
    }

pub stands_placed : (option : IndexRecordOption) (num_docs doc_freq : ℕ) (ids postings_bytes positions_bytes : List ℕ) (total : ℕ) → 0 < doc_freq → has_positions option ≡ true → (h : HasTerm option ids num_docs doc_freq postings_bytes total) → HasNumbers h.counts positions_bytes → Stands option num_docs doc_freq ids postings_bytes positions_bytes total
stands_placed option num_docs doc_freq ids postings_bytes positions_bytes total some recorded h n =
    let lists = cut h.counts n.numbers in
    stands option num_docs doc_freq ids postings_bytes positions_bytes total h lists some
    (subst (λ b. AreLists b h.counts lists) (sym recorded) (lists_cut h.counts n.numbers n.many n.bounded))
    (subst (λ b. HasPositions b (position_numbers lists) positions_bytes) (sym recorded) (subst (λ xs. ArePositions xs positions_bytes) (sym (numbers_cut h.counts n.numbers n.many)) n.stand))

pub stands_alone : (option : IndexRecordOption) (num_docs doc_freq : ℕ) (ids postings_bytes positions_bytes : List ℕ) (total : ℕ) → 0 < doc_freq → has_positions option ≡ false → HasTerm option ids num_docs doc_freq postings_bytes total → positions_bytes ≡ [] → Stands option num_docs doc_freq ids postings_bytes positions_bytes total
stands_alone option num_docs doc_freq ids postings_bytes positions_bytes total some none h empty =
    let lists = none_each h.counts in
    stands option num_docs doc_freq ids postings_bytes positions_bytes total h lists some
    (subst (λ b. AreLists b h.counts lists) (sym none) (lists_none h.counts))
    (subst (λ b. HasPositions b (position_numbers lists) positions_bytes) (sym none) empty)

-- ---- what a term has

pub docs_within : (recorded : Bool) (num_docs : ℕ) (ps : List Posting) → AllByRecursion (IsPosting recorded num_docs) ps → AllByRecursion (λ d. d < num_docs) (map (λ (p : Posting). p.doc) ps)
docs_within recorded num_docs [] each = tt
docs_within recorded num_docs (p ∷ ps) each = (each.0.within, docs_within recorded num_docs ps each.1)

abbrev pub has_term : (option : IndexRecordOption) (num_docs doc_freq : ℕ) (ids postings_bytes positions_bytes : List ℕ) (ps : List Posting) → length ps ≡ doc_freq → IsTerm option num_docs ids (term_of ps postings_bytes positions_bytes) → HasTerm option ids num_docs doc_freq postings_bytes (sum (map (λ (p : Posting). p.count) ps))
has_term option num_docs doc_freq ids postings_bytes positions_bytes ps many t = record {
  docs = map (λ (p : Posting). p.doc) ps;
  counts = map (λ (p : Posting). p.count) ps;
  many = length-map ps (λ (p : Posting). p.doc) ∙ many;
  within = docs_within (has_positions option) num_docs ps t.each_posting;
  postings = t.postings_are;
  total_is = refl;
}

-- its positions
record Counted (ps : List Posting) : Type 0 where
  many : length (position_numbers (map (λ (p : Posting). p.positions) ps)) ≡ sum (map (λ (p : Posting). p.count) ps)
  bounded : LastPositionsFit (map (λ (p : Posting). p.count) ps) (position_numbers (map (λ (p : Posting). p.positions) ps))

counted : (num_docs : ℕ) (ps : List Posting) → AllByRecursion (IsPosting true num_docs) ps → Counted ps
counted num_docs [] each = record { many = refl; bounded = tt }
counted num_docs (p ∷ ps) each =
    let later = counted num_docs ps each.1 in
    let first = differences 0 p.positions in
    let rest = position_numbers (map (λ (q : Posting). q.positions) ps) in
    let long : length first ≡ p.count = length-differences 0 p.positions ∙ each.0.counted in
    let total : sum (p.count ∷ map (λ (q : Posting). q.count) ps) ≡ p.count + sum (map (λ (q : Posting). q.count) ps) = sum_by-cons (λ x. x) p.count (map (λ (q : Posting). q.count) ps) in
    let many = later.many in
    record {
      many = omega (arith, length-append first rest, long, many, total);
      bounded = (
        subst (λ xs. sum xs < 2 ^ 31) (sym (first_of p.count first rest long)) (positions_bounded p.positions each.0.placed each.0.placed_fit),
        subst (λ xs. LastPositionsFit (map (λ (q : Posting). q.count) ps) xs) (sym (behind p.count first rest long)) later.bounded,
      );
    }

pub has_numbers : (option : IndexRecordOption) (num_docs : ℕ) (ids postings_bytes positions_bytes : List ℕ) (ps : List Posting) → has_positions option ≡ true → IsTerm option num_docs ids (term_of ps postings_bytes positions_bytes) → HasNumbers (map (λ (p : Posting). p.count) ps) positions_bytes
has_numbers option num_docs ids postings_bytes positions_bytes ps recorded t =
    let c = counted num_docs ps (subst (λ b. AllByRecursion (IsPosting b num_docs) ps) recorded t.each_posting) in
    record {
      numbers = position_numbers (map (λ (p : Posting). p.positions) ps);
      stand = subst (λ b. HasPositions b (position_numbers (map (λ (p : Posting). p.positions) ps)) positions_bytes) recorded t.positions_are;
      many = c.many;
      bounded = c.bounded;
    }

pub has_nothing : (option : IndexRecordOption) (num_docs : ℕ) (ids postings_bytes positions_bytes : List ℕ) (ps : List Posting) → has_positions option ≡ false → IsTerm option num_docs ids (term_of ps postings_bytes positions_bytes) → positions_bytes ≡ []
has_nothing option num_docs ids postings_bytes positions_bytes ps none t = subst (λ b. HasPositions b (position_numbers (map (λ (p : Posting). p.positions) ps)) positions_bytes) none t.positions_are

-- ---- what is known of its postings

pub freqs_too : (option : IndexRecordOption) → has_positions option ≡ true → has_freq option ≡ true
freqs_too basic recorded = absurd cc
freqs_too with_freqs recorded = absurd cc
freqs_too with_freqs_and_positions recorded = refl

pub known_postings : (option : IndexRecordOption) (ids : List ℕ) (num_docs doc_freq : ℕ) (bytes : List ℕ) (total : ℕ) → has_positions option ≡ true → (h : HasTerm option ids num_docs doc_freq bytes total) → HasPostings true true doc_freq bytes h.docs h.counts
known_postings option ids num_docs doc_freq bytes total recorded h = record { option = option; ids = ids; postings = h.postings; many = h.many; counts_are = freqs_too option recorded; positions_are = recorded }
