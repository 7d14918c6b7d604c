-- The segment of three books: its terms are all that they hold.
use Rattle.std.proofs.Common.{[], Bool, List, None, Some, arith, false, filter_map, flat_map, if◌then◌else◌, length, refl, slice_index, subst, suc, sym, true, true≢false, zero, ◌+◌, ◌<◌, ◌^◌, ◌||◌, ◌∷◌, ◌≡◌, bytes_eq, ℕ}
use Rattle.std.specs.List.{All, AllByRecursion, cons_option, enumerate_from, list_any}
use Rattle.std.proofs.lemmas.Slice.Eq.{bytes_eq-Decides}
use Rattle.std.proofs.lemmas.Str.{IsUtf8-from_is_utf8}
use Rattle.definitions.specs.Analyzers.{Analyzer, raw_and_default}
use Rattle.definitions.specs.Examples.{books, three_books}
use Rattle.definitions.specs.Indexing.{Placed, terms_of}
use Rattle.definitions.specs.KeptLengths.{norms_of}
use Rattle.definitions.specs.NumberCodes.{vint_bytes}
use Rattle.definitions.specs.Postings.{Posting, posting_of}
use Rattle.definitions.specs.Recorded.{count_of, holds, positions_of}
use Rattle.definitions.specs.Schema.{Schema}
use Rattle.definitions.specs.Values.{Document}
use Rattle.definitions.proofs.OnLiterals.{definitions_on_literals}
use Rattle.layouts.specs.InvertedIndexes.{AreIndexed, AreSections, IsField, IsPosting, all_terms}
use Rattle.layouts.specs.Positions.{ArePositions}
use Rattle.layouts.specs.Stores.{Block, IsStore}
use Rattle.layouts.specs.TermExamples.{titles, years}
use Rattle.layouts.specs.TermPostings.{postings_bytes}
use Rattle.segment_definitions.specs.SegmentExamples.{block_of, book_fields, book_sections}
use Rattle.segment_definitions.specs.Segments.{IsSegmentOf, IsTaken, segment_bytes}
use Rattle.segment_definitions.specs.Slots.{slots}

-- ---- each term that a document holds is there

-- the terms are in a list
abbrev AreIn : List (List ℕ) → List Placed → Type 0
AreIn listed ps = AllByRecursion (λ (p : Placed). list_any (bytes_eq p.0) listed ≡ true) ps

held_is_in : (listed : List (List ℕ)) (t : List ℕ) (ps : List Placed) → AreIn listed ps → list_any (λ (p : Placed). bytes_eq p.0 t) ps ≡ true → list_any (bytes_eq t) listed ≡ true
held_is_in listed t [] are held = absurd (true≢false (sym held))
held_is_in listed t (p ∷ ps) are held = go (bytes_eq p.0 t) refl held (held_is_in listed t ps are.1)
  where
    go : (b : Bool) → bytes_eq p.0 t ≡ b → (b || list_any (λ (q : Placed). bytes_eq q.0 t) ps) ≡ true → (list_any (λ (q : Placed). bytes_eq q.0 t) ps ≡ true → list_any (bytes_eq t) listed ≡ true) → list_any (bytes_eq t) listed ≡ true
    go true same held more = subst (λ (u : List ℕ). list_any (bytes_eq u) listed ≡ true) ((bytes_eq-Decides p.0 t).0 same) are.0
    go false other held more = more held

module _ (schema : Schema) (analyze : Analyzer) (t : List ℕ) where
  -- a posting is of a document that holds the term
  posting_held : (id : ℕ) (docs : List Document) → 0 < length (filter_map (posting_of schema analyze t) (enumerate_from id docs)) → list_any (holds schema analyze t) docs ≡ true
  posting_held id [] some = absurd (omega (arith, some))
  posting_held id (doc ∷ docs) some = go (holds schema analyze t doc) some (posting_held (id + 1) docs)
    where
      rest : List Posting
      rest = filter_map (posting_of schema analyze t) (enumerate_from (id + 1) docs)

      go : (b : Bool) → 0 < length (cons_option (if b then Some (record { doc = id; count = count_of schema analyze t doc; positions = positions_of schema analyze t doc }) else None) rest) → (0 < length rest → list_any (holds schema analyze t) docs ≡ true) → (b || list_any (holds schema analyze t) docs) ≡ true
      go true some more = refl
      go false some more = more some

  all_held : (listed : List (List ℕ)) (docs : List Document) → AllByRecursion (λ (doc : Document). AreIn listed (terms_of schema analyze doc)) docs → list_any (holds schema analyze t) docs ≡ true → list_any (bytes_eq t) listed ≡ true
  all_held listed [] are held = absurd (true≢false (sym held))
  all_held listed (doc ∷ docs) are held = go (holds schema analyze t doc) refl held (all_held listed docs are.1)
    where
      go : (b : Bool) → holds schema analyze t doc ≡ b → (b || list_any (holds schema analyze t) docs) ≡ true → (list_any (holds schema analyze t) docs ≡ true → list_any (bytes_eq t) listed ≡ true) → list_any (bytes_eq t) listed ≡ true
      go true here held more = held_is_in listed t (terms_of schema analyze doc) are.0 here
      go false other held more = more held

books_held : AllByRecursion (λ (doc : Document). AreIn (all_terms books book_fields) (terms_of books raw_and_default doc)) three_books
unfolding definitions_on_literals
books_held = ((refl, (refl, (refl, (refl, tt)))), ((refl, (refl, (refl, (refl, tt)))), ((refl, (refl, tt)), tt)))

books_indexed : AreIndexed books raw_and_default three_books book_fields
unfolding definitions_on_literals
books_indexed = record {
  each_field = ((refl, (refl, (refl, (refl, tt)))), ((refl, (refl, tt)), tt));
  all = λ t some. all_held books raw_and_default t (all_terms books book_fields) three_books books_held (posting_held books raw_and_default t 0 three_books some);
}

-- ---- the sections

small : (most : ℕ) (ns : List ℕ) → 0 < most → AllByRecursion (λ n. n < most) ns → (i : ℕ) → slice_index ns i < most
small most [] some are i = some
small most (n ∷ ns) some are zero = are.0
small most (n ∷ ns) some are (suc i) = small most ns some are.1 i

-- the numbers of positions that fit in one rest
a_rest : (numbers packed : List ℕ) → length numbers < 128 → AllByRecursion (λ n. n < 2 ^ 31) numbers → packed ≡ flat_map vint_bytes numbers → ArePositions numbers (0x80 ∷ packed)
unfolding vint_bytes
a_rest numbers packed few are is = record { widths = []; packed = packed; bytes_are = refl; blocks = (few, is); small = small (2 ^ 31) numbers (omega arith) are }

one_posting : (doc position : ℕ) → doc < 3 → position < 2 ^ 31 → IsPosting true 3 (record { doc = doc; count = 1; positions = position ∷ [] })
one_posting doc position within fits = record { within = within; counted = refl; placed = tt; placed_fit = (fits, tt) }

year_posting : (doc : ℕ) → doc < 3 → IsPosting false 3 (record { doc = doc; count = 1; positions = [] })
year_posting doc within = record { within = within; counted = refl; placed = tt; placed_fit = tt }

titles_are : IsField books 3 (norms_of books raw_and_default three_books) titles
unfolding definitions_on_literals vint_bytes postings_bytes
titles_are = record {
  ascend = (refl, (refl, (refl, tt)));
  terms_fit = omega arith;
  tokens_fit = omega arith;
  each_term = (
    record { has_postings = omega arith; each_posting = (one_posting 0 1 (omega arith) (omega arith), tt); postings_are = record { posted = record { same = refl; ascending = (omega arith, tt); docs_fit = (omega arith, tt); counts_fit = ((omega arith, omega arith), tt); alone = λ e. (refl, tt); sums_fit = λ e. tt }; bytes_are = refl }; positions_are = a_rest (1 ∷ []) (0x81 ∷ []) (omega arith) (omega arith, tt) refl },
    (
      record { has_postings = omega arith; each_posting = (one_posting 0 2 (omega arith) (omega arith), (record { within = omega arith; counted = refl; placed = (omega arith, tt); placed_fit = (omega arith, (omega arith, tt)) }, tt)); postings_are = record { posted = record { same = refl; ascending = (omega arith, (omega arith, tt)); docs_fit = (omega arith, (omega arith, tt)); counts_fit = ((omega arith, omega arith), ((omega arith, omega arith), tt)); alone = λ e. absurd (true≢false e); sums_fit = λ e. tt }; bytes_are = refl }; positions_are = a_rest (2 ∷ 0 ∷ 1 ∷ []) (0x82 ∷ 0x80 ∷ 0x81 ∷ []) (omega arith) (omega arith, (omega arith, (omega arith, tt))) refl },
      (
        record { has_postings = omega arith; each_posting = (one_posting 0 0 (omega arith) (omega arith), tt); postings_are = record { posted = record { same = refl; ascending = (omega arith, tt); docs_fit = (omega arith, tt); counts_fit = ((omega arith, omega arith), tt); alone = λ e. (refl, tt); sums_fit = λ e. tt }; bytes_are = refl }; positions_are = a_rest (0 ∷ []) (0x80 ∷ []) (omega arith) (omega arith, tt) refl },
        (record { has_postings = omega arith; each_posting = (one_posting 1 2 (omega arith) (omega arith), (one_posting 2 0 (omega arith) (omega arith), tt)); postings_are = record { posted = record { same = refl; ascending = (omega arith, (omega arith, tt)); docs_fit = (omega arith, (omega arith, tt)); counts_fit = ((omega arith, omega arith), ((omega arith, omega arith), tt)); alone = λ e. (refl, (refl, tt)); sums_fit = λ e. tt }; bytes_are = refl }; positions_are = a_rest (2 ∷ 0 ∷ []) (0x82 ∷ 0x80 ∷ []) (omega arith) (omega arith, (omega arith, tt)) refl }, tt),
      ),
    ),
  );
}

years_are : IsField books 3 (norms_of books raw_and_default three_books) years
unfolding definitions_on_literals vint_bytes postings_bytes
years_are = record {
  ascend = (refl, tt);
  terms_fit = omega arith;
  tokens_fit = omega arith;
  each_term = (
    record { has_postings = omega arith; each_posting = (year_posting 0 (omega arith), (year_posting 2 (omega arith), tt)); postings_are = record { posted = record { same = refl; ascending = (omega arith, (omega arith, tt)); docs_fit = (omega arith, (omega arith, tt)); counts_fit = ((omega arith, omega arith), ((omega arith, omega arith), tt)); alone = λ e. (refl, (refl, tt)); sums_fit = λ e. absurd (true≢false (sym e)) }; bytes_are = refl }; positions_are = refl },
    (record { has_postings = omega arith; each_posting = (year_posting 1 (omega arith), tt); postings_are = record { posted = record { same = refl; ascending = (omega arith, tt); docs_fit = (omega arith, tt); counts_fit = ((omega arith, omega arith), tt); alone = λ e. (refl, tt); sums_fit = λ e. absurd (true≢false (sym e)) }; bytes_are = refl }; positions_are = refl }, tt),
  );
}

books_sections : AreSections books 3 (norms_of books raw_and_default three_books) book_fields book_sections.terms book_sections.postings book_sections.positions
books_sections = record { names = refl; each_field = (titles_are, (years_are, tt)); terms_are = (false, refl); postings_are = refl; positions_are = refl }

-- ---- the store and the documents

block_filled : All (λ (b : Block). 0 < b.count) (block_of (slots books three_books) ∷ [])
block_filled zero d l = omega arith
block_filled (suc k) d l = absurd (omega (arith, l))

books_stored : IsStore (slots books three_books) book_sections.store
unfolding vint_bytes
books_stored = (block_of (slots books three_books) ∷ [], record { nonempty = block_filled; docs = omega arith }, (slots books three_books, [], refl, refl, record { bytes_are = refl; starts_fit = small (2 ^ 32) (0 ∷ 31 ∷ 63 ∷ []) (omega arith) (omega arith, (omega arith, (omega arith, tt))); count_fits = omega arith }, refl), refl)

books_taken : AllByRecursion (IsTaken books) three_books
unfolding definitions_on_literals
books_taken = (
  (((omega arith, IsUtf8-from_is_utf8 _ refl), ((omega arith, omega arith), tt)), refl),
  (
    (((omega arith, IsUtf8-from_is_utf8 _ refl), ((omega arith, omega arith), tt)), refl),
    ((((omega arith, IsUtf8-from_is_utf8 _ refl), ((omega arith, omega arith), tt)), refl), tt),
  ),
)

pub book_segment : IsSegmentOf books raw_and_default three_books (segment_bytes 3 book_sections)
unfolding definitions_on_literals vint_bytes postings_bytes
book_segment = record {
  sections = book_sections;
  fields = book_fields;
  taken = books_taken;
  written = record { has_documents = omega arith; num_docs_fit = omega arith; short = (let long : length (segment_bytes 3 book_sections) ≡ 302 = refl in omega (arith, long)); bytes_are = refl };
  terms_are = books_sections;
  keyed = ((refl, (refl, (refl, (refl, tt)))), ((refl, (refl, tt)), tt));
  indexed = books_indexed;
  norms_are = record { names = refl; counts = (refl, (refl, tt)); spelled = refl };
  store_is = books_stored;
}
