-- The documents where a phrase stands are what its query answers.
use Rattle.std.proofs.Common.{[], Bool, List, None, Option, Some, ap, arith, bytes_eq, false, filter, filter_map, if◌then◌else◌, le-leb, length, map, nat_le, nat_lt, refl, slice_get, slice_index, subst, suc, sym, true, true≢false, ◌&&◌, ◌||◌, ◌*◌, ◌+◌, ◌-◌, ◌<◌, ◌≡◌, ◌≤◌, ◌∙◌, ◌∷◌, get_or, zero, ℕ}
use Rattle.std.proofs.lemmas.Bool.{lt-leb}
use Rattle.std.proofs.lemmas.List.{length-map}
use Rattle.std.proofs.lemmas.Simd.{map-map}
use Rattle.std.specs.List.{cons_option, enumerate_from, list_any}
use Rattle.definitions.specs.ScoredLists.{ScoredList}
use Rattle.docsets.specs.Entries.{Entry}
use Rattle.definitions.specs.Analyzers.{Analyzer}
use Rattle.definitions.specs.Answers.{answer_at, answers}
use Rattle.definitions.specs.Phrases.{adjusted, by_offset, phrase_count, phrase_places}
use Rattle.definitions.specs.Postings.{posting_of, postings, terminated}
use Rattle.definitions.specs.Query.{Terms, phrase}
use Rattle.definitions.specs.Indexing.{Placed, terms_of}
use Rattle.definitions.specs.Recorded.{ascending, count_of, holds, is_recorded, occurrences, positions_of}
use Rattle.definitions.specs.Schema.{Schema, has_positions}
use Rattle.definitions.specs.Scoring.{Similarity, greatest_of, length_id, part, phrase_field, phrase_score, score, weight_sum}
use Rattle.definitions.specs.Values.{Document}
use Rattle.intersections.specs.Meetings.{meeting}
use Rattle.docsets.specs.ScoredEntries.{pairs_of}
use Rattle.docsets.proofs.MemberLaws.{listed-end, listed-found, listed-out, listed-same, listed-skip}
use Rattle.docsets.specs.Members.{at_document, at_least, enough, entries_at, joining, listed}
use Rattle.phrases.proofs.PhrasePlaces.{phrase-places}
use Rattle.phrases.specs.PhraseEntries.{adjusted_terms, phrased, placed}
use Rattle.phrases.specs.Places.{places_of}
use Rattle.leaf_weights.specs.PlacedAnswers.{placed_answers, placed_at, placed_entry}
use Rattle.leaf_weights.proofs.NoPlaces.{HasEmpty, empty-first, empty-later, no-places}
use Rattle.leaf_weights.proofs.TermsTogether.{all_here, at_first, at_later, at_none, columns_here, entry_in, few_here, holds_all, lists_from, read_from}

-- a document with the places of a phrase, where there are some
abbrev pub with_places : (ℕ → ℕ → ℕ) → ℕ → List ℕ → Entry
with_places earns n places = record { doc = n; score = earns n (length places); count = length places; positions = places ∷ [] }

entries_next : (earns : ℕ → ℕ → ℕ) (slop : ℕ) (e : Entry) (es : List Entry) (places : List ℕ) → places_of slop e.positions ≡ places → phrased earns slop (e ∷ es) ≡ cons_option (if nat_lt 0 (length places) then Some (with_places earns e.doc places) else None) (phrased earns slop es)
entries_next earns slop e es places are =
    ap (λ ps. if nat_lt 0 (length ps) then with_places earns e.doc ps ∷ phrased earns slop es else phrased earns slop es) are
    ∙ go (nat_lt 0 (length places))
  where
    go : (b : Bool) → (if b then with_places earns e.doc places ∷ phrased earns slop es else phrased earns slop es) ≡ cons_option (if b then Some (with_places earns e.doc places) else None) (phrased earns slop es)
    go true = refl
    go false = refl

-- none passes a test that no element passes
filter_no : {X : Type 0} (f : X → Bool) (xs : List X) → list_any f xs ≡ false → filter f xs ≡ []
filter_no f [] none = refl
filter_no f (x ∷ xs) none = go (f x) none (filter_no f xs)
  where
    go : (b : Bool) → (b || list_any f xs) ≡ false → (list_any f xs ≡ false → filter f xs ≡ []) → (if b then x ∷ filter f xs else filter f xs) ≡ []
    go true none rest = absurd (true≢false none)
    go false none rest = rest none

module _ (schema : Schema) (analyze : Analyzer) where
  abbrev positions_in : Document → List ℕ → List ℕ
  positions_in doc t = positions_of schema analyze t doc

  -- the columns of a phrase in a document
  abbrev columns_in : ℕ → Document → Terms → List (List ℕ)
  columns_in g doc ts = map (adjusted (positions_in doc) g) ts

  pub none_held : (t : List ℕ) (doc : Document) → holds schema analyze t doc ≡ false → positions_of schema analyze t doc ≡ []
  none_held t doc none = go (is_recorded has_positions schema t) (ap (map (λ (p : Placed). p.1)) (filter_no (λ (p : Placed). bytes_eq p.0 t) (terms_of schema analyze doc) none))
    where
      go : (b : Bool) → occurrences schema analyze t doc ≡ [] → (if b then ascending (occurrences schema analyze t doc) else []) ≡ []
      go true is = ap ascending is
      go false is = refl

  empty_column : (g : ℕ) (doc : Document) (ts : Terms) → holds_all schema analyze doc ts ≡ false → HasEmpty (columns_in g doc ts)
  empty_column g doc [] few = absurd (true≢false few)
  empty_column g doc (t ∷ ts) few = go (holds schema analyze t.1 doc) refl few (empty_column g doc ts)
    where
      go : (h : Bool) → holds schema analyze t.1 doc ≡ h → (h && holds_all schema analyze doc ts) ≡ false → (holds_all schema analyze doc ts ≡ false → HasEmpty (columns_in g doc ts)) → HasEmpty (columns_in g doc (t ∷ ts))
      go true is few rest = empty-later (adjusted (positions_in doc) g t) (columns_in g doc ts) (rest few)
      go false is few rest = subst (λ ps. HasEmpty (map (λ p. p + (g - t.0)) ps ∷ columns_in g doc ts)) (sym (none_held t.1 doc is)) (empty-first (columns_in g doc ts))

  module _ (sim : Similarity) (b : ℕ) (terms : Terms) (slop : ℕ) (sorted : by_offset terms ≡ terms) where
    abbrev greatest : ℕ
    greatest = greatest_of (map (λ t. t.0) terms)

    places_are : (doc : Document) → places_of slop (columns_in greatest doc terms) ≡ phrase_places (positions_in doc) terms slop
    places_are doc = ap (λ ts. places_of slop (columns_in greatest doc ts)) (sym sorted) ∙ phrase-places (positions_in doc) terms slop

    -- a document that lacks a term has none
    no_place : (doc : Document) → holds_all schema analyze doc terms ≡ false → phrase_places (positions_in doc) terms slop ≡ []
    no_place doc few = sym (places_are doc) ∙ no-places slop (columns_in greatest doc terms) (empty_column greatest doc terms few)

    -- and doesn't match
    lacking : (n : ℕ) (doc : Document) (rest : ScoredList) → holds_all schema analyze doc terms ≡ false → cons_option (answer_at schema analyze sim b (phrase terms slop) (n, doc)) rest ≡ rest
    lacking n doc rest few = ap (λ ps. cons_option (if nat_lt 0 (length ps) then Some (n, score schema analyze sim doc b (phrase terms slop)) else None) rest) (no_place doc few)

    -- a document where the phrase stands, with its places
    abbrev pub phrase_entry : (ℕ → ℕ → ℕ) → ℕ × Document → Option Entry
    phrase_entry earns (n, doc) = if nat_lt 0 (phrase_count schema analyze terms slop doc) then Some (with_places earns n (phrase_places (positions_in doc) terms slop)) else None

    -- the score of each document by how often the phrase stands in it, counted from a number
    abbrev pub AreScores : (ℕ → ℕ → ℕ) → ℕ → List Document → Type 0
    AreScores earns n docs = (place : ℕ) (doc : Document) (count : ℕ) → slice_get docs place ≡ Some doc → earns (n + place) count ≡ b * part (weight_sum sim.weight terms) count (slice_index sim.norms (length_id schema analyze (phrase_field terms) doc))

    scores_next : (earns : ℕ → ℕ → ℕ) (n : ℕ) (doc : Document) (docs : List Document) → AreScores earns n (doc ∷ docs) → AreScores earns (n + 1) docs
    scores_next earns n doc docs are place d count is = ap (λ k. earns k count) (let same : n + 1 + place ≡ n + suc place = omega arith in same) ∙ are (suc place) d count is

    -- the documents from one on that all terms have
    abbrev together : ℕ → List (List Entry) → List Entry
    together n ess = listed (enough (length terms) ess) (λ d. joining d (entries_at d ess)) n

    entries_from : (earns : ℕ → ℕ → ℕ) (n : ℕ) (docs : List Document) → 0 < length terms → n + length docs ≤ terminated → phrased earns slop (together n (lists_from schema analyze greatest n docs terms)) ≡ filter_map (phrase_entry earns) (enumerate_from n docs)
    entries_from earns n [] some fits =
        let ess : List (List Entry) = lists_from schema analyze greatest n [] terms in
        let entry : ℕ → Entry = λ d. joining d (entries_at d ess) in
        ap (phrased earns slop) (listed-skip (enough (length terms) ess) entry n terminated (omega (arith, fits)) (omega arith) (λ d l h. ap (λ es. nat_le (length terms) (length es)) (at_none schema analyze greatest d n terms) ∙ lt-leb (length terms) 0 some) ∙ listed-end (enough (length terms) ess) entry terminated (omega arith))
    entries_from earns n (doc ∷ docs) some fits =
        let ess : List (List Entry) = lists_from schema analyze greatest n (doc ∷ docs) terms in
        let next : List (List Entry) = lists_from schema analyze greatest (n + 1) docs terms in
        let rest = entries_from earns (n + 1) docs some (omega (arith, fits)) in
        let on : together (n + 1) ess ≡ together (n + 1) next = listed-same (enough (length terms) ess) (enough (length terms) next) (λ d. joining d (entries_at d ess)) (λ d. joining d (entries_at d next)) (n + 1)
        (λ d l h. ap (λ es. nat_le (length terms) (length es)) (at_later schema analyze greatest d n doc docs terms (omega (arith, l))))
        (λ d l h. ap (joining d) (at_later schema analyze greatest d n doc docs terms (omega (arith, l)))) in
        go (holds_all schema analyze doc terms) refl (ap (phrased earns slop) on ∙ rest)
      where
        go : (all : Bool) → holds_all schema analyze doc terms ≡ all
            → phrased earns slop (together (n + 1) (lists_from schema analyze greatest n (doc ∷ docs) terms)) ≡ filter_map (phrase_entry earns) (enumerate_from (n + 1) docs)
            → phrased earns slop (together n (lists_from schema analyze greatest n (doc ∷ docs) terms)) ≡ cons_option (phrase_entry earns (n, doc)) (filter_map (phrase_entry earns) (enumerate_from (n + 1) docs))
        go true all rest =
            let ess : List (List Entry) = lists_from schema analyze greatest n (doc ∷ docs) terms in
            let here = at_first schema analyze greatest n doc docs terms ∙ all_here schema analyze greatest n doc terms all in
            let many : length (map (entry_in schema analyze greatest n doc) terms) ≡ length terms = length-map terms (entry_in schema analyze greatest n doc) in
            let flag : enough (length terms) ess n ≡ true = ap (λ es. nat_le (length terms) (length es)) here ∙ le-leb (length terms) (length (map (entry_in schema analyze greatest n doc) terms)) (omega (arith, many)) in
            let first = listed-found (enough (length terms) ess) (λ d. joining d (entries_at d ess)) n (omega (arith, fits)) flag in
            let joined : Entry = joining n (entries_at n ess) in
            let columns : joined.positions ≡ columns_in greatest doc terms = ap (λ es. (joining n es).positions) here ∙ columns_here schema analyze greatest n doc terms in
            let places = ap (places_of slop) columns ∙ places_are doc in
            ap (phrased earns slop) first
            ∙ entries_next earns slop (at_document n joined) (together (n + 1) ess) (phrase_places (positions_in doc) terms slop) places
            ∙ ap (cons_option (phrase_entry earns (n, doc))) rest
        go false few rest =
            let ess : List (List Entry) = lists_from schema analyze greatest n (doc ∷ docs) terms in
            let less = few_here schema analyze greatest n doc terms few in
            let here = ap length (at_first schema analyze greatest n doc docs terms) in
            let flag : enough (length terms) ess n ≡ false = lt-leb (length terms) (length (entries_at n ess)) (omega (arith, less, here)) in
            ap (phrased earns slop) (listed-out (enough (length terms) ess) (λ d. joining d (entries_at d ess)) n (omega (arith, fits)) flag)
            ∙ rest
            ∙ sym (ap (λ ps. cons_option (if nat_lt 0 (length ps) then Some (with_places earns n ps) else None) (filter_map (phrase_entry earns) (enumerate_from (n + 1) docs))) (no_place doc few))

    -- the documents that all terms have and where the phrase stands, with its places
    pub phrase_entries : (earns : ℕ → ℕ → ℕ) (docs : List Document) → 0 < length terms → length docs ≤ terminated → phrased earns slop (adjusted_terms (map (λ t. (t.0, read_from schema analyze 0 docs t.1)) terms)) ≡ filter_map (phrase_entry earns) (enumerate_from 0 docs)
    phrase_entries earns docs some fits =
        let same = map-map (λ (t : ℕ × List Entry). placed (greatest - t.0) t.1) (λ (t : ℕ × List ℕ). (t.0, read_from schema analyze 0 docs t.1)) terms in
        let offsets = map-map (λ (t : ℕ × List Entry). t.0) (λ (t : ℕ × List ℕ). (t.0, read_from schema analyze 0 docs t.1)) terms in
        let many = length-map terms (λ (t : ℕ × List ℕ). placed (greatest - t.0) (read_from schema analyze 0 docs t.1)) in
        ap (λ ns. phrased earns slop (meeting (map (λ (t : ℕ × List Entry). placed (greatest_of ns - t.0) t.1) (map (λ (t : ℕ × List ℕ). (t.0, read_from schema analyze 0 docs t.1)) terms)))) offsets
        ∙ ap (λ ess. phrased earns slop (meeting ess)) same
        ∙ ap (λ k. phrased earns slop (at_least k joining (lists_from schema analyze greatest 0 docs terms))) many
        ∙ entries_from earns 0 docs some (omega (arith, fits))

    placed_from : (earns : ℕ → ℕ → ℕ) (n : ℕ) (docs : List Document) → AreScores earns n docs → filter_map (phrase_entry earns) (enumerate_from n docs) ≡ filter_map (placed_at schema analyze sim b terms slop) (enumerate_from n docs)
    placed_from earns n [] are = refl
    placed_from earns n (doc ∷ docs) are =
        let same : n + 0 ≡ n = omega arith in
        let earned = sym (ap (λ k. earns k (phrase_count schema analyze terms slop doc)) same) ∙ are 0 doc (phrase_count schema analyze terms slop doc) refl in
        go (nat_lt 0 (phrase_count schema analyze terms slop doc)) earned (placed_from earns (n + 1) docs (scores_next earns n doc docs are))
      where
        go : (h : Bool)
            → earns n (phrase_count schema analyze terms slop doc) ≡ b * phrase_score schema analyze sim doc terms slop
            → filter_map (phrase_entry earns) (enumerate_from (n + 1) docs) ≡ filter_map (placed_at schema analyze sim b terms slop) (enumerate_from (n + 1) docs)
            → cons_option (if h then Some (with_places earns n (phrase_places (positions_in doc) terms slop)) else None) (filter_map (phrase_entry earns) (enumerate_from (n + 1) docs)) ≡ cons_option (if h then Some (placed_entry schema analyze terms slop n doc (b * phrase_score schema analyze sim doc terms slop)) else None) (filter_map (placed_at schema analyze sim b terms slop) (enumerate_from (n + 1) docs))
        go true earned rest = ap (λ s. placed_entry schema analyze terms slop n doc s ∷ filter_map (phrase_entry earns) (enumerate_from (n + 1) docs)) earned ∙ ap (λ es. placed_entry schema analyze terms slop n doc (b * phrase_score schema analyze sim doc terms slop) ∷ es) rest
        go false earned rest = rest

    -- the documents that all terms have and where the phrase stands, each with its places and its score
    pub phrase_places_answer : (earns : ℕ → ℕ → ℕ) (docs : List Document) → 0 < length terms → length docs ≤ terminated → AreScores earns 0 docs → phrased earns slop (adjusted_terms (map (λ t. (t.0, read_from schema analyze 0 docs t.1)) terms)) ≡ placed_answers schema analyze sim b terms slop docs
    phrase_places_answer earns docs some fits are = phrase_entries earns docs some fits ∙ placed_from earns 0 docs are

    pairs_from : (earns : ℕ → ℕ → ℕ) (n : ℕ) (docs : List Document) → AreScores earns n docs → pairs_of (filter_map (phrase_entry earns) (enumerate_from n docs)) ≡ filter_map (answer_at schema analyze sim b (phrase terms slop)) (enumerate_from n docs)
    pairs_from earns n [] are = refl
    pairs_from earns n (doc ∷ docs) are =
        let same : n + 0 ≡ n = omega arith in
        let earned = sym (ap (λ k. earns k (phrase_count schema analyze terms slop doc)) same) ∙ are 0 doc (phrase_count schema analyze terms slop doc) refl in
        go (nat_lt 0 (phrase_count schema analyze terms slop doc)) earned (pairs_from earns (n + 1) docs (scores_next earns n doc docs are))
      where
        go : (h : Bool)
            → earns n (phrase_count schema analyze terms slop doc) ≡ score schema analyze sim doc b (phrase terms slop)
            → pairs_of (filter_map (phrase_entry earns) (enumerate_from (n + 1) docs)) ≡ filter_map (answer_at schema analyze sim b (phrase terms slop)) (enumerate_from (n + 1) docs)
            → pairs_of (cons_option (if h then Some (with_places earns n (phrase_places (positions_in doc) terms slop)) else None) (filter_map (phrase_entry earns) (enumerate_from (n + 1) docs))) ≡ cons_option (if h then Some (n, score schema analyze sim doc b (phrase terms slop)) else None) (filter_map (answer_at schema analyze sim b (phrase terms slop)) (enumerate_from (n + 1) docs))
        go true earned rest = ap (λ s. (n, s) ∷ pairs_of (filter_map (phrase_entry earns) (enumerate_from (n + 1) docs))) earned ∙ ap (λ ps. (n, score schema analyze sim doc b (phrase terms slop)) ∷ ps) rest
        go false earned rest = rest

    -- the documents that all terms have and where the phrase stands are its answers
    pub phrase_answers : (earns : ℕ → ℕ → ℕ) (docs : List Document) → 0 < length terms → length docs ≤ terminated → AreScores earns 0 docs → pairs_of (phrased earns slop (adjusted_terms (map (λ t. (t.0, read_from schema analyze 0 docs t.1)) terms))) ≡ answers schema analyze sim b (phrase terms slop) docs
    phrase_answers earns docs some fits are = ap pairs_of (phrase_entries earns docs some fits) ∙ pairs_from earns 0 docs are

    lacks : (doc : Document) (ts : Terms) (i : ℕ) (d : ℕ × List ℕ) → i < length ts → holds schema analyze (get_or ts i d).1 doc ≡ false → holds_all schema analyze doc ts ≡ false
    lacks doc [] i d within none = absurd (omega (arith, within))
    lacks doc (t ∷ ts) zero d within none = ap (λ h. h && holds_all schema analyze doc ts) none
    lacks doc (t ∷ ts) (suc i) d within none = go (holds schema analyze t.1 doc) (lacks doc ts i d (omega (arith, within)) none)
      where
        go : (h : Bool) → holds_all schema analyze doc ts ≡ false → (h && holds_all schema analyze doc ts) ≡ false
        go true rest = rest
        go false rest = refl

    no_answers_from : (i : ℕ) (d : ℕ × List ℕ) (n : ℕ) (docs : List Document) → i < length terms → filter_map (posting_of schema analyze (get_or terms i d).1) (enumerate_from n docs) ≡ [] → filter_map (answer_at schema analyze sim b (phrase terms slop)) (enumerate_from n docs) ≡ []
    no_answers_from i d n [] within none = refl
    no_answers_from i d n (doc ∷ docs) within none = go (holds schema analyze (get_or terms i d).1 doc) refl none (no_answers_from i d (n + 1) docs within)
      where
        go : (h : Bool) → holds schema analyze (get_or terms i d).1 doc ≡ h
            → cons_option (if h then Some (record { doc = n; count = count_of schema analyze (get_or terms i d).1 doc; positions = positions_of schema analyze (get_or terms i d).1 doc }) else None) (filter_map (posting_of schema analyze (get_or terms i d).1) (enumerate_from (n + 1) docs)) ≡ []
            → (filter_map (posting_of schema analyze (get_or terms i d).1) (enumerate_from (n + 1) docs) ≡ [] → filter_map (answer_at schema analyze sim b (phrase terms slop)) (enumerate_from (n + 1) docs) ≡ [])
            → cons_option (answer_at schema analyze sim b (phrase terms slop) (n, doc)) (filter_map (answer_at schema analyze sim b (phrase terms slop)) (enumerate_from (n + 1) docs)) ≡ []
        go true is none rest = absurd (let no : ⊥ = cc in no)
        go false is none rest = lacking n doc (filter_map (answer_at schema analyze sim b (phrase terms slop)) (enumerate_from (n + 1) docs)) (lacks doc terms i d within is) ∙ rest none

    -- and there are none where a term stands in no document
    pub no_answers : (i : ℕ) (d : ℕ × List ℕ) (docs : List Document) → i < length terms → postings schema analyze (get_or terms i d).1 docs ≡ [] → answers schema analyze sim b (phrase terms slop) docs ≡ []
    no_answers i d docs within none = no_answers_from i d 0 docs within none
