-- The skip entries of a term's postings tell the bounds of the blocks of documents.
use Rattle.std.proofs.Common.{[], ◌*◌, ◌+◌, ◌-◌, ◌/◌, ◌∙◌, ◌∷◌, ◌≡◌, ◌≤◌, Bool, List, None, Some, ap, ap₂, arith, drop, false, filter, filter_map, if◌then◌else◌, length, length-drop, length-take-le, map, refl, slice_get, suc, sym, take, true, zero, ℕ}
use Rattle.std.specs.List.{cons_option, drop-map, enumerate_from, take-map, zip}
use Rattle.std.proofs.lemmas.List.{length-map}
use Rattle.definitions.specs.Analyzers.{Analyzer}
use Rattle.definitions.specs.Blocks.{block_len, blocks, bound_of, id_and_count, ids_and_counts}
use Rattle.definitions.specs.Postings.{Posting, posting_of, postings}
use Rattle.definitions.specs.Recorded.{count_of, holds, positions_of}
use Rattle.definitions.specs.Schema.{IndexRecordOption, Schema}
use Rattle.definitions.specs.Scoring.{length_id}
use Rattle.definitions.specs.State.{groups_of}
use Rattle.definitions.specs.Terms.{field_of}
use Rattle.definitions.specs.Values.{Document}
use Rattle.layouts.specs.TermPostings.{bound_in, id_of, next_after, skip_entries}
use Rattle.layouts.proofs.EntryBounds.{entry_tells}

-- ---- pairs

zip-none : {X Y : Type 0} (xs : List X) → zip {X = Y} xs [] ≡ []
zip-none [] = refl
zip-none (x ∷ xs) = refl

zip-length : {X Y : Type 0} (xs : List X) (ys : List Y) → length xs ≡ length ys → length (zip xs ys) ≡ length ys
zip-length [] [] e = refl
zip-length [] (y ∷ ys) e = absurd (omega (arith, e))
zip-length (x ∷ xs) [] e = absurd (omega (arith, e))
zip-length (x ∷ xs) (y ∷ ys) e = let same : length xs ≡ length ys = omega (arith, e) in ap (λ n. suc n) (zip-length xs ys same)

pub zip-take : {X Y : Type 0} (n : ℕ) (xs : List X) (ys : List Y) → zip (take n xs) (take n ys) ≡ take n (zip xs ys)
zip-take zero xs ys = refl
zip-take (suc n) [] ys = refl
zip-take (suc n) (x ∷ xs) [] = refl
zip-take (suc n) (x ∷ xs) (y ∷ ys) = ap (λ l. (x, y) ∷ l) (zip-take n xs ys)

pub zip-drop : {X Y : Type 0} (n : ℕ) (xs : List X) (ys : List Y) → zip (drop n xs) (drop n ys) ≡ drop n (zip xs ys)
zip-drop zero xs ys = refl
zip-drop (suc n) [] ys = refl
zip-drop (suc n) (x ∷ xs) [] = zip-none (drop n xs)
zip-drop (suc n) (x ∷ xs) (y ∷ ys) = zip-drop n xs ys

-- ---- entries and groups

-- the first groups of more
take-groups : {X : Type 0} (n m k : ℕ) (xs : List X) → take n (groups_of (m + n) k xs) ≡ groups_of n k xs
take-groups zero m k xs = refl
take-groups (suc n) m k xs = let e : m + suc n ≡ suc (m + n) = omega arith in ap (λ j. take (suc n) (groups_of j k xs)) e ∙ ap (λ l. take k xs ∷ l) (take-groups n m k (drop k xs))

entries_bounds : (option : IndexRecordOption) (ids : List ℕ) (n next : ℕ) (docs counts : List ℕ) → length docs ≡ length counts → n * 128 ≤ length docs → map bound_in (skip_entries option ids n next docs counts) ≡ map bound_of (groups_of n 128 (zip (map (id_of ids) docs) counts))
entries_bounds option ids zero next docs counts same long = refl
entries_bounds option ids (suc n) next docs counts same long =
    let full : length (take 128 docs) ≡ 128 = length-take-le 128 docs (omega (arith, long)) in
    let many : length (take 128 counts) ≡ 128 = length-take-le 128 counts (omega (arith, long, same)) in
    let here = entry_tells option ids next (take 128 docs) (take 128 counts) full many ∙ ap bound_of (ap (λ l. zip l (take 128 counts)) (sym (take-map (id_of ids) 128 docs)) ∙ zip-take 128 (map (id_of ids) docs) counts) in
    let same_left : length (drop 128 docs) ≡ length (drop 128 counts) = length-drop 128 docs ∙ ap (λ k. k - 128) same ∙ sym (length-drop 128 counts) in
    let long_left : n * 128 ≤ length (drop 128 docs) = omega (arith, long, length-drop 128 docs) in
    let left = ap (λ l. zip l (drop 128 counts)) (sym (drop-map (id_of ids) 128 docs)) ∙ zip-drop 128 (map (id_of ids) docs) counts in
    ap₂ (λ one rest. one ∷ rest) here (entries_bounds option ids n (next_after docs) (drop 128 docs) (drop 128 counts) same_left long_left ∙ ap (λ l. map bound_of (groups_of n 128 l)) left)

-- ---- documents

module _ (schema : Schema) (analyze : Analyzer) (ids : List ℕ) (t : List ℕ) where
  -- the ids of documents, numbered from one on
  abbrev AreIds : ℕ → List Document → Type 0
  AreIds k docs = (index : ℕ) (doc : Document) → slice_get docs index ≡ Some doc → id_of ids (k + index) ≡ length_id schema analyze (field_of t) doc

  abbrev listed : ℕ → List Document → List Posting
  listed k docs = filter_map (posting_of schema analyze t) (enumerate_from k docs)

  pub ids_listed : (k : ℕ) (docs : List Document) → AreIds k docs → zip (map (id_of ids) (map (λ p. p.doc) (listed k docs))) (map (λ p. p.count) (listed k docs)) ≡ ids_and_counts schema analyze t docs
  ids_listed k [] are = refl
  ids_listed k (doc ∷ docs) are = go (holds schema analyze t doc) (ids_listed (k + 1) docs (λ index d is. let e : k + 1 + index ≡ k + suc index = omega arith in ap (id_of ids) e ∙ are (suc index) d is))
    where
      go : (b : Bool) → zip (map (id_of ids) (map (λ p. p.doc) (listed (k + 1) docs))) (map (λ p. p.count) (listed (k + 1) docs)) ≡ ids_and_counts schema analyze t docs
          → zip (map (id_of ids) (map (λ p. p.doc) (cons_option (if b then Some (record { doc = k; count = count_of schema analyze t doc; positions = positions_of schema analyze t doc }) else None) (listed (k + 1) docs)))) (map (λ p. p.count) (cons_option (if b then Some (record { doc = k; count = count_of schema analyze t doc; positions = positions_of schema analyze t doc }) else None) (listed (k + 1) docs)))
          ≡ map (id_and_count schema analyze t) (if b then doc ∷ filter (holds schema analyze t) docs else filter (holds schema analyze t) docs)
      go true h = let e : k ≡ k + 0 = omega arith in ap₂ (λ (id : ℕ) (l : List (ℕ × ℕ)). (id, count_of schema analyze t doc) ∷ l) (ap (id_of ids) e ∙ are 0 doc refl) h
      go false h = h

pub bounds_told : (schema : Schema) (analyze : Analyzer) (option : IndexRecordOption) (ids : List ℕ) (t : List ℕ) (docs : List Document)
    → ((index : ℕ) (doc : Document) → slice_get docs index ≡ Some doc → id_of ids index ≡ length_id schema analyze (field_of t) doc)
    → map bound_in (skip_entries option ids (length (postings schema analyze t docs) / block_len) 0 (map (λ p. p.doc) (postings schema analyze t docs)) (map (λ p. p.count) (postings schema analyze t docs)))
    ≡ map bound_of (take (length (postings schema analyze t docs) / block_len) (blocks schema analyze t docs))
bounds_told schema analyze option ids t docs are =
    let ps : List Posting = postings schema analyze t docs in
    let xs = ids_and_counts schema analyze t docs in
    let n : ℕ = length ps / 128 in
    let ds : List ℕ = map (λ (p : Posting). p.doc) ps in
    let cs : List ℕ = map (λ (p : Posting). p.count) ps in
    let zipped : zip (map (id_of ids) ds) cs ≡ xs = ids_listed schema analyze ids t 0 docs (λ index doc is. let e : 0 + index ≡ index = omega arith in ap (id_of ids) e ∙ are index doc is) in
    let docs_long : length ds ≡ length ps = length-map ps (λ (p : Posting). p.doc) in
    let counts_long : length cs ≡ length ps = length-map ps (λ (p : Posting). p.count) in
    let ids_long : length (map (id_of ids) ds) ≡ length ds = length-map ds (id_of ids) in
    let all_long : length xs ≡ length ps = ap length (sym zipped) ∙ zip-length (map (id_of ids) ds) cs (ids_long ∙ docs_long ∙ sym counts_long) ∙ counts_long in
    let m : ℕ = (length xs + 128 - 1) / 128 - n in
    let all : (length xs + 128 - 1) / 128 ≡ m + n = omega (arith, all_long) in
    let long : n * 128 ≤ length ds = omega (arith, docs_long) in
    entries_bounds option ids n 0 ds cs (docs_long ∙ sym counts_long) long
    ∙ ap (λ l. map bound_of (groups_of n 128 l)) zipped
    ∙ ap (map bound_of) (sym (take-groups n m 128 xs) ∙ ap (λ k. take n (groups_of k 128 xs)) (sym all))
