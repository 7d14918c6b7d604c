-- No document scores above the bound of its block.
use Rattle.std.proofs.Common.{[], ◌*◌, ◌+◌, ◌-◌, ◌/◌, ◌<◌, ◌∙◌, ◌∷◌, ◌≡◌, ◌≤◌, ◌||◌, Bool, List, ap, ap₂, arith, drop, false, filter, if◌then◌else◌, le_trans, length, map, mul-le-mul_left, refl, slice_index, suc, true, zero, ℕ}
use Rattle.std.specs.List.{AllByRecursion, drop-map, list_any, take-map}
use Rattle.std.proofs.lemmas.List.{length-map}
use Rattle.definitions.specs.Analyzers.{Analyzer}
use Rattle.definitions.specs.Blocks.{block_len, blocks, bound_of, bound_score, document_blocks, id_and_count}
use Rattle.definitions.specs.Indexing.{terms_of}
use Rattle.definitions.specs.Lengths.{fieldnorm_to_id, len_of}
use Rattle.definitions.specs.Recorded.{count_of, holds, is_recorded, occurrences}
use Rattle.definitions.specs.Schema.{IndexRecordOption, Schema, field_has, has_freq, keeps_length}
use Rattle.definitions.specs.Scoring.{IsSimilarity, Similarity, length_id, part, query_count, term_score}
use Rattle.definitions.specs.State.{groups_of, pieces}
use Rattle.definitions.specs.Terms.{field_of}
use Rattle.definitions.specs.Values.{Document}
use Rattle.definitions.proofs.BlockBounds.{each_below_bound, part_rises}
use Rattle.definitions.proofs.LengthIds.{greatest_id_within}
use Rattle.definitions.proofs.Lists.{all_take as all-take, all_drop as all-drop}

-- ---- pieces

groups-map : {X Y : Type 0} (f : X → Y) (more n : ℕ) (xs : List X) → groups_of more n (map f xs) ≡ map (map f) (groups_of more n xs)
groups-map f zero n xs = refl
groups-map f (suc more) n xs = ap₂ (λ one rest. one ∷ rest) (take-map f n xs) (ap (groups_of more n) (drop-map f n xs) ∙ groups-map f more n (drop n xs))

-- the pieces of what is made of elements
pub pieces-map : {X Y : Type 0} (f : X → Y) (n : ℕ) (xs : List X) → pieces n (map f xs) ≡ map (map f) (pieces n xs)
pieces-map f n xs = ap (λ k. groups_of ((k + n - 1) / n) n (map f xs)) (length-map xs f) ∙ groups-map f ((length xs + n - 1) / n) n xs

pub blocks_of_documents : (schema : Schema) (analyze : Analyzer) (t : List ℕ) (docs : List Document) → blocks schema analyze t docs ≡ map (map (id_and_count schema analyze t)) (document_blocks schema analyze t docs)
blocks_of_documents schema analyze t docs = pieces-map (id_and_count schema analyze t) block_len (filter (holds schema analyze t) docs)

all-groups : {X : Type 0} (P : X → Type 0) (more n : ℕ) (xs : List X) → AllByRecursion P xs → AllByRecursion (AllByRecursion P) (groups_of more n xs)
all-groups P zero n xs h = tt
all-groups P (suc more) n xs h = (all-take P n xs h, all-groups P more n (drop n xs) (all-drop P n xs h))

-- what follows for each element follows for all
pub all-map : {X : Type 0} (P Q : X → Type 0) (xs : List X) → ((x : X) → P x → Q x) → AllByRecursion P xs → AllByRecursion Q xs
all-map P Q [] f h = tt
all-map P Q (x ∷ xs) f h = (f x h.0, all-map P Q xs f h.1)

all-filter : {X : Type 0} (test : X → Bool) (xs : List X) → AllByRecursion (λ x. test x ≡ true) (filter test xs)
all-filter test [] = tt
all-filter test (x ∷ xs) = go (test x) refl (all-filter test xs)
  where
    go : (b : Bool) → test x ≡ b → AllByRecursion (λ y. test y ≡ true) (filter test xs) → AllByRecursion (λ y. test y ≡ true) (if b then x ∷ filter test xs else filter test xs)
    go true e rest = (e, rest)
    go false e rest = rest

-- ---- a document that has the term

-- what some element passes, as many as pass are some
some_pass : {X Y : Type 0} (f : X → Y) (test : X → Bool) (xs : List X) → list_any test xs ≡ true → 0 < length (map f (filter test xs))
some_pass f test [] h = cc
some_pass f test (x ∷ xs) h = go (test x) h (some_pass f test xs)
  where
    go : (b : Bool) → (b || list_any test xs) ≡ true → (list_any test xs ≡ true → 0 < length (map f (filter test xs))) → 0 < length (map f (if b then x ∷ filter test xs else filter test xs))
    go true e rest = omega arith
    go false e rest = rest e

id_fits : (schema : Schema) (analyze : Analyzer) (field : ℕ) (doc : Document) → length_id schema analyze field doc < 256
id_fits schema analyze field doc = go (field_has keeps_length schema field)
  where
    go : (b : Bool) → (if b then fieldnorm_to_id (len_of schema analyze field doc) else 1) < 256
    go true = omega (arith, greatest_id_within 255 (len_of schema analyze field doc))
    go false = omega arith

count_some : (schema : Schema) (analyze : Analyzer) (t : List ℕ) (doc : Document) → holds schema analyze t doc ≡ true → 0 < count_of schema analyze t doc
count_some schema analyze t doc has = go (is_recorded has_freq schema t)
  where
    go : (b : Bool) → 0 < (if b then length (occurrences schema analyze t doc) else 1)
    go true = some_pass (λ p. p.1) _ (terms_of schema analyze doc) has
    go false = omega arith

-- a query takes no more than the count
read_below : (option : IndexRecordOption) (count : ℕ) → 0 < count → (if has_freq option then count else 1) ≤ count
read_below option count some = go (has_freq option)
  where
    go : (b : Bool) → (if b then count else 1) ≤ count
    go true = omega arith
    go false = omega arith

-- ---- blocks

module _ (schema : Schema) (analyze : Analyzer) (sim : Similarity) (b : ℕ) (t : List ℕ) (option : IndexRecordOption) where
  -- whether a document has the term
  abbrev Has : Document → Type 0
  Has doc = holds schema analyze t doc ≡ true

  ids_fit : (block : List Document) → AllByRecursion (λ p. p.0 < 256) (map (id_and_count schema analyze t) block)
  ids_fit [] = tt
  ids_fit (doc ∷ docs) = (id_fits schema analyze (field_of t) doc, ids_fit docs)

  each_below : (most : ℕ) (block : List Document) → AllByRecursion Has block → AllByRecursion (λ p. b * part (sim.weight t) p.1 (slice_index sim.norms p.0) ≤ most) (map (id_and_count schema analyze t) block) → AllByRecursion (λ doc. b * term_score schema analyze sim doc t option ≤ most) block
  each_below most [] has below = tt
  each_below most (doc ∷ docs) has below =
      let norm = slice_index sim.norms (length_id schema analyze (field_of t) doc) in
      let count = count_of schema analyze t doc in
      (le_trans (mul-le-mul_left b (part_rises (sim.weight t) (query_count schema analyze t option doc) norm count norm (read_below option count (count_some schema analyze t doc has.0)) (omega arith))) below.0, each_below most docs has.1 below.1)

  pub documents_below_bound : IsSimilarity sim → (block : List Document) → AllByRecursion Has block → AllByRecursion (λ doc. b * term_score schema analyze sim doc t option ≤ bound_score b (sim.weight t) sim.norms (bound_of (map (id_and_count schema analyze t) block))) block
  documents_below_bound is block has = each_below _ block has (each_below_bound b (sim.weight t) sim.norms (map (id_and_count schema analyze t) block) is.norms_rise is.norm_for_each (ids_fit block))

pub documents_below_bounds : (schema : Schema) (analyze : Analyzer) (sim : Similarity) (b : ℕ) (t : List ℕ) (option : IndexRecordOption) (docs : List Document) → IsSimilarity sim
    → AllByRecursion (λ block. AllByRecursion (λ doc. b * term_score schema analyze sim doc t option ≤ bound_score b (sim.weight t) sim.norms (bound_of (map (id_and_count schema analyze t) block))) block) (document_blocks schema analyze t docs)
documents_below_bounds schema analyze sim b t option docs is =
    let having = filter (holds schema analyze t) docs in
    all-map _ _ (document_blocks schema analyze t docs) (λ block has. documents_below_bound schema analyze sim b t option is block has) (all-groups (λ doc. holds schema analyze t doc ≡ true) _ block_len having (all-filter (holds schema analyze t) docs))
