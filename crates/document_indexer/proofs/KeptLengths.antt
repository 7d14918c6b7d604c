-- The lengths of documents, as they are kept document by document.
use Rattle.std.proofs.Common.{[], ◌&&◌, ◌++◌, ◌+◌, ◌-◌, ◌<◌, ◌==◌, ◌≡◌, ◌≢◌, ◌≤◌, ◌∙◌, ◌∷◌, Bool, List, None, Option, Some, ap, append-nil, ap₂, arith, cond, false, filter, length, map, nat_le, nat_lt, refl, replicate, slice_get, subst, sym, true, ℕ}
use Rattle.std.specs.List.{AllByRecursion, enumerate_from}
use Rattle.std.specs.Option.{option_map_or}
use Rattle.std.specs.Prelude.{slice_index_or}
use Rattle.std.proofs.lemmas.Bool.Decides.{nat_tests}
use Rattle.std.proofs.lemmas.List.{length-map, map-append}
use Rattle.definitions.specs.Analyzers.{Analyzer}
use Rattle.definitions.specs.KeptLengths.{length_fields, length_ids, norms_of}
use Rattle.definitions.specs.Lengths.{fieldnorm_to_id, greatest_id, len_of}
use Rattle.definitions.specs.Schema.{Entry, Schema, field_has, has_lengths, is_indexed, keeps_length}
use Rattle.definitions.specs.Scoring.{length_id}
use Rattle.definitions.specs.Values.{Document}
use Rattle.codes.specs.FieldNorms.{padded, with_length}
use Rattle.layouts.specs.Deltas.{IsAscendingFrom}
use Rattle.layouts.specs.FieldNorms.{IsNorms, norms_bytes}
use Rattle.postings_writer.proofs.WrittenSections.{entries_at}
use Rattle.schema.proofs.LengthFields.{numbers}
use Rattle.document_indexer.specs.FieldLengths.{AreLengths, cut, with_ids}
use Rattle.document_indexer.proofs.CountedLengths.{field_within}

-- ---- ids of lengths that are cut

-- from the greatest length that an id stands for on, the id is the greatest
greatest : (n : ℕ) → 2013265944 ≤ n → fieldnorm_to_id n ≡ 255
greatest n above = (let test : nat_le 2013265944 n ≡ true = grind (arith, nat_tests) in ap (λ b. cond b 255 (greatest_id 254 n)) test)

pub cut_id : (n : ℕ) → fieldnorm_to_id (cut n) ≡ fieldnorm_to_id n
cut_id n = go (nat_le n 4294967295) refl
  where
    go : (b : Bool) → nat_le n 4294967295 ≡ b → fieldnorm_to_id (cut n) ≡ fieldnorm_to_id n
    go true e = (let below : n ≤ 4294967295 = grind (arith, nat_tests) in ap fieldnorm_to_id (let same : cut n ≡ n = omega arith in same))
    go false e = (let above : 4294967295 < n = grind (arith, nat_tests) in greatest (cut n) (omega arith) ∙ sym (greatest n (omega arith)))

-- ---- one document more, field by field

abbrev Norms : Type 0
Norms = List (ℕ × List ℕ)

-- the ids of a field with one more
abbrev with_id : List ℕ → ℕ × List ℕ → ℕ × List ℕ
with_id lengths p = (p.0, p.1 ++ fieldnorm_to_id (slice_index_or lengths p.0 0) ∷ [])

-- the fields below a number have one more
abbrev pub part : List ℕ → ℕ → ℕ × List ℕ → ℕ × List ℕ
part lengths k p = cond (nat_lt p.0 k) (with_id lengths p) p

-- each is one of `fields` fields, and has `doc` ids
abbrev pub AreKept : ℕ → ℕ → Norms → Type 0
AreKept fields doc norms = AllByRecursion (λ (p : ℕ × List ℕ). (p.0 < fields) × (length p.1 ≡ doc)) norms

pub none_more : (lengths : List ℕ) (norms : Norms) → map (part lengths 0) norms ≡ norms
none_more lengths [] = refl
none_more lengths (p ∷ ps) = ap₂ (λ q qs. q ∷ qs) (let test : nat_lt p.0 0 ≡ false = grind (arith, nat_tests) in ap (λ b. cond b (with_id lengths p) p) test) (none_more lengths ps)

-- a field has its ids once
pub field_once : (lengths : List ℕ) (fields doc k : ℕ) (norms : Norms) → AreKept fields doc norms → AllByRecursion (λ (p : ℕ × List ℕ). p.0 ≡ k → length p.1 ≤ doc) (map (part lengths k) norms)
field_once lengths fields doc k [] kept = tt
field_once lengths fields doc k (p ∷ ps) kept = (go (nat_lt p.0 k) refl, field_once lengths fields doc k ps kept.1)
  where
    go : (b : Bool) → nat_lt p.0 k ≡ b → (cond b (with_id lengths p) p).0 ≡ k → length (cond b (with_id lengths p) p).1 ≤ doc
    go true e same = absurd (let below : p.0 < k = grind (arith, nat_tests) in omega arith)
    go false e same = (let long = kept.0.1 in omega arith)

-- one field more
pub field_more : (lengths : List ℕ) (fields doc k n : ℕ) (norms : Norms) → AreKept fields doc norms → n ≡ slice_index_or lengths k 0 → with_length doc k n (map (part lengths k) norms) ≡ map (part lengths (k + 1)) norms
field_more lengths fields doc k n [] kept is = refl
field_more lengths fields doc k n (p ∷ ps) kept is = ap₂ (λ q qs. q ∷ qs) (go (nat_lt p.0 k) refl) (field_more lengths fields doc k n ps kept.1 is)
  where
    put : Bool → ℕ × List ℕ → ℕ × List ℕ
    put c q = cond c (q.0, padded doc q.1 ++ fieldnorm_to_id n ∷ []) q

    whole : padded doc p.1 ≡ p.1
    whole = (let none : doc - length p.1 ≡ 0 = (let long = kept.0.1 in omega arith) in ap (λ m. p.1 ++ replicate m 0) none ∙ append-nil p.1)

    last : (c : Bool) → (p.0 == k) ≡ c → nat_lt p.0 k ≡ false → put c p ≡ part lengths (k + 1) p
    last true same e =
        let here : p.0 ≡ k = grind (arith, nat_tests) in
        let below : nat_lt p.0 (k + 1) ≡ true = grind (arith, nat_tests) in
        ap₂ (λ xs m. (p.0, xs ++ fieldnorm_to_id m ∷ [])) whole (is ∙ ap (λ i. slice_index_or lengths i 0) (sym here)) ∙ sym (ap (λ b. cond b (with_id lengths p) p) below)
    last false other e =
        let apart : p.0 ≢ k = grind (arith, nat_tests) in
        let above : nat_lt p.0 (k + 1) ≡ false = grind (arith, nat_tests) in
        sym (ap (λ b. cond b (with_id lengths p) p) above)

    go : (b : Bool) → nat_lt p.0 k ≡ b → put ((cond b (with_id lengths p) p).0 == k) (cond b (with_id lengths p) p) ≡ part lengths (k + 1) p
    go true e =
        let other : (p.0 == k) ≡ false = grind (arith, nat_tests) in
        let below : nat_lt p.0 (k + 1) ≡ true = grind (arith, nat_tests) in
        ap (λ c. put c (with_id lengths p)) other ∙ sym (ap (λ b. cond b (with_id lengths p) p) below)
    go false e = last (p.0 == k) refl e

pub all_more : (lengths : List ℕ) (fields doc : ℕ) (norms : Norms) → AreKept fields doc norms → map (part lengths fields) norms ≡ with_ids lengths norms
all_more lengths fields doc [] kept = refl
all_more lengths fields doc (p ∷ ps) kept = ap₂ (λ q qs. q ∷ qs) (let below = kept.0.0 in let test : nat_lt p.0 fields ≡ true = grind (arith, nat_tests) in ap (λ b. cond b (with_id lengths p) p) test) (all_more lengths fields doc ps kept.1)

-- ---- the fields that keep lengths

pub fields_keep : (schema : Schema) → AllByRecursion (λ field. field_has keeps_length schema field ≡ true) (length_fields schema)
fields_keep schema = go (enumerate_from 0 schema) (entries_at schema)
  where
    go : (es : List (ℕ × Entry)) → AllByRecursion (λ (p : ℕ × Entry). slice_get schema p.0 ≡ Some p.1) es → AllByRecursion (λ field. field_has keeps_length schema field ≡ true) (numbers es)
    go [] at = tt
    go (p ∷ ps) at = one (go ps at.1) (keeps_length p.1) refl
      where
        rest : List (ℕ × Entry)
        rest = filter (λ (q : ℕ × Entry). keeps_length q.1) ps

        one : AllByRecursion (λ field. field_has keeps_length schema field ≡ true) (numbers ps) → (b : Bool) → keeps_length p.1 ≡ b → AllByRecursion (λ field. field_has keeps_length schema field ≡ true) (map (λ (q : ℕ × Entry). q.0) (cond b (p ∷ rest) rest))
        one later true e = (ap (λ o. option_map_or keeps_length o false) at.0 ∙ e, later)
        one later false e = later

-- they ascend
pub fields_ascend : (schema : Schema) → IsAscendingFrom 0 (length_fields schema)
fields_ascend schema = go 0 0 schema (omega arith)
  where
    go : (n k : ℕ) (es : List Entry) → n ≤ k → IsAscendingFrom n (numbers (enumerate_from k es))
    go n k [] above = tt
    go n k (e ∷ es) above = one (go (k + 1) (k + 1) es (omega arith)) (go n (k + 1) es (omega arith)) (keeps_length e)
      where
        rest : List (ℕ × Entry)
        rest = filter (λ (q : ℕ × Entry). keeps_length q.1) (enumerate_from (k + 1) es)

        one : IsAscendingFrom (k + 1) (numbers (enumerate_from (k + 1) es)) → IsAscendingFrom n (numbers (enumerate_from (k + 1) es)) → (b : Bool) → IsAscendingFrom n (map (λ (q : ℕ × Entry). q.0) (cond b ((k, e) ∷ rest) rest))
        one behind later true = (above, behind)
        one behind later false = later

-- ---- of documents

-- a field that keeps lengths is indexed
keeps_indexed : (schema : Schema) (field : ℕ) → field_has keeps_length schema field ≡ true → field_has is_indexed schema field ≡ true
keeps_indexed schema field has = go (slice_get schema field) has
  where
    both : (a b c : Bool) → (a && (b && c)) ≡ true → b ≡ true
    both true true c is = refl
    both true false c is = cc
    both false b c is = cc

    go : (o : Option Entry) → option_map_or keeps_length o false ≡ true → option_map_or is_indexed o false ≡ true
    go None is = cc
    go (Some e) is = both (has_lengths e.kind) (is_indexed e) e.fieldnorms is

module _ (schema : Schema) (analyze : Analyzer) (docs : List Document) where
  pub norms_kept : AreKept (length schema) (length docs) (norms_of schema analyze docs)
  norms_kept = go (length_fields schema) (fields_keep schema)
    where
      go : (fields : List ℕ) → AllByRecursion (λ field. field_has keeps_length schema field ≡ true) fields → AreKept (length schema) (length docs) (map (λ field. (field, length_ids schema analyze docs field)) fields)
      go [] has = tt
      go (f ∷ fs) has = ((field_within schema keeps_length f has.0, length-map docs (length_id schema analyze f)), go fs has.1)

  -- the lengths of one document more
  pub document_kept : (doc : Document) (lengths : List ℕ) → AreLengths schema analyze doc lengths → with_ids lengths (norms_of schema analyze docs) ≡ norms_of schema analyze (docs ++ doc ∷ [])
  document_kept doc lengths are = go (length_fields schema) (fields_keep schema)
    where
      id_is : (f : ℕ) → field_has keeps_length schema f ≡ true → fieldnorm_to_id (slice_index_or lengths f 0) ≡ length_id schema analyze f doc
      id_is f has = ap fieldnorm_to_id (are.each_field f (keeps_indexed schema f has)) ∙ cut_id (len_of schema analyze f doc) ∙ sym (ap (λ b. cond b (fieldnorm_to_id (len_of schema analyze f doc)) 1) has)

      one : (f : ℕ) → field_has keeps_length schema f ≡ true → with_id lengths (f, length_ids schema analyze docs f) ≡ (f, length_ids schema analyze (docs ++ doc ∷ []) f)
      one f has = ap (λ xs. (f, xs)) (ap (λ n. length_ids schema analyze docs f ++ n ∷ []) (id_is f has) ∙ sym (map-append (length_id schema analyze f) docs (doc ∷ [])))

      go : (fields : List ℕ) → AllByRecursion (λ field. field_has keeps_length schema field ≡ true) fields → with_ids lengths (map (λ field. (field, length_ids schema analyze docs field)) fields) ≡ map (λ field. (field, length_ids schema analyze (docs ++ doc ∷ []) field)) fields
      go [] has = refl
      go (f ∷ fs) has = ap₂ (λ q qs. q ∷ qs) (one f has.0) (go fs has.1)

-- ---- as they are written

-- what is written of the lengths of documents is their section
pub lengths_written : (schema : Schema) (analyze : Analyzer) (docs : List Document) (bytes : List ℕ) → bytes ≡ norms_bytes (norms_of schema analyze docs) → IsNorms (length_fields schema) (length docs) bytes (norms_of schema analyze docs)
lengths_written schema analyze docs bytes is = record { names = go (length_fields schema); counts = counts (norms_of schema analyze docs) (norms_kept schema analyze docs); spelled = is }
  where
    go : (fields : List ℕ) → map (λ (p : ℕ × List ℕ). p.0) (map (λ field. (field, length_ids schema analyze docs field)) fields) ≡ fields
    go [] = refl
    go (f ∷ fs) = ap (λ xs. f ∷ xs) (go fs)

    counts : (norms : Norms) → AreKept (length schema) (length docs) norms → AllByRecursion (λ (p : ℕ × List ℕ). length p.1 ≡ length docs) norms
    counts [] kept = tt
    counts (p ∷ ps) kept = (kept.0.1, counts ps kept.1)

-- likewise by the fields and the number of documents that a call is given
pub lengths_known : (schema : Schema) (analyze : Analyzer) (docs : List Document) (fields bytes : List ℕ) (n : ℕ) → fields ≡ length_fields schema → n ≡ length docs → bytes ≡ norms_bytes (norms_of schema analyze docs) → IsNorms fields n bytes (norms_of schema analyze docs)
lengths_known schema analyze docs fields bytes n fields_are many is =
    subst (λ fs. IsNorms fs n bytes (norms_of schema analyze docs)) (sym fields_are) (subst (λ k. IsNorms (length_fields schema) k bytes (norms_of schema analyze docs)) (sym many) (lengths_written schema analyze docs bytes is))
