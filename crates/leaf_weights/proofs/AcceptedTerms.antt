-- What holds of the terms of a query that isn't refused.
use Rattle.std.proofs.Common.{[], Bool, List, None, arith, false, length, map, max, nat_lt, not, refl, suc, true, zero, ◌&&◌, ◌++◌, ◌-◌, ◌<◌, ◌∷◌, ◌≡◌, ◌≤◌, ℕ}
use Rattle.std.proofs.lemmas.Bool.{ltb-false, or_parts}
use Rattle.std.specs.List.{list_any, slice_index_or}
use Rattle.definitions.proofs.Bounds.{accepted_passes, head_passes, tail_passes}
use Rattle.definitions.specs.Query.{Terms, phrase, phrase_prefix}
use Rattle.definitions.specs.Refusing.{Test, all_expansions, first_fault, has_no_positions, is_mismatched, is_not_indexed, is_unknown, max_offset, phrase_tests, term_tests, tree_fault}
use Rattle.definitions.specs.Schema.{Schema, field_has, has_positions}
use Rattle.definitions.specs.Scoring.{greatest_of}
use Rattle.definitions.specs.Terms.{field_of, is_text_term}
use Rattle.definitions.specs.declared.fault.Fault.{Fault}
use Rattle.definitions.specs.declared.fault.Fault.TheVariants as faults
use Rattle.leaf_weights.specs.Suffixes.{IsSearched}

-- where no test fails, each of the first six passes, and so do those behind
six_pass : (a b c d e f : Bool) (f1 f2 f3 f4 f5 f6 : Fault) (ts : List Test) → first_fault ((a, f1) ∷ (b, f2) ∷ (c, f3) ∷ (d, f4) ∷ (e, f5) ∷ (f, f6) ∷ ts) ≡ None → (c ≡ false) × (d ≡ false) × (e ≡ false) × (f ≡ false) × (first_fault ts ≡ None)
six_pass true b c d e f f1 f2 f3 f4 f5 f6 ts h = cc
six_pass false true c d e f f1 f2 f3 f4 f5 f6 ts h = cc
six_pass false false true d e f f1 f2 f3 f4 f5 f6 ts h = cc
six_pass false false false true e f f1 f2 f3 f4 f5 f6 ts h = cc
six_pass false false false false true f f1 f2 f3 f4 f5 f6 ts h = cc
six_pass false false false false false true f1 f2 f3 f4 f5 f6 ts h = cc
six_pass false false false false false false f1 f2 f3 f4 f5 f6 ts h = (refl, refl, refl, refl, h)

-- the tests of a phrase's terms pass
passed : (schema : Schema) (ts : Terms) (rest : List Test) → first_fault (term_tests schema (map (λ t. t.1) ts) ++ phrase_tests schema ts ++ rest) ≡ None → (list_any (is_mismatched schema) (map (λ t. t.1) ts) ≡ false) × (list_any (λ t. has_no_positions schema t.1) ts ≡ false) × (list_any (λ t. not (is_text_term t.1)) ts ≡ false) × (list_any (λ t. nat_lt max_offset t.0) ts ≡ false) × (first_fault rest ≡ None)
passed schema ts rest h = six_pass (list_any (is_unknown schema) (map (λ t. t.1) ts)) (list_any (is_not_indexed schema) (map (λ t. t.1) ts)) (list_any (is_mismatched schema) (map (λ t. t.1) ts)) (list_any (λ t. has_no_positions schema t.1) ts) (list_any (λ t. not (is_text_term t.1)) ts) (list_any (λ t. nat_lt max_offset t.0) ts) faults.UnknownField faults.NotIndexed faults.TypeMismatch faults.NoPositions faults.NotText faults.OffsetTooLarge rest h

-- the tests of a phrase prefix behind those of a phrase
abbrev prefix_tests : Terms → ℕ → List Test
prefix_tests ts limit = (nat_lt (length ts) 2, faults.NoWholeTerm) ∷ (nat_lt limit all_expansions, faults.PartialExpansion) ∷ []

-- where a test fails of none, it fails of each
passes_at : {X : Type 0} (test : X → Bool) (xs : List X) (i : ℕ) (d : X) → i < length xs → list_any test xs ≡ false → test (slice_index_or xs i d) ≡ false
passes_at test [] i d l h = absurd (omega (arith, l))
passes_at test (x ∷ xs) zero d l h = (or_parts (test x) (list_any test xs) h).0
passes_at test (x ∷ xs) (suc i) d l h = passes_at test xs i d (omega (arith, l)) (or_parts (test x) (list_any test xs) h).1

-- of terms as well
term_passes_at : (test : List ℕ → Bool) (ts : Terms) (i : ℕ) (d : ℕ × List ℕ) → i < length ts → list_any test (map (λ t. t.1) ts) ≡ false → test (slice_index_or ts i d).1 ≡ false
term_passes_at test [] i d l h = absurd (omega (arith, l))
term_passes_at test (t ∷ ts) zero d l h = (or_parts (test t.1) (list_any test (map (λ t. t.1) ts)) h).0
term_passes_at test (t ∷ ts) (suc i) d l h = term_passes_at test ts i d (omega (arith, l)) (or_parts (test t.1) (list_any test (map (λ t. t.1) ts)) h).1

-- no offset is above the greatest
near_by : (ts : Terms) → list_any (λ t. nat_lt max_offset t.0) ts ≡ false → greatest_of (map (λ t. t.0) ts) ≤ 1073741824
near_by [] h = omega arith
near_by (t ∷ ts) h =
    let parts = or_parts (nat_lt max_offset t.0) (list_any (λ t. nat_lt max_offset t.0) ts) h in
    let first = ltb-false _ _ parts.0 in
    let rest = near_by ts parts.1 in
    let goal : max t.0 (greatest_of (map (λ t. t.0) ts)) ≤ 1073741824 = omega (arith, first, rest) in goal

pub phrase_near : (schema : Schema) (weight : List ℕ → ℕ) (b : ℕ) (ts : Terms) (slop : ℕ) → tree_fault schema weight b (phrase ts slop) ≡ None → greatest_of (map (λ t. t.0) ts) ≤ 1073741824
phrase_near schema weight b ts slop h = near_by ts (passed schema ts [] (accepted_passes schema weight b (phrase ts slop) h)).3

pub prefix_near : (schema : Schema) (weight : List ℕ → ℕ) (b : ℕ) (ts : Terms) (limit : ℕ) → tree_fault schema weight b (phrase_prefix ts limit) ≡ None → greatest_of (map (λ t. t.0) ts) ≤ 1073741824
prefix_near schema weight b ts limit h = near_by ts (passed schema ts (prefix_tests ts limit) (accepted_passes schema weight b (phrase_prefix ts limit) h)).3

-- a phrase prefix has a whole term
pub prefix_several : (schema : Schema) (weight : List ℕ → ℕ) (b : ℕ) (ts : Terms) (limit : ℕ) → tree_fault schema weight b (phrase_prefix ts limit) ≡ None → 2 ≤ length ts
prefix_several schema weight b ts limit h = ltb-false _ _ (head_passes (nat_lt (length ts) 2) faults.NoWholeTerm ((nat_lt limit all_expansions, faults.PartialExpansion) ∷ []) (passed schema ts (prefix_tests ts limit) (accepted_passes schema weight b (phrase_prefix ts limit) h)).4)

-- and the greatest limit
pub prefix_limit : (schema : Schema) (weight : List ℕ → ℕ) (b : ℕ) (ts : Terms) (limit : ℕ) → tree_fault schema weight b (phrase_prefix ts limit) ≡ None → 4294967295 ≤ limit
prefix_limit schema weight b ts limit h = ltb-false _ _ (head_passes (nat_lt limit all_expansions) faults.PartialExpansion [] (tail_passes (nat_lt (length ts) 2) faults.NoWholeTerm ((nat_lt limit all_expansions, faults.PartialExpansion) ∷ []) (passed schema ts (prefix_tests ts limit) (accepted_passes schema weight b (phrase_prefix ts limit) h)).4))

not_not : (b : Bool) → not b ≡ false → b ≡ true
not_not true h = refl
not_not false h = cc

both : (a b : Bool) → a ≡ true → b ≡ true → (a && b) ≡ true
both true true h k = refl
both true false h k = cc
both false b h k = cc

-- its prefix is searched
pub prefix_searched : (schema : Schema) (weight : List ℕ → ℕ) (b : ℕ) (ts : Terms) (limit : ℕ) → tree_fault schema weight b (phrase_prefix ts limit) ≡ None → IsSearched schema (slice_index_or ts (length ts - 1) (0, [])).1
prefix_searched schema weight b ts limit h =
    let passed = passed schema ts (prefix_tests ts limit) (accepted_passes schema weight b (phrase_prefix ts limit) h) in
    let several = prefix_several schema weight b ts limit h in
    let there : length ts - 1 < length ts = omega (arith, several) in
    let prefix : List ℕ = (slice_index_or ts (length ts - 1) (0, [])).1 in
    let mismatched = term_passes_at (is_mismatched schema) ts (length ts - 1) (0, []) there passed.0 in
    let placed = passes_at (λ t. has_no_positions schema t.1) ts (length ts - 1) (0, []) there passed.1 in
    let text = passes_at (λ t. not (is_text_term t.1)) ts (length ts - 1) (0, []) there passed.2 in
    record {
      kind_is = not_not _ (or_parts _ _ mismatched).0;
      recorded = both _ _ (not_not (is_text_term prefix) text) (not_not (field_has (λ e. has_positions e.record_option) schema (field_of prefix)) placed);
    }
