-- The sections of terms, postings and positions have one reading.
use Rattle.std.proofs.Common.{[], List, ap, ap₂, arith, drop, flat_map, length, map, refl, subst, sym, ◌++◌, ◌<◌, ◌^◌, ◌∙◌, ◌∷◌, ◌≡◌, ℕ}
use Rattle.std.proofs.lemmas.List.{append_assoc, length-append}
use Rattle.std.specs.List.{AllByRecursion}
use Rattle.common.proofs.WordBytes.{front_bytes as bytes_left, back_bytes as bytes_right}
use Rattle.segment_postings.proofs.OneTerm.{one_term}
use Rattle.segment_postings.specs.Placed.{term_of}
use Rattle.definitions.specs.NumberCodes.{AreBytes}
use Rattle.definitions.specs.Schema.{IndexRecordOption, Schema, has_positions}
use Rattle.layouts.specs.InvertedIndexes.{HasPositions, IndexedField, IndexedTerm, IsField, IsTerm, field_ids, field_terms, lengths_of, option_of_term, term_of_key}
use Rattle.layouts.specs.Positions.{position_numbers}
use Rattle.layouts.specs.TermPostings.{AreTermPostings}
use Rattle.layouts.specs.TermSections.{FieldTerms, TermLengths}
use Rattle.segment_reader.proofs.TermBytes.{positions_of}
use Rattle.store.proofs.Cuts.{append_same}

abbrev postings_of : List IndexedTerm → List ℕ
postings_of xs = flat_map (λ (x : IndexedTerm). x.postings_bytes) xs

first_told : List ℕ × TermLengths → List (List ℕ × TermLengths) → List ℕ × TermLengths
first_told d [] = d
first_told d (t ∷ ts) = t

pub same_term : (x y : IndexedTerm) → x.key ≡ y.key → x.postings ≡ y.postings → x.postings_bytes ≡ y.postings_bytes → x.positions_bytes ≡ y.positions_bytes → x ≡ y
same_term x y keys ps bs cs =
    ap (λ k. record { key = k; postings = x.postings; postings_bytes = x.postings_bytes; positions_bytes = x.positions_bytes }) keys
    ∙ (ap (λ p. record { key = y.key; postings = p; postings_bytes = x.postings_bytes; positions_bytes = x.positions_bytes }) ps
    ∙ (ap (λ b. record { key = y.key; postings = y.postings; postings_bytes = b; positions_bytes = x.positions_bytes }) bs
    ∙ ap (λ c. record { key = y.key; postings = y.postings; postings_bytes = y.postings_bytes; positions_bytes = c }) cs))

module _ (n : ℕ) (ids : List ℕ) where
  -- a term whatever its key, over other bytes that are the same
  over : (option : IndexRecordOption) (y : IndexedTerm) (bs cs : List ℕ) → bs ≡ y.postings_bytes → cs ≡ y.positions_bytes → IsTerm option n ids y → IsTerm option n ids (term_of y.postings bs cs)
  over option y bs cs same same_positions t = record {
    has_postings = t.has_postings;
    each_posting = t.each_posting;
    postings_are = subst (λ xs. AreTermPostings option ids (map (λ p. p.doc) y.postings) (map (λ p. p.count) y.postings) xs) (sym same) t.postings_are;
    positions_are = subst (λ xs. HasPositions (has_positions option) (position_numbers (map (λ p. p.positions) y.postings)) xs) (sym same_positions) t.positions_are;
  }

  terms_once : (option : List ℕ → IndexRecordOption) (xs ys : List IndexedTerm) (p q r s : List ℕ) → map lengths_of xs ≡ map lengths_of ys → postings_of xs ++ p ≡ postings_of ys ++ r → positions_of xs ++ q ≡ positions_of ys ++ s → AreBytes (postings_of xs ++ p) → length (postings_of xs ++ p) < 2 ^ 64 → length (positions_of xs ++ q) < 2 ^ 64 → AllByRecursion (λ (t : IndexedTerm). IsTerm (option t.key) n ids t) xs → AllByRecursion (λ (t : IndexedTerm). IsTerm (option t.key) n ids t) ys → (xs ≡ ys) × (p ≡ r) × (q ≡ s)
  unfolding first_told
  terms_once option [] [] p q r s told bs cs bytes short few ts us = (refl, bs, cs)
  terms_once option [] (y ∷ ys) p q r s told bs cs bytes short few ts us = (let long = ap length told in absurd (omega (arith, long)))
  terms_once option (x ∷ xs) [] p q r s told bs cs bytes short few ts us = (let long = ap length told in absurd (omega (arith, long)))
  terms_once option (x ∷ xs) (y ∷ ys) p q r s told bs cs bytes short few ts us =
      let one : lengths_of x ≡ lengths_of y = ap (first_told (lengths_of x)) told in
      let key : x.key ≡ y.key = ap (λ t. t.0) one in
      let freq : length x.postings ≡ length y.postings = ap (λ t. t.1.doc_freq) one in
      let left : (x.postings_bytes ++ postings_of xs) ++ p ≡ x.postings_bytes ++ (postings_of xs ++ p) = append_assoc x.postings_bytes (postings_of xs) p in
      let right : (y.postings_bytes ++ postings_of ys) ++ r ≡ y.postings_bytes ++ (postings_of ys ++ r) = append_assoc y.postings_bytes (postings_of ys) r in
      let first : (x.positions_bytes ++ positions_of xs) ++ q ≡ x.positions_bytes ++ (positions_of xs ++ q) = append_assoc x.positions_bytes (positions_of xs) q in
      let second : (y.positions_bytes ++ positions_of ys) ++ s ≡ y.positions_bytes ++ (positions_of ys ++ s) = append_assoc y.positions_bytes (positions_of ys) s in
      let cut = append_same x.postings_bytes (postings_of xs ++ p) y.postings_bytes (postings_of ys ++ r) (sym left ∙ (bs ∙ right)) (ap (λ t. t.1.postings_len) one) in
      let positions = append_same x.positions_bytes (positions_of xs ++ q) y.positions_bytes (positions_of ys ++ s) (sym first ∙ (cs ∙ second)) (ap (λ t. t.1.positions_len) one) in
      let all : AreBytes (x.postings_bytes ++ (postings_of xs ++ p)) = subst AreBytes left bytes in
      let size = ap length left in
      let total = length-append x.postings_bytes (postings_of xs ++ p) in
      let size_positions = ap length first in
      let total_positions = length-append x.positions_bytes (positions_of xs ++ q) in
      let here : IsTerm (option x.key) n ids y = subst (λ k. IsTerm (option k) n ids y) (sym key) us.0 in
      let ps : x.postings ≡ y.postings = one_term (option x.key) n ids x.postings_bytes x.positions_bytes x.postings y.postings (bytes_left x.postings_bytes (postings_of xs ++ p) all) (omega (arith, short, size, total)) (omega (arith, few, size_positions, total_positions)) freq (over (option x.key) x x.postings_bytes x.positions_bytes refl refl ts.0) (over (option x.key) y x.postings_bytes x.positions_bytes cut.0 positions.0 here) in
      let rest = terms_once option xs ys p q r s (ap (drop 1) told) cut.1 positions.1 (bytes_right x.postings_bytes (postings_of xs ++ p) all) (omega (arith, short, size, total)) (omega (arith, few, size_positions, total_positions)) ts.1 us.1 in (
        ap₂ (λ t us. t ∷ us) (same_term x y key ps cut.0 positions.0) rest.0,
        rest.1,
        rest.2,
      )

abbrev all_postings : List IndexedField → List ℕ
all_postings fs = flat_map (λ (f : IndexedField). postings_of f.terms) fs

abbrev all_positions : List IndexedField → List ℕ
all_positions fs = flat_map (λ (f : IndexedField). positions_of f.terms) fs

first_field : FieldTerms → List FieldTerms → FieldTerms
first_field d [] = d
first_field d (f ∷ fs) = f

pub fields_once : (schema : Schema) (n : ℕ) (norms : List (ℕ × List ℕ)) (fs gs : List IndexedField) → map field_terms fs ≡ map field_terms gs → all_postings fs ≡ all_postings gs → all_positions fs ≡ all_positions gs → AreBytes (all_postings fs) → length (all_postings fs) < 2 ^ 64 → length (all_positions fs) < 2 ^ 64 → AllByRecursion (IsField schema n norms) fs → AllByRecursion (IsField schema n norms) gs → fs ≡ gs
unfolding first_field
fields_once schema n norms [] [] told bs cs bytes short few a b = refl
fields_once schema n norms [] (g ∷ gs) told bs cs bytes short few a b = (let long = ap length told in absurd (omega (arith, long)))
fields_once schema n norms (f ∷ fs) [] told bs cs bytes short few a b = (let long = ap length told in absurd (omega (arith, long)))
fields_once schema n norms (f ∷ fs) (g ∷ gs) told bs cs bytes short few a b =
    let one : field_terms f ≡ field_terms g = ap (first_field (field_terms f)) told in
    let number : f.field ≡ g.field = ap (λ (h : FieldTerms). h.field) one in
    let terms : map lengths_of f.terms ≡ map lengths_of g.terms = ap (λ (h : FieldTerms). h.terms) one in
    let there = subst (λ k. AllByRecursion (λ (t : IndexedTerm). IsTerm (option_of_term schema (term_of_key schema k t.key)) n (field_ids norms k) t) g.terms) (sym number) b.0.each_term in
    let same = terms_once n (field_ids norms f.field) (λ key. option_of_term schema (term_of_key schema f.field key)) f.terms g.terms (all_postings fs) (all_positions fs) (all_postings gs) (all_positions gs) terms bs cs bytes short few a.0.each_term there in
    let total = length-append (postings_of f.terms) (all_postings fs) in
    let total_positions = length-append (positions_of f.terms) (all_positions fs) in
    let rest = fields_once schema n norms fs gs (ap (drop 1) told) same.1 same.2 (bytes_right (postings_of f.terms) (all_postings fs) bytes) (omega (arith, short, total)) (omega (arith, few, total_positions)) a.1 b.1 in
    ap₂ (λ h hs. h ∷ hs) (ap₂ (λ k ts. record { field = k; terms = ts }) number same.0) rest
