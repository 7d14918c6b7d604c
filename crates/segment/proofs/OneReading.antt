-- Sections are those of one list of fields, so that it is found where it is known to be there.
use Rattle.std.proofs.Common.{[], List, ap, append_assoc, arith, ap₂, length, length-append, map, refl, subst, sym, true, ◌++◌, ◌<◌, ◌≡◌, ◌≤◌, ◌∙◌, ◌∷◌, ◌^◌, ℕ}
use Rattle.std.proofs.Math.Logic.{∥∥₁_elim}
use Rattle.std.proofs.Props.{props}
use Rattle.std.specs.List.{AllByRecursion, AllByRecursion-prop}
use Rattle.segment_postings.proofs.OneTerm.{one_term}
use Rattle.segment_postings.specs.Placed.{term_of}
use Rattle.definitions.specs.KeptLengths.{length_fields}
use Rattle.definitions.specs.NumberCodes.{AreBytes}
use Rattle.definitions.specs.Schema.{IndexRecordOption, Schema, max_fields}
use Rattle.codes.proofs.FieldNormSections.{norms_lent}
use Rattle.codes.specs.FieldNormReaders.{norms_in}
use Rattle.common.proofs.WordBytes.{back_bytes as bytes_after, front_bytes as bytes_before}
use Rattle.segment_reader.proofs.KindsKnown.{fields_small}
use Rattle.segment_reader.proofs.OneReading.{same_fields}
use Rattle.segment_reader.proofs.SectionsThere.{sections_there}
use Rattle.segment_reader.proofs.TermBytes.{all_positions, all_postings, positions_of, postings_of, told_of}
use Rattle.layouts.specs.FieldNorms.{IsNorms}
use Rattle.layouts.specs.InvertedIndexes.{AreSections, IndexedField, IndexedTerm, IsField, IsTerm, field_ids, field_terms, indexed_fields, lengths_of, option_of_term, term_of_key, Sections}
use Rattle.layouts.specs.TermSections.{FieldTerms, TermLengths}
use Rattle.segment_definitions.specs.Keys.{AreKeyed, IsKeyed, is_key_of}
use Rattle.segment.proofs.TermProps.{AreSections-prop, pairs_prop}
use Rattle.segment.proofs.TermReadings.{same_term}

-- ---- bytes, one run behind another

halves : (a b c d : List ℕ) → length a ≡ length c → a ++ b ≡ c ++ d → (a ≡ c) × (b ≡ d)
halves [] b [] d long same = (refl, same)
halves [] b (y ∷ c) d long same = absurd (omega (arith, long))
halves (x ∷ a) b [] d long same = absurd (omega (arith, long))
halves (x ∷ a) b (y ∷ c) d long same =
    let first : x ≡ y = cc in
    let rest : a ++ b ≡ c ++ d = cc in
    let later = halves a b c d (omega (arith, long)) rest in
    (ap₂ (λ z zs. z ∷ zs) first later.0, later.1)

-- ---- a term

-- a term by other names of its bytes and of what is recorded of it
moved : (option other : IndexRecordOption) (n : ℕ) (ids : List ℕ) (x : IndexedTerm) (ps qs : List ℕ) → option ≡ other → x.postings_bytes ≡ ps → x.positions_bytes ≡ qs → IsTerm option n ids x → IsTerm other n ids (term_of x.postings ps qs)
moved option other n ids x ps qs same first second is =
    let bare : IsTerm option n ids (term_of x.postings x.postings_bytes x.positions_bytes) = record { has_postings = is.has_postings; each_posting = is.each_posting; postings_are = is.postings_are; positions_are = is.positions_are } in
    subst (λ o. IsTerm o n ids (term_of x.postings ps qs)) same (subst (λ bs. IsTerm option n ids (term_of x.postings ps bs)) second (subst (λ bs. IsTerm option n ids (term_of x.postings bs x.positions_bytes)) first bare))

-- ---- terms

abbrev Are : (List ℕ → IndexRecordOption) → ℕ → List ℕ → List IndexedTerm → Type 0
Are option n ids xs = AllByRecursion (λ (x : IndexedTerm). IsTerm (option x.key) n ids x) xs

-- bytes and lengths as they are in a slice
record AreReal (postings positions : List ℕ) : Type 0 where
  bytes : AreBytes postings
  postings_short : length postings < 2 ^ 63
  positions_short : length positions < 2 ^ 63

real_after : (p ps q qs : List ℕ) → AreReal (p ++ ps) (q ++ qs) → AreReal ps qs
real_after p ps q qs real =
    let short = real.postings_short in
    let short_2 = real.positions_short in
    let long = length-append p ps in
    let long_2 = length-append q qs in
    record { bytes = bytes_after p ps real.bytes; postings_short = omega (arith, short, long); positions_short = omega (arith, short_2, long_2) }

real_before : (p ps q qs : List ℕ) → AreReal (p ++ ps) (q ++ qs) → AreReal p q
real_before p ps q qs real =
    let short = real.postings_short in
    let short_2 = real.positions_short in
    let long = length-append p ps in
    let long_2 = length-append q qs in
    record { bytes = bytes_before p ps real.bytes; postings_short = omega (arith, short, long); positions_short = omega (arith, short_2, long_2) }

real_at : (ps qs others more : List ℕ) → ps ≡ others → qs ≡ more → AreReal ps qs → AreReal others more
real_at ps qs others more first second real = subst (λ bs. AreReal others bs) second (subst (λ bs. AreReal bs qs) first real)

-- terms of which the same is told, and their bytes with what stands behind them
same_terms : (option : List ℕ → IndexRecordOption) (n : ℕ) (ids : List ℕ) (xs ys : List IndexedTerm) (a b c d : List ℕ) → AreReal (postings_of xs ++ a) (positions_of xs ++ c) → told_of xs ≡ told_of ys → postings_of xs ++ a ≡ postings_of ys ++ b → positions_of xs ++ c ≡ positions_of ys ++ d → Are option n ids xs → Are option n ids ys → (xs ≡ ys) × (a ≡ b) × (c ≡ d)
same_terms option n ids [] [] a b c d real told first second is also = (refl, first, second)
same_terms option n ids [] (y ∷ ys) a b c d real told first second is also = (let long = ap length told in absurd (omega (arith, long)))
same_terms option n ids (x ∷ xs) [] a b c d real told first second is also = (let long = ap length told in absurd (omega (arith, long)))
same_terms option n ids (x ∷ xs) (y ∷ ys) a b c d real told first second is also =
    let one : lengths_of x ≡ lengths_of y = cc in
    let rest : told_of xs ≡ told_of ys = cc in
    let key : x.key ≡ y.key = ap (λ (e : List ℕ × TermLengths). e.0) one in
    let many : length x.postings ≡ length y.postings = ap (λ (e : List ℕ × TermLengths). e.1.doc_freq) one in
    let there = real_at (postings_of (x ∷ xs) ++ a) (positions_of (x ∷ xs) ++ c) (x.postings_bytes ++ (postings_of xs ++ a)) (x.positions_bytes ++ (positions_of xs ++ c)) (append_assoc x.postings_bytes (postings_of xs) a) (append_assoc x.positions_bytes (positions_of xs) c) real in
    let p = halves x.postings_bytes (postings_of xs ++ a) y.postings_bytes (postings_of ys ++ b) (ap (λ (e : List ℕ × TermLengths). e.1.postings_len) one) (sym (append_assoc x.postings_bytes (postings_of xs) a) ∙ first ∙ append_assoc y.postings_bytes (postings_of ys) b) in
    let q = halves x.positions_bytes (positions_of xs ++ c) y.positions_bytes (positions_of ys ++ d) (ap (λ (e : List ℕ × TermLengths). e.1.positions_len) one) (sym (append_assoc x.positions_bytes (positions_of xs) c) ∙ second ∙ append_assoc y.positions_bytes (positions_of ys) d) in
    let own = real_before x.postings_bytes (postings_of xs ++ a) x.positions_bytes (positions_of xs ++ c) there in
    let short = own.postings_short in
    let short_2 = own.positions_short in
    let same = one_term (option x.key) n ids x.postings_bytes x.positions_bytes x.postings y.postings own.bytes (omega (arith, short)) (omega (arith, short_2)) many (moved (option x.key) (option x.key) n ids x x.postings_bytes x.positions_bytes refl refl refl is.0) (moved (option y.key) (option x.key) n ids y x.postings_bytes x.positions_bytes (ap option (sym key)) (sym p.0) (sym q.0) also.0) in
    let later = same_terms option n ids xs ys a b c d (real_after x.postings_bytes (postings_of xs ++ a) x.positions_bytes (positions_of xs ++ c) there) rest p.1 q.1 is.1 also.1 in
    (ap₂ (λ z zs. z ∷ zs) (same_term x y key same p.0 q.0) later.0, later.1, later.2)

-- ---- fields

same_field : (f g : IndexedField) → f.field ≡ g.field → f.terms ≡ g.terms → f ≡ g
same_field f g number terms = ap (λ m. record { field = m; terms = f.terms }) number ∙ ap (λ ts. record { field = g.field; terms = ts }) terms

same_from : (schema : Schema) (n : ℕ) (norms : List (ℕ × List ℕ)) (fs gs : List IndexedField) → AreReal (all_postings fs) (all_positions fs) → map field_terms fs ≡ map field_terms gs → all_postings fs ≡ all_postings gs → all_positions fs ≡ all_positions gs → AllByRecursion (IsField schema n norms) fs → AllByRecursion (IsField schema n norms) gs → fs ≡ gs
same_from schema n norms [] [] real told first second is also = refl
same_from schema n norms [] (g ∷ gs) real told first second is also = (let long = ap length told in absurd (omega (arith, long)))
same_from schema n norms (f ∷ fs) [] real told first second is also = (let long = ap length told in absurd (omega (arith, long)))
same_from schema n norms (f ∷ fs) (g ∷ gs) real told first second is also =
    let one : field_terms f ≡ field_terms g = cc in
    let rest : map field_terms fs ≡ map field_terms gs = cc in
    let number : f.field ≡ g.field = ap (λ (t : FieldTerms). t.field) one in
    let option = λ (key : List ℕ). option_of_term schema (term_of_key schema f.field key) in
    let moved_there : Are option n (field_ids norms f.field) g.terms = subst (λ m. AllByRecursion (λ (x : IndexedTerm). IsTerm (option_of_term schema (term_of_key schema m x.key)) n (field_ids norms m) x) g.terms) (sym number) also.0.each_term in
    let same = same_terms option n (field_ids norms f.field) f.terms g.terms (all_postings fs) (all_postings gs) (all_positions fs) (all_positions gs) real (ap (λ (t : FieldTerms). t.terms) one) first second is.0.each_term moved_there in
    let later = same_from schema n norms fs gs (real_after (postings_of f.terms) (all_postings fs) (positions_of f.terms) (all_positions fs) real) rest same.1 same.2 is.1 also.1 in
    ap₂ (λ z zs. z ∷ zs) (same_field f g number same.0) later

-- sections and a schema as they are where code has them
pub record AreKept (schema : Schema) (s : Sections) : Type 0 where
  pub few : length schema ≤ max_fields
  pub terms_short : length s.terms < 2 ^ 63
  pub postings_short : length s.postings < 2 ^ 63
  pub positions_short : length s.positions < 2 ^ 63
  pub bytes : AreBytes s.postings

same_sections : (schema : Schema) (n : ℕ) (norms : List (ℕ × List ℕ)) (s : Sections) (fs gs : List IndexedField) → AreKept schema s → n < 2 ^ 32 → AreSections schema n norms fs s.terms s.postings s.positions → AreSections schema n norms gs s.terms s.postings s.positions → fs ≡ gs
same_sections schema n norms s fs gs kept few a b =
    let short = kept.terms_short in
    let told = same_fields s.terms (length s.postings) (length s.positions) (indexed_fields schema) (map field_terms fs) (map field_terms gs) kept.terms_short (fields_small schema kept.few) (sections_there schema n norms fs s kept.terms_short kept.postings_short kept.positions_short few a) (sections_there schema n norms gs s kept.terms_short kept.postings_short kept.positions_short few b) in
    let real = real_at s.postings s.positions (all_postings fs) (all_positions fs) a.postings_are a.positions_are (record { bytes = kept.bytes; postings_short = kept.postings_short; positions_short = kept.positions_short }) in
    same_from schema n norms fs gs real told (sym a.postings_are ∙ b.postings_are) (sym a.positions_are ∙ b.positions_are) a.each_field b.each_field

-- ---- what is known to be there

-- fields of the sections, whose terms have the bytes of their values
pub record AreFields (schema : Schema) (n : ℕ) (norms : List (ℕ × List ℕ)) (s : Sections) (fields : List IndexedField) : Type 0 where
  pub are : AreSections schema n norms fields s.terms s.postings s.positions
  pub keyed : AreKeyed schema fields

AreKeyed-prop : (schema : Schema) (fields : List IndexedField) → IsProp (AreKeyed schema fields)
AreKeyed-prop schema fields = AllByRecursion-prop (IsKeyed schema) (λ (f : IndexedField). AllByRecursion-prop (λ (t : IndexedTerm). is_key_of schema f.field t.key ≡ true) (λ t. hlevel props) f.terms) fields

AreFields-prop : (schema : Schema) (n : ℕ) (norms : List (ℕ × List ℕ)) (s : Sections) (fields : List IndexedField) → length s.positions < 2 ^ 64 → IsProp (AreFields schema n norms s fields)
AreFields-prop schema n norms s fields short =
    let sections : IsProp (AreSections schema n norms fields s.terms s.postings s.positions) = AreSections-prop schema n norms fields s.terms s.postings s.positions short in
    let keys : IsProp (AreKeyed schema fields) = AreKeyed-prop schema fields in
    hlevel (props, sections, keys)

abbrev pub HasFields : Schema → ℕ → List (ℕ × List ℕ) → Sections → Type 0
HasFields schema n norms s = (fields : List IndexedField) × AreFields schema n norms s fields

pub fields_found : (schema : Schema) (n : ℕ) (norms : List (ℕ × List ℕ)) (s : Sections) → AreKept schema s → n < 2 ^ 32 → ∥ HasFields schema n norms s ∥₁ → HasFields schema n norms s
fields_found schema n norms s kept few known =
    let short = kept.positions_short in
    ∥∥₁_elim known (pairs_prop (AreFields schema n norms s) (λ fs. AreFields-prop schema n norms s fs (omega (arith, short))) (λ fs gs a b. same_sections schema n norms s fs gs kept few a.are b.are)) (λ found. found)

-- the length ids of a section of lengths
pub norms_found : (schema : Schema) (n : ℕ) (bytes : List ℕ) → ∥ ((norms : List (ℕ × List ℕ)) × IsNorms (length_fields schema) n bytes norms) ∥₁ → IsNorms (length_fields schema) n bytes (norms_in n (length_fields schema) bytes)
norms_found schema n bytes known = ∥∥₁_elim known (hlevel props) (λ found. subst (IsNorms (length_fields schema) n bytes) (sym (norms_lent n (length_fields schema) bytes found.0 found.1)) found.1)
