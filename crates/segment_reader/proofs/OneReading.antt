-- A section has one reading.
use Rattle.std.proofs.Common.{[], Bool, List, ap, arith, drop, length, map, refl, subst, sym, ◌<◌, ◌≡◌, ◌∙◌, ◌∷◌, ◌^◌, ℕ}
use Rattle.std.specs.List.{AllByRecursion}
use Rattle.layouts.specs.TermSections.{FieldTerms, block_size}
use Rattle.segment_reader.proofs.FieldsLoop.{byte_or, kinds_same, same_field}
use Rattle.segment_reader.specs.TermPlaces.{AreFields, IsSection, field_end, fields_start}
use Rattle.front_coding.specs.declared.term_starts.TermStart.{TermStart}

-- the numbers of fields
abbrev pub numbers_of : List FieldTerms → List ℕ
numbers_of fs = map (λ (f : FieldTerms). f.field) fs

abbrev first_or : ℕ → List ℕ → ℕ
first_or d [] = d
first_or d (n ∷ ns) = n

same_from : (kind : Bool) (section : List ℕ) (at : TermStart) (p q : ℕ) (fs gs : List FieldTerms) → length section < 2 ^ 63 → AllByRecursion (λ n. n < 2 ^ 32) (numbers_of fs) → numbers_of fs ≡ numbers_of gs → AreFields (block_size kind) section at p q fs → AreFields (block_size kind) section at p q gs → fs ≡ gs
same_from kind section at p q [] [] short small same a b = refl
same_from kind section at p q [] (g ∷ gs) short small same a b = (let long = ap length same in absurd (omega (arith, long)))
same_from kind section at p q (f ∷ fs) [] short small same a b = (let long = ap length same in absurd (omega (arith, long)))
same_from kind section at p q (f ∷ fs) (g ∷ gs) short small same a b =
    let number : f.field ≡ g.field = ap (first_or 0) same in
    let one : f ≡ g = same_field kind section at p q f g (field_end (block_size kind) at f) (field_end (block_size kind) at g) short small.0 number a.0 b.0 in
    let rest : AreFields (block_size kind) section (field_end (block_size kind) at f) p q gs = subst (λ h. AreFields (block_size kind) section (field_end (block_size kind) at h) p q gs) (sym one) b.1 in
    ap (λ h. h ∷ fs) one ∙ ap (λ hs. g ∷ hs) (same_from kind section (field_end (block_size kind) at f) p q fs gs short small.1 (ap (drop 1) same) a.1 rest)

-- one section has one kind
pub same_kind : (a b : Bool) (section : List ℕ) (p q : ℕ) (numbers others : List ℕ) (fs gs : List FieldTerms) → IsSection a section p q numbers fs → IsSection b section p q others gs → a ≡ b
same_kind a b section p q numbers others fs gs one two = kinds_same a b (ap (byte_or 0) (sym one.kind ∙ two.kind))

-- and one reading
pub same_fields : {first second : Bool} (section : List ℕ) (p q : ℕ) (numbers : List ℕ) (fs gs : List FieldTerms) → length section < 2 ^ 63 → AllByRecursion (λ n. n < 2 ^ 32) numbers → IsSection first section p q numbers fs → IsSection second section p q numbers gs → fs ≡ gs
same_fields {first} {second} section p q numbers fs gs short small a b =
    let same = same_kind first second section p q numbers numbers fs gs a b in
    same_from second section fields_start p q fs gs short (subst (AllByRecursion (λ n. n < 2 ^ 32)) (sym a.names) small) (a.names ∙ sym b.names) (subst (λ kind. AreFields (block_size kind) section fields_start p q fs) same a.fields) b.fields
