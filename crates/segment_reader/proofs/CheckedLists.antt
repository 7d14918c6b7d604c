-- Fields that are checked one after another.
use Rattle.std.proofs.Common.{[], Bool, IfSome, List, Option, Some, None, arith, cond, false, find, get_or, length, option_map, sym, take, true, ap, subst, suc, zero, ◌++◌, ◌+◌, ◌<◌, ◌==◌, ◌≡◌, ◌∙◌, ◌∷◌, ℕ}
use Rattle.std.specs.List.{AllByRecursion}
use Rattle.std.specs.Option.{option_map_or}
use Rattle.std.proofs.lemmas.List.{take_more}
use Rattle.codes.specs.UnpackedBlocks.{listed}
use Rattle.layouts.specs.FieldNorms.{ids_of}
use Rattle.layouts.specs.InvertedIndexes.{IndexedTerm, field_ids, Sections}
use Rattle.segment_reader.specs.CheckedTerms.{AreCheckedFields, IsCheckedField}
use Rattle.segment_reader.specs.declared.field_index.FieldIndex.{FieldIndex}

-- ---- lengths

pub listed_ids : (o : Option (List ℕ)) (field : ℕ) (norms : List (ℕ × List ℕ)) → o ≡ ids_of field norms → listed o ≡ field_ids norms field
listed_ids None field norms is = ap (λ (p : Option (List ℕ)). option_map_or (λ ids. ids) p []) is
listed_ids (Some ids) field norms is = ap (λ (p : Option (List ℕ)). option_map_or (λ ids. ids) p []) is

pub kept_ids : (n field : ℕ) (norms : List (ℕ × List ℕ)) → AllByRecursion (λ (p : ℕ × List ℕ). length p.1 ≡ n) norms → IfSome (ids_of field norms) (λ ids. length ids ≡ n)
kept_ids n field [] all = tt
kept_ids n field (p ∷ ps) all = go (p.0 == field) (kept_ids n field ps all.1)
  where
    go : (b : Bool) → IfSome (ids_of field ps) (λ ids. length ids ≡ n) → IfSome (option_map (λ (q : ℕ × List ℕ). q.1) (cond b (Some p) (find (λ (q : ℕ × List ℕ). q.0 == field) ps))) (λ ids. length ids ≡ n)
    go true rest = all.0
    go false rest = rest

-- ---- fields

fields_pushed : (s : Sections) (n : ℕ) (norms : List (ℕ × List ℕ)) (is : List FieldIndex) (xss : List (List IndexedTerm)) (i : FieldIndex) (xs : List IndexedTerm) → AreCheckedFields s n norms is xss → IsCheckedField s n (field_ids norms i.kind.field) i xs → AreCheckedFields s n norms (is ++ i ∷ []) (xss ++ xs ∷ [])
fields_pushed s n norms [] [] i xs all one = (one, tt)
fields_pushed s n norms [] (ys ∷ xss) i xs all one = absurd all
fields_pushed s n norms (j ∷ is) [] i xs all one = absurd all
fields_pushed s n norms (j ∷ is) (ys ∷ xss) i xs all one = (all.0, fields_pushed s n norms is xss i xs all.1 one)

-- the fields before an index were checked
abbrev pub Before : Sections → ℕ → List (ℕ × List ℕ) → List FieldIndex → ℕ → Type 0
Before s n norms is index = (xss : List (List IndexedTerm)) × AreCheckedFields s n norms (take index is) xss

pub one_more_field : (s : Sections) (n : ℕ) (norms : List (ℕ × List ℕ)) (is : List FieldIndex) (index : ℕ) (i : FieldIndex) (o : Option (List ℕ)) → index < length is → i ≡ get_or is index i → o ≡ ids_of i.kind.field norms → Before s n norms is index → ((xs : List IndexedTerm) × IsCheckedField s n (listed o) i xs) → Before s n norms is (index + 1)
one_more_field s n norms is index i o within at ids done next =
    let one : IsCheckedField s n (field_ids norms i.kind.field) i next.0 = subst (λ l. IsCheckedField s n l i next.0) (listed_ids o i.kind.field norms ids) next.1 in
    (done.0 ++ next.0 ∷ [], subst (λ js. AreCheckedFields s n norms js (done.0 ++ next.0 ∷ [])) (sym (take_more is index i within ∙ ap (λ j. take index is ++ j ∷ []) (sym at))) (fields_pushed s n norms (take index is) done.0 i next.0 done.1 one))

field_at : (s : Sections) (n : ℕ) (norms : List (ℕ × List ℕ)) (is : List FieldIndex) (xss : List (List IndexedTerm)) (index : ℕ) (d : FieldIndex) → index < length is → AreCheckedFields s n norms is xss → (xs : List IndexedTerm) × IsCheckedField s n (field_ids norms (get_or is index d).kind.field) (get_or is index d) xs
field_at s n norms [] xss index d within all = absurd (omega arith)
field_at s n norms (i ∷ is) [] index d within all = absurd all
field_at s n norms (i ∷ is) (xs ∷ xss) zero d within all = (xs, all.0)
field_at s n norms (i ∷ is) (xs ∷ xss) (suc index) d within all = field_at s n norms is xss index d (omega arith) all.1

pub no_field : (s : Sections) (n : ℕ) (norms : List (ℕ × List ℕ)) (is : List FieldIndex) (index : ℕ) (i : FieldIndex) (o : Option (List ℕ)) → index < length is → i ≡ get_or is index i → o ≡ ids_of i.kind.field norms → ((xs : List IndexedTerm) → IsCheckedField s n (listed o) i xs → ⊥) → (xss : List (List IndexedTerm)) → AreCheckedFields s n norms is xss → ⊥
no_field s n norms is index i o within at ids none xss all =
    let here = field_at s n norms is xss index i within all in
    let there : IsCheckedField s n (field_ids norms i.kind.field) i here.0 = subst (λ j. IsCheckedField s n (field_ids norms j.kind.field) j here.0) (sym at) here.1 in
    none here.0 (subst (λ l. IsCheckedField s n l i here.0) (sym (listed_ids o i.kind.field norms ids)) there)
