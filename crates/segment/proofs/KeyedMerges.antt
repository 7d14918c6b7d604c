-- The terms of a merge have the bytes of values of their fields, since some member has each of them.
use Rattle.std.proofs.Common.{[], Bool, List, None, Option, Some, arith, ap, bytes_eq, cond, false, length, refl, subst, sym, true, ◌++◌, ◌<◌, ◌==◌, ◌∙◌, ◌∷◌, ◌≡◌, ℕ}
use Rattle.std.proofs.lemmas.Bool.Decides.{nat_tests}
use Rattle.std.proofs.lemmas.Slice.Eq.{bytes_eq-Decides}
use Rattle.std.specs.List.{AllByRecursion}
use Rattle.std.specs.Option.{option_map_or}
use Rattle.definitions.proofs.DocumentBounds.{all-map as all_then}
use Rattle.definitions.specs.Merging.{renumbered}
use Rattle.definitions.specs.Postings.{Posting}
use Rattle.definitions.specs.Schema.{Schema}
use Rattle.layouts.specs.InvertedIndexes.{IndexedField, IndexedTerm, field_ids}
use Rattle.merging.specs.Members.{living_of, merged_in}
use Rattle.merging.specs.MergedFields.{IsTermGiven}
use Rattle.merging.specs.ToldFields.{IsMergedField}
use Rattle.merging.specs.declared.member.Member.{Member}
use Rattle.segment_definitions.specs.Keys.{AreKeyed, IsKeyed, is_key_of}
use Rattle.segment_reader.proofs.TermsHeld.{found_all}
use Rattle.segment_reader.specs.FieldDictionaries.{terms_in}
use Rattle.segment_reader.specs.Readers.{postings_in, term_in}

module _ (schema : Schema) (field : ℕ) (key : List ℕ) where
  -- a term of the field, by its value bytes
  abbrev IsOwn : IndexedTerm → Type 0
  IsOwn t = is_key_of schema field t.key ≡ true

  own_terms : (fields : List IndexedField) → AreKeyed schema fields → AllByRecursion IsOwn (terms_in field fields)
  own_terms [] keyed = tt
  own_terms (f ∷ fields) keyed = go (f.field == field) refl (own_terms fields keyed.1)
    where
      go : (b : Bool) → (f.field == field) ≡ b → AllByRecursion IsOwn (terms_in field fields) → AllByRecursion IsOwn (cond b f.terms (terms_in field fields))
      go true is rest = (let same : f.field ≡ field = grind (arith, nat_tests, is) in subst (λ n. AllByRecursion (λ (t : IndexedTerm). is_key_of schema n t.key ≡ true) f.terms) same keyed.0)
      go false is rest = rest

  -- what has a posting in a member is a key
  held_key : (fields : List IndexedField) → AreKeyed schema fields → 0 < length (postings_in fields field key) → is_key_of schema field key ≡ true
  held_key fields keyed some = go (term_in fields field key) refl some
    where
      go : (o : Option IndexedTerm) → term_in fields field key ≡ o → 0 < length (option_map_or (λ (x : IndexedTerm). x.postings) o []) → is_key_of schema field key ≡ true
      go None is some = absurd (omega (arith, some))
      go (Some x) is some =
          let found = found_all IsOwn (λ (y : IndexedTerm). bytes_eq y.key key) (terms_in field fields) x (own_terms fields keyed) is in
          ap (is_key_of schema field) (sym ((bytes_eq-Decides x.key key).0 found.1)) ∙ found.0

  some_there : (base : ℕ) (flags : List Bool) (ps : List Posting) → 0 < length (renumbered base flags ps) → 0 < length ps
  some_there base flags [] some = absurd (omega (arith, some))
  some_there base flags (p ∷ ps) some = omega arith

  -- and so is what has one in some member
  merged_key : (ms : List Member) (all : List (List IndexedField)) → AllByRecursion (AreKeyed schema) all → 0 < length (merged_in field key ms all) → is_key_of schema field key ≡ true
  merged_key [] all keyed some = absurd (omega (arith, some))
  merged_key (m ∷ ms) [] keyed some = absurd (omega (arith, some))
  merged_key (m ∷ ms) (fields ∷ all) keyed some = go (living_of m.doc_ids (postings_in fields field key)) refl (merged_key ms all keyed.1)
    where
      go : (ps : List Posting) → living_of m.doc_ids (postings_in fields field key) ≡ ps → (0 < length (merged_in field key ms all) → is_key_of schema field key ≡ true) → is_key_of schema field key ≡ true
      go [] none later = later (let left = ap (λ ps. length (ps ++ merged_in field key ms all)) none in omega (arith, some, left))
      go (p ∷ ps) is later = held_key fields keyed.0 (some_there m.doc_ids.base m.doc_ids.flags (postings_in fields field key) (let long = ap length is in omega (arith, long)))

module _ (schema : Schema) (norms : List (ℕ × List ℕ)) (ms : List Member) (all : List (List IndexedField)) (keyed : AllByRecursion (AreKeyed schema) all) where
  field_keyed : (f : IndexedField) → IsMergedField schema norms ms all f → IsKeyed schema f
  field_keyed f is =
      all_then (IsTermGiven is.entry (field_ids norms f.field) (λ key. merged_in f.field key ms all)) (λ (t : IndexedTerm). is_key_of schema f.field t.key ≡ true) f.terms
      (λ t term. merged_key schema f.field t.key ms all keyed (subst (λ (ps : List Posting). 0 < length ps) term.postings_are term.has_postings)) is.is_given.each_term

  -- the terms of the merged fields are keyed
  pub merged_keyed : (fields : List IndexedField) → AllByRecursion (IsMergedField schema norms ms all) fields → AreKeyed schema fields
  merged_keyed fields each = all_then (IsMergedField schema norms ms all) (IsKeyed schema) fields field_keyed each
