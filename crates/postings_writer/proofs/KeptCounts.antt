-- Counts that are recorded.
use Rattle.std.proofs.Common.{[], ◌<◌, ◌^◌, ◌≡◌, ◌∙◌, ◌∷◌, List, ap, arith, length, refl, subst, sym, true, ℕ}
use Rattle.definitions.specs.Schema.{Schema, has_freq}
use Rattle.layouts.specs.InvertedIndexes.{option_of_term}
use Rattle.postings_writer.specs.Fields.{option_of_key}
use Rattle.postings_writer.specs.Occurrences.{Occurrence, by_document, last_count, places_of}
use Rattle.postings_writer.specs.Recorders.{IsCountWithin}
use Rattle.postings_writer.specs.Writers.{IsIndexedTerm, Stands, Writer}
use Rattle.postings_writer.proofs.Bridges.{same_option}
use Rattle.postings_writer.proofs.WrittenSections.{term_known}

-- the count of a term's last document
pub count_kept : (schema : Schema) (w : Writer) (os : List Occurrence) (t : List ℕ) → Stands schema w os → IsCountWithin (option_of_term schema t) (places_of t os)
count_kept schema w os t stands counted = go (places_of t os) refl
  where
    known : 0 < length (places_of t os) → last_count (by_document (places_of t os)) < 2 ^ 32
    known some =
        let k : IsIndexedTerm schema t = term_known schema w.num_docs t os stands.each_occurrence some in
        let option : has_freq (option_of_key k.entry k.key) ≡ true = ap has_freq (sym (ap (option_of_term schema) k.term_is ∙ same_option schema k.field k.entry k.key k.fits k.entry_is)) ∙ counted in
        let has = stands.recorded k.field k.entry k.entry_is in
        subst (λ bytes. last_count (by_document (places_of bytes os)) < 2 ^ 32) (sym k.term_is) (has.2.counted k.key option)

    go : (ps : List (ℕ × ℕ)) → places_of t os ≡ ps → last_count (by_document ps) < 2 ^ 32
    go [] is = omega arith
    go (p ∷ ps) is = subst (λ qs. last_count (by_document qs) < 2 ^ 32) is (known (subst (λ (qs : List (ℕ × ℕ)). 0 < length qs) (sym is) (omega arith)))
