-- The length ids of a field's documents, where the field keeps lengths and where it doesn't.
use Rattle.std.proofs.Common.{[], Bool, List, None, Option, Some, ap, arith, cond, false, find, length, option_map, refl, replicate, slice_index, slice_index_or, suc, sym, true, zero, ◌<◌, ◌==◌, ◌≡◌, ◌∙◌, ◌∷◌, ℕ, subst}
use Rattle.std.proofs.Math.Logic.{∥∥₁_elim}
use Rattle.std.proofs.Props.{props}
use Rattle.std.proofs.lemmas.List.{get_or-replicate}
use Rattle.std.proofs.lemmas.Option.{slice_get_within}
use Rattle.std.specs.List.{AllByRecursion}
use Rattle.std.specs.Option.{option_map_or}
use Rattle.definitions.specs.Analyzers.{Analyzer}
use Rattle.definitions.specs.Schema.{Schema}
use Rattle.definitions.specs.Scoring.{length_id}
use Rattle.definitions.specs.Values.{Document}
use Rattle.docsets.proofs.EntryLaws.{none_of}
use Rattle.docsets.specs.Entries.{Entry, from}
use Rattle.segment_reader.proofs.DocumentIds.{ids_are, none_there}
use Rattle.layouts.specs.FieldNorms.{ids_of}
use Rattle.layouts.specs.InvertedIndexes.{field_ids}
use Rattle.layouts.specs.TermPostings.{id_of}
use Rattle.segment_reader.specs.SegmentReaders.{StandsFor, lengths_of, max_doc_of, index_of}
use Rattle.segment_reader.proofs.PartsTogether.{known_together}
use Rattle.segment_reader.specs.declared.segment_reader.SegmentReader.{SegmentReader}
use Rattle.segment_reader.specs.LengthIds.{AreIds}
use Rattle.segment_reader.specs.Readers.{Contents, Reader}
use Rattle.segment_reader.specs.Together.{AreTogether}

-- a field whose ids are found has one for each document
found_length : (field n : ℕ) (lengths : List (ℕ × List ℕ)) (ids : List ℕ) → AllByRecursion (λ p. length p.1 ≡ n) lengths → ids_of field lengths ≡ Some ids → length ids ≡ n
found_length field n [] ids each found = absurd (let no : ⊥ = cc in no)
found_length field n (p ∷ ps) ids each found = go (p.0 == field) (found_length field n ps ids each.1) found
  where
    go : (b : Bool) → (option_map (λ (q : ℕ × List ℕ). q.1) (find (λ (q : ℕ × List ℕ). q.0 == field) ps) ≡ Some ids → length ids ≡ n) → option_map (λ (q : ℕ × List ℕ). q.1) (cond b (Some p) (find (λ (q : ℕ × List ℕ). q.0 == field) ps)) ≡ Some ids → length ids ≡ n
    go true rest e = sym (ap (λ (o : Option (List ℕ)). option_map_or length o 0) e) ∙ each.0
    go false rest e = rest e

-- what is found among the lengths of a reader
pub lent_ids : (r : SegmentReader) (field g : ℕ) (lengths : List (ℕ × List ℕ)) (o : Option (List ℕ)) → o ≡ ids_of g lengths → lengths ≡ lengths_of r → g ≡ field → ids_of field (lengths_of r) ≡ o
lent_ids r field g lengths o found lent same = sym (found ∙ ap (ids_of g) lent ∙ ap (λ f. ids_of f (lengths_of r)) same)

pub one_for_each : (r : SegmentReader) (field : ℕ) (ids : List ℕ) → ids_of field (lengths_of r) ≡ Some ids → length ids ≡ max_doc_of r
one_for_each r field ids found = ∥∥₁_elim (known_together r) (hlevel props) (λ together. found_length field (max_doc_of r) (lengths_of r) ids together.each_field found)

-- an id that is there is found, whatever another would be
there : (ids : List ℕ) (index : ℕ) → index < length ids → slice_index ids index ≡ slice_index_or ids index 1
there [] index l = absurd (omega (arith, l))
there (i ∷ ids) zero l = refl
there (i ∷ ids) (suc index) l = there ids index (omega (arith, l))

-- of a field that keeps lengths
pub kept_ids : (schema : Schema) (analyze : Analyzer) (docs : List Document) (r : SegmentReader) (field : ℕ) (ids : List ℕ) → StandsFor schema analyze docs r → ids_of field (lengths_of r) ≡ Some ids → AreIds (length_id schema analyze field) docs ids
kept_ids schema analyze docs r field ids stands found index doc is =
    let here = slice_get_within docs index doc is in
    let many = stands.many in
    let each = one_for_each r field ids found in
    there ids index (omega (arith, here, many, each))
    ∙ ap (λ (o : Option (List ℕ)). id_of (option_map_or (λ xs. xs) o []) index) (sym found ∙ ap (ids_of field) stands.lengths_are)
    ∙ ids_are schema analyze docs field index doc is

-- of one that doesn't
pub constant_ids : (schema : Schema) (analyze : Analyzer) (docs : List Document) (r : SegmentReader) (field : ℕ) → StandsFor schema analyze docs r → ids_of field (lengths_of r) ≡ None → AreIds (length_id schema analyze field) docs (replicate (max_doc_of r) 1)
constant_ids schema analyze docs r field stands none index doc is =
    let here = slice_get_within docs index doc is in
    let many = stands.many in
    get_or-replicate (max_doc_of r) index 1 0 (omega (arith, here, many))
    ∙ sym (none_there index)
    ∙ ap (λ (o : Option (List ℕ)). id_of (option_map_or (λ xs. xs) o []) index) (sym none ∙ ap (ids_of field) stands.lengths_are)
    ∙ ids_are schema analyze docs field index doc is

-- ---- the ids that a field's postings are written with, for any reader

pub ids_kept : (r : SegmentReader) (field : ℕ) (ids : List ℕ) (doc : ℕ) → ids_of field (lengths_of r) ≡ Some ids → id_of ids doc ≡ id_of (field_ids (lengths_of r) field) doc
ids_kept r field ids doc found = ap (λ (o : Option (List ℕ)). id_of (option_map_or (λ xs. xs) o []) doc) (sym found)

all_one : (n doc : ℕ) → id_of (replicate n 1) doc ≡ 1
all_one zero doc = none_there doc
all_one (suc n) zero = refl
all_one (suc n) (suc doc) = all_one n doc

pub none_kept : (r : SegmentReader) (field n doc : ℕ) → ids_of field (lengths_of r) ≡ None → id_of (replicate n 1) doc ≡ id_of (field_ids (lengths_of r) field) doc
none_kept r field n doc none = all_one n doc ∙ sym (none_there doc) ∙ ap (λ (o : Option (List ℕ)). id_of (option_map_or (λ xs. xs) o []) doc) (sym none)

-- what a reader holds stays within its documents
pub all_within : (r : SegmentReader) (index : Reader) (n : ℕ) (es : List Entry) → index ≡ index_of r → n ≡ max_doc_of r → ((contents : Contents index) → from contents.num_docs es ≡ []) → from n es ≡ []
all_within r index n es lent many within =
    none_of (from n es) (∥∥₁_elim (known_together r) (hlevel props) (λ (together : AreTogether (max_doc_of r) (lengths_of r) (index_of r)).
    (let here : Contents (index_of r) = record { schema = together.schema; num_docs = max_doc_of r; norms = lengths_of r; fields = together.fields; is_reader = together.reads } in
    let lent_here = subst (λ i. ((contents : Contents i) → from contents.num_docs es ≡ [])) lent within in
    ap (λ k. length (from k es)) many ∙ ap length (lent_here here))))
