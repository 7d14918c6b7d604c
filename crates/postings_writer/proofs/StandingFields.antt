-- The fields of what was recorded, as they are written.
use Rattle.std.proofs.Common.{[], ◌≡◌, ◌≤◌, ◌∙◌, ◌∷◌, Bool, IfSome, List, None, Option, Some, ap, arith, bytes_eq, cond, find, get_or, length, map, option_map, refl, slice_get, subst, sym, true, false, ℕ, ◌==◌}
use Rattle.std.proofs.Props.{props}
use Rattle.std.specs.List.{AllByRecursion}
use Rattle.std.specs.Map.{lookup}
use Rattle.std.specs.Option.{option_map_or}
use Rattle.std.proofs.lemmas.Option.{slice_get-get_or, slice_get_within}
use Rattle.codes.specs.UnpackedBlocks.{listed}
use Rattle.definitions.specs.Postings.{Posting}
use Rattle.definitions.specs.Schema.{Entry, Schema}
use Rattle.definitions.specs.Terms.{term_bytes}
use Rattle.layouts.proofs.Lists.{IsAscendingFrom-prop}
use Rattle.layouts.specs.Deltas.{IsAscendingFrom}
use Rattle.layouts.specs.FieldNorms.{ids_of}
use Rattle.layouts.specs.InvertedIndexes.{field_ids}
use Rattle.postings_writer.specs.Fields.{HasRecorders, Terms, option_of_key}
use Rattle.postings_writer.specs.Occurrences.{Occurrence, places_of, postings_at}
use Rattle.postings_writer.specs.Serializing.{CanWrite, postings_from}
use Rattle.postings_writer.specs.Writers.{HasFields, Stands, Writer}
use Rattle.postings_writer.specs.declared.recorder.Recorder.{Recorder}
use Rattle.postings_writer.proofs.Bridges.{recorded_postings}
use Rattle.postings_writer.proofs.KeptRecorders.{recorder_is}
use Rattle.postings_writer.proofs.Occurrences.{can_write, occurrences_stand}

-- the lengths of a field
pub ids_long : (n field : ℕ) (norms : List (ℕ × List ℕ)) → AllByRecursion (λ (p : ℕ × List ℕ). n ≤ length p.1) norms → IfSome (ids_of field norms) (λ ids. n ≤ length ids)
ids_long n field [] all = tt
ids_long n field (p ∷ norms) all = go (p.0 == field) (ids_long n field norms all.1)
  where
    go : (b : Bool) → IfSome (ids_of field norms) (λ ids. n ≤ length ids) → IfSome (option_map (λ (q : ℕ × List ℕ). q.1) (cond b (Some p) (find (λ (q : ℕ × List ℕ). q.0 == field) norms))) (λ ids. n ≤ length ids)
    go true later = all.0
    go false later = later

pub ids_listed : (field : ℕ) (norms : List (ℕ × List ℕ)) → listed (ids_of field norms) ≡ field_ids norms field
ids_listed field norms = go (ids_of field norms)
  where
    go : (o : Option (List ℕ)) → listed o ≡ option_map_or (λ ids. ids) o []
    go None = refl
    go (Some ids) = refl

-- that postings may be written is a proposition
pub CanWrite-prop : (next : ℕ) (norms : Option (List ℕ)) (ps : List Posting) → IsProp (CanWrite next norms ps)
CanWrite-prop next norms ps = (let ascending : IsProp (IsAscendingFrom next (map (λ (p : Posting). p.doc) ps)) = IsAscendingFrom-prop next (map (λ (p : Posting). p.doc) ps) in hlevel (props, ascending))

-- the occurrences of a field's terms
abbrev pub occurrences_in : ℕ → Entry → List Occurrence → List ℕ → List (ℕ × ℕ)
occurrences_in field e os key = places_of (term_bytes field e.kind key) os

module _ (schema : Schema) (w : Writer) (os : List Occurrence) (field : ℕ) (e : Entry) (terms : Terms) (stands : Stands schema w os) (at : slice_get schema field ≡ Some e) (here : slice_get w.fields field ≡ Some terms) where
  -- the recorders of a field are those of its occurrences
  pub field_has : HasRecorders e (occurrences_in field e os) terms
  field_has =
      let s = stands.recorded field e at in
      let same : s.0 ≡ terms = (let both : Some s.0 ≡ Some terms = sym s.1 ∙ here in cc) in
      subst (HasRecorders e (occurrences_in field e os)) same s.2

  -- what they stand for may be written
  pub field_can : (norms : Option (List ℕ)) → w.num_docs ≤ 2147483647 → IfSome norms (λ ids. w.num_docs ≤ length ids) → (key : List ℕ) (r : Recorder) → lookup (bytes_eq key) terms ≡ Some r → CanWrite 0 norms (postings_from r 0)
  field_can norms few long key r found =
      let is = recorder_is (option_of_key e key) (occurrences_in field e os key) r (sym (field_has.recorders key) ∙ found) in
      let ps : postings_at (option_of_key e key) (occurrences_in field e os key) ≡ postings_from r 0 = sym (recorded_postings (option_of_key e key) (occurrences_in field e os key)) ∙ ap (λ x. postings_from x 0) (sym is) in
      subst (CanWrite 0 norms) ps (can_write w.num_docs (option_of_key e key) (occurrences_in field e os key) (occurrences_stand schema w os (term_bytes field e.kind key) stands) norms few long)

-- the recorders that stand at a field
pub recorders_at : (schema : Schema) (inside w : Writer) (field id : ℕ) (e : Entry) (terms : Terms) → inside ≡ w → HasFields schema w → slice_get schema field ≡ Some e → id ≡ field → terms ≡ get_or inside.fields id terms → slice_get w.fields field ≡ Some terms
recorders_at schema inside w field id e terms view made at is here =
    let long = ap (λ (x : Writer). length x.fields) view in
    let within = slice_get_within schema field e at in
    let P : ℕ → Type 0 = λ n. slice_get inside.fields n ≡ Some terms in
    ap (λ (x : Writer). slice_get x.fields field) (sym view) ∙ subst P is (slice_get-get_or inside.fields id terms (omega arith) ∙ ap Some (sym here))
