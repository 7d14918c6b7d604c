-- The values of a field in documents.
use Rattle.std.proofs.Common.{[], Bool, List, None, Option, Some, ap, ap₂, cond, false, map, refl, sym, true, ◌+◌, ◌++◌, ◌==◌, ◌∙◌, ◌∷◌, ◌≡◌, ℕ}
use Rattle.std.proofs.lemmas.Bool.{eq-eqb, eqb-true}
use Rattle.std.proofs.lemmas.List.{map-append}
use Rattle.std.proofs.lemmas.List.Elements.{filter-append}
use Rattle.std.specs.List.{AllByRecursion, cons_option, enumerate_from, filter_map}
use Rattle.std.specs.Prelude.{filter}
use Rattle.definitions.specs.Schema.{Entry, Schema, field_has}
use Rattle.definitions.specs.Stored.{by_field, named_values, plain, stored_pairs}
use Rattle.definitions.specs.Values.{Document, Value, values_of}
use Rattle.segment.proofs.StoredBack.{is_stored}

pub values_append : (f : ℕ) (a b : Document) → values_of f (a ++ b) ≡ values_of f a ++ values_of f b
values_append f a b = ap (map (λ p. p.1)) (filter-append (λ p. p.0 == f) a b) ∙ map-append (λ p. p.1) (filter (λ p. p.0 == f) a) (filter (λ p. p.0 == f) b)

pub values_own : (field : ℕ) (vs : List Value) → values_of field (map (λ v. (field, v)) vs) ≡ vs
values_own field [] = refl
values_own field (v ∷ vs) = rw (eq-eqb field field refl) (ap (λ ws. v ∷ ws) (values_own field vs))

pub values_other : (f field : ℕ) (vs : List Value) → (field == f) ≡ false → values_of f (map (λ v. (field, v)) vs) ≡ []
values_other f field [] other = refl
values_other f field (v ∷ vs) other = rw other (values_other f field vs other)

-- ---- what is stored, once more

-- values that are stored as they are
values_plain : (f : ℕ) (doc : Document) → AllByRecursion (λ p. plain p.1 ≡ p.1) doc → map plain (values_of f doc) ≡ values_of f doc
values_plain f [] h = refl
values_plain f ((g, v) ∷ doc) h = go (g == f) (values_plain f doc h.1)
  where
    go : (s : Bool) → map plain (values_of f doc) ≡ values_of f doc → map plain (map (λ p. p.1) (cond s ((g, v) ∷ filter (λ p. p.0 == f) doc) (filter (λ p. p.0 == f) doc))) ≡ map (λ p. p.1) (cond s ((g, v) ∷ filter (λ p. p.0 == f) doc) (filter (λ p. p.0 == f) doc))
    go true ih = ap₂ (λ w ws. w ∷ ws) h.0 ih
    go false ih = ih

-- what is stored of a field
abbrev kept : Bool → List Value → List Value
kept t vs = cond t (map plain vs) []

values_stored : (schema : Schema) (f : ℕ) (doc : Document) → values_of f (stored_pairs schema doc) ≡ kept (is_stored schema f) (values_of f doc)
values_stored schema f [] = go (is_stored schema f)
  where
    go : (t : Bool) → [] ≡ kept t []
    go true = refl
    go false = refl
values_stored schema f ((g, v) ∷ doc) = go (values_stored schema f doc) (is_stored schema g) refl (g == f) refl
  where
    go : values_of f (stored_pairs schema doc) ≡ kept (is_stored schema f) (values_of f doc) → (t : Bool) → is_stored schema g ≡ t → (s : Bool) → (g == f) ≡ s → values_of f (stored_pairs schema ((g, v) ∷ doc)) ≡ kept (is_stored schema f) (values_of f ((g, v) ∷ doc))
    go ih true stored true own = let is : is_stored schema f ≡ true = ap (is_stored schema) (sym (eqb-true g f own)) ∙ stored in rw (stored, own, is) (ap (λ ws. plain v ∷ ws) (ih ∙ ap (λ t. kept t (values_of f doc)) is))
    go ih true stored false own = rw (stored, own) ih
    go ih false stored true own =
        let is : is_stored schema f ≡ false = ap (is_stored schema) (sym (eqb-true g f own)) ∙ stored in
        rw (stored, own) (ih ∙ ap (λ t. kept t (values_of f doc)) is ∙ sym (ap (λ t. kept t (v ∷ values_of f doc)) is))
    go ih false stored false own = rw (stored, own) ih

-- a field that isn't stored has no stored values
pub values_unstored : (schema : Schema) (f : ℕ) (doc : Document) → field_has (λ e. e.stored) schema f ≡ false → values_of f (stored_pairs schema doc) ≡ []
values_unstored schema f doc not_stored = values_stored schema f doc ∙ ap (λ t. kept t (values_of f doc)) not_stored

-- of a document with the stored values of another as much is stored
pub stored_again : (schema : Schema) (doc back : Document) → AllByRecursion (λ p. plain p.1 ≡ p.1) doc → ((f : ℕ) → values_of f back ≡ values_of f (stored_pairs schema doc)) → (f : ℕ) → values_of f (stored_pairs schema back) ≡ values_of f (stored_pairs schema doc)
stored_again schema doc back as_stored same f =
    values_stored schema f back
    ∙ ap (kept (is_stored schema f)) (same f ∙ values_stored schema f doc)
    ∙ go (is_stored schema f)
    ∙ sym (values_stored schema f doc)
  where
    go : (t : Bool) → kept t (kept t (values_of f doc)) ≡ kept t (values_of f doc)
    go true = ap (map plain) (values_plain f doc as_stored)
    go false = refl

-- ---- documents with the same values of each field

abbrev pub named_of : Entry → List Value → Option (List ℕ × List Value)
named_of e vs = elim vs [ [] ↦ None | v ∷ ws ↦ Some (e.name, v ∷ ws) ]

named_same : (d e : Document) → ((f : ℕ) → values_of f d ≡ values_of f e) → (n : ℕ) (schema : Schema) → filter_map (named_values d) (enumerate_from n schema) ≡ filter_map (named_values e) (enumerate_from n schema)
named_same d e same n [] = refl
named_same d e same n (entry ∷ schema) = ap₂ cons_option (ap (named_of entry) (same n)) (named_same d e same (n + 1) schema)

pub by_field_same : (schema : Schema) (d e : Document) → ((f : ℕ) → values_of f d ≡ values_of f e) → by_field schema d ≡ by_field schema e
by_field_same schema d e same = named_same d e same 0 schema
