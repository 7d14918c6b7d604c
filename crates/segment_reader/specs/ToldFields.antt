-- What a reader keeps of fields.
use Rattle.std.specs.Prelude.{[], ⊤, ◌∷◌, ◌≡◌, Bool, List, length, true}
use Rattle.front_coding.specs.Walks.{keys_fit}
use Rattle.front_coding.specs.declared.term_starts.TermStart.{TermStart}
use Rattle.layouts.specs.TermSections.{FieldTerms, Told, block_size}
use Rattle.segment_reader.specs.TermPlaces.{field_end, first_in, starts_of}
use Rattle.segment_reader.specs.declared.field_index.FieldIndex.{FieldIndex}
use Rattle.segment_reader.specs.declared.field_index.TermsShape.{TermsShape}

-- the shape of terms that begin at a start
pub record HasShape (front_coded : Bool) (at : TermStart) (ts : List Told) (shape : TermsShape) : Type 0 where
  pub kind : shape.front_coded ≡ front_coded
  pub many : length ts ≡ shape.num_terms
  pub longest : keys_fit shape.longest ts ≡ true
  pub first : shape.first ≡ at

-- what is kept of a field's terms that begin at a start
pub record AreKept (front_coded : Bool) (at : TermStart) (ts : List Told) (i : FieldIndex) : Type 0 where
  pub shape : HasShape front_coded at ts i.shape
  pub starts : i.starts.items ≡ starts_of (block_size front_coded) at ts

-- of each field its number, its tokens, and its terms
abbrev pub AreTold : Bool → TermStart → List FieldTerms → List FieldIndex → Type 0
AreTold kind at [] [] = ⊤
AreTold kind at (f ∷ fs) (i ∷ is) = (i.kind.field ≡ f.field) × (i.num_tokens ≡ f.num_tokens) × AreKept kind (first_in at f) f.terms i × AreTold kind (field_end (block_size kind) at f) fs is
AreTold kind at [] (i ∷ is) = ⊥
AreTold kind at (f ∷ fs) [] = ⊥
