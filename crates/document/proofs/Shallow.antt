-- Documents that can be indexed nest no deeper than documents are read.
use Rattle.std.proofs.Common.{[], ◌&&◌, ◌∷◌, ◌≡◌, arith, nat_le, not, true}
use Rattle.std.proofs.lemmas.Bool.Decides.{nat_tests}
use Rattle.definitions.proofs.Lists.{both_true as both}
use Rattle.definitions.specs.Indexable.{is_indexable, is_indexable_value, max_nesting, takes}
use Rattle.definitions.specs.Schema.{Schema, field_has, is_indexed}
use Rattle.definitions.specs.Values.{Document, nesting}
use Rattle.document.specs.Shallow.{IsShallow}

-- what can be indexed is shallow

pub indexable_shallow : (schema : Schema) (doc : Document) → is_indexable schema doc ≡ true → IsShallow doc
indexable_shallow schema [] e = tt
indexable_shallow schema ((field, v) ∷ doc) e =
    let tests = both (is_indexable_value schema (field, v)) (is_indexable schema doc) e in
    let shallow = both (nat_le (nesting v) max_nesting) (not (field_has (λ e. is_indexed e && not (takes e v)) schema field)) tests.0 in
    let within = shallow.0 in
    (grind (arith, nat_tests), indexable_shallow schema doc tests.1)
