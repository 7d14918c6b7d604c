-- Two terms of one field, as terms of a phrase.
use Rattle.std.proofs.Common.{[], List, refl, true, ◌∷◌, ◌≡◌, ℕ}
use Rattle.std.proofs.lemmas.Bool.{and_from, eq-eqb}
use Rattle.std.specs.List.{enumerate_from}
use Rattle.std.specs.Prelude.{nat_le}
use Rattle.definitions.specs.Terms.{field_of}
use Rattle.query_trees.specs.PhraseTerms.{are_phrase_terms}

-- they are terms of a phrase that asks for no more of them
pub two_of_field : (least : ℕ) (a b : List ℕ) → nat_le least 2 ≡ true → field_of b ≡ field_of a → are_phrase_terms least (enumerate_from 0 (a ∷ b ∷ [])) ≡ true
two_of_field least a b enough same =
    and_from _ _ enough (and_from _ _ (eq-eqb (field_of a) (field_of a) refl) (and_from _ _ (eq-eqb (field_of b) (field_of a) same) refl))
