-- Tests that are made one after another.
use Rattle.std.proofs.Common.{[], Bool, Err, List, Ok, Option, Result, Some, ap, false, map, refl, sym, true, ◌++◌, ◌∙◌, ◌∷◌, ◌≡◌, ◌||◌, ℕ}
use Rattle.std.specs.List.{list_any}
use Rattle.std.specs.Option.{option_or}
use Rattle.std.specs.Result.{IsErrAnd, result_err}
use Rattle.definitions.specs.Query.{Terms}
use Rattle.definitions.specs.Refusing.{Test, first_fault, is_mismatched, is_not_indexed, is_unknown, term_tests}
use Rattle.definitions.specs.Schema.{Schema}
use Rattle.definitions.specs.declared.fault.Fault.{Fault}
use Rattle.definitions.specs.declared.fault.Fault.TheVariants as faults

-- a test of the second parts
pub any_of_parts : {X Y : Type 0} (p : Y → Bool) (xs : List (X × Y)) → list_any (λ x. p x.1) xs ≡ list_any p (map (λ x. x.1) xs)
any_of_parts p [] = refl
any_of_parts p (x ∷ xs) = ap (λ b. p x.1 || b) (any_of_parts p xs)

-- the tests of a phrase's terms, by what they tell
pub told_tests : (schema : Schema) (ts : Terms) (a b c : Bool) → list_any (λ t. is_unknown schema t.1) ts ≡ a → list_any (λ t. is_not_indexed schema t.1) ts ≡ b → list_any (λ t. is_mismatched schema t.1) ts ≡ c → first_fault (term_tests schema (map (λ t. t.1) ts)) ≡ first_fault ((a, faults.UnknownField) ∷ (b, faults.NotIndexed) ∷ (c, faults.TypeMismatch) ∷ [])
told_tests schema ts a b c x y z =
    let by : Bool → Bool → Bool → Option Fault = λ p q r. first_fault ((p, faults.UnknownField) ∷ (q, faults.NotIndexed) ∷ (r, faults.TypeMismatch) ∷ []) in
    let parts : List (List ℕ) = map (λ t. t.1) ts in
    ap (λ p. by p (list_any (is_not_indexed schema) parts) (list_any (is_mismatched schema) parts)) (sym (any_of_parts (is_unknown schema) ts) ∙ x)
    ∙ ap (λ q. by a q (list_any (is_mismatched schema) parts)) (sym (any_of_parts (is_not_indexed schema) ts) ∙ y)
    ∙ ap (λ r. by a b r) (sym (any_of_parts (is_mismatched schema) ts) ∙ z)

-- further tests are made where the others pass
pub first_fault-append : (ts us : List Test) → first_fault (ts ++ us) ≡ option_or (first_fault ts) (first_fault us)
first_fault-append [] us = refl
first_fault-append ((true, fault) ∷ ts) us = refl
first_fault-append ((false, fault) ∷ ts) us = first_fault-append ts us

-- a fault that is told first stays the first
pub first_of : (ts us : List Test) (fault : Fault) → first_fault ts ≡ Some fault → first_fault (ts ++ us) ≡ Some fault
first_of ts us fault h = first_fault-append ts us ∙ ap (λ o. option_or o (first_fault us)) h

-- an error that is told is that one
pub err_told : {T : Type 0} (r : Result T Fault) (fault : Fault) → IsErrAnd r (λ e. e ≡ fault) → result_err r ≡ Some fault
err_told (Ok x) fault h = absurd h
err_told (Err e) fault h = ap Some h
