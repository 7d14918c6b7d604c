-- By cases of the three tests, in their order.
use Rattle.std.proofs.Common.{Bool, Err, None, Ok, Option, Result, Some, [], ap, arith, cond, false, is_some, length, nat_le, not, refl, true, ◌++◌, ◌∷◌, ◌≡◌, ◌∙◌, ℕ}
use Rattle.std.specs.Result.{result_map_both}
use Rattle.std.proofs.lemmas.Bool.Decides.{nat_tests}
use Rattle.definitions.specs.Schema.{Entry, Schema, field_named, is_valid_field_name, max_fields}
use Rattle.definitions.specs.SchemaGrammar.{fault_read}
use Rattle.definitions.specs.declared.fault.Fault.{Fault}
use Rattle.definitions.specs.declared.fault.Fault.TheVariants as faults
use Rattle.schema.proofs.json_laws.fields_are_refused_in_order.Goals as goal

-- what becomes of a field, by what the tests find
abbrev judged : Schema → Entry → Option ℕ → Bool → Bool → Result Schema Fault
judged s e found valid full = result_map_both (λ (t : Schema). t) fault_read (cond (is_some found) (Err faults.DuplicateName) (cond (not valid) (Err faults.BadName) (cond full (Err faults.TooManyFields) (Ok (s ++ (e ∷ []))))))

pub returns-clause-twice : goal.returns-clause-twice
returns-clause-twice c = λ s e i found. ap (λ o. judged s e o (is_valid_field_name e.name) (nat_le max_fields (length s))) found

pub returns-clause-bad : goal.returns-clause-bad
returns-clause-bad c = λ s e bad. ap (λ v. judged s e (field_named s e.name) v (nat_le max_fields (length s))) bad ∙ either s e (field_named s e.name)
  where
    either : (s : Schema) (e : Entry) (o : Option ℕ) → judged s e o false (nat_le max_fields (length s)) ≡ Err faults.BadSchema
    either s e None = refl
    either s e (Some i) = refl

pub returns-clause-full : goal.returns-clause-full
returns-clause-full c = λ s e fresh valid long. (let full : nat_le max_fields (length s) ≡ true = grind (arith, nat_tests) in ap (λ o. judged s e o (is_valid_field_name e.name) (nat_le max_fields (length s))) fresh ∙ ap (λ v. judged s e None v (nat_le max_fields (length s))) valid ∙ ap (λ m. judged s e None true m) full)
