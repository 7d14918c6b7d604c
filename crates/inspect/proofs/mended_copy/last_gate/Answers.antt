use Rattle.std.proofs.Common.{Some, inl, inr, map, refl, rules, subst, sym, ◌∙◌, ◌≡◌, ◌≢◌, ℕ}
use Rattle.definitions.specs.declared.fault.Fault.TheVariants as faults
use Rattle.index_file.specs.Lists.{LeavesList, member_of}
use Rattle.index_file.specs.Outcomes.{IsRefusal}
use Rattle.segment_definitions.specs.IndexFiles.{TakesSegments}
use Rattle.inspect.proofs.mended_copy.last_gate.Goals as goal

damage_is_no_memory : (gate : ℕ) → faults.Damaged (Some gate) ≢ faults.OutOfMemory
damage_is_no_memory gate same = cc

pub returns-in-Ok-clause-last : goal.returns-in-Ok-clause-last
returns-in-Ok-clause-last c =
    let file = c.in-Ok.file in
    let same : c.in_ok-clone.field-0 ≡ c.args.bytes.now = search rules in
    inl (file, refl, subst (λ bs. LeavesList file.schema file.settings bs file.gate (map member_of file.members.items)) same c.in-Ok.ensures.ok)

pub returns-in-Err-Damaged-Some-clause-last : goal.returns-in-Err-Damaged-Some-clause-last
returns-in-Err-Damaged-Some-clause-last c =
    let same : c.in_ok-clone.field-0 ≡ c.args.bytes.now = search rules in
    let damaged : c.in-Err-Damaged-Some.field-0 ≡ faults.Damaged (Some c.in-Err-Damaged-Some.gate) = search rules in
    elim c.in-Err-Damaged-Some.ensures.err [
      | inl memory ↦ absurd (damage_is_no_memory c.in-Err-Damaged-Some.gate (sym damaged ∙ memory))
      | inr refused ↦ inr (subst (λ bs. IsRefusal TakesSegments bs (faults.Damaged (Some c.in-Err-Damaged-Some.gate))) same (subst (IsRefusal TakesSegments c.in_ok-clone.field-0) damaged refused))
    ]
