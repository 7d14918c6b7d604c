use Rattle.std.proofs.Common.{List, Some, rules, subst, ◌≡◌, ◌⊎◌, ℕ}
use Rattle.definitions.specs.declared.fault.Fault.TheVariants as faults
use Rattle.index_file.specs.Outcomes.{IsRefusal}
use Rattle.inspect.proofs.RecordsLeft.{ListsUpTo, damaged_at, damaged_records, whole_records}
use Rattle.inspect.specs.Contents.{OpensTo}
use Rattle.segment_definitions.specs.IndexFiles.{TakesSegments}
use Rattle.inspect.proofs.contents.contents_of.Goals as goal

pub returns-in_ok-records-in-Ok : goal.returns-in_ok-records-in-Ok
returns-in_ok-records-in-Ok c =
    let same : c.in_ok-clone.field-0 ≡ c.args.bytes.now = search rules in
    let opens = subst (λ (bs : List ℕ). OpensTo bs c.in-Ok.file) same c.in-Ok.ensures.ok in
    whole_records c.args.bytes.now c.in-Ok.file c.in_ok-records-in-Ok.records.items opens (subst (λ (bs : List ℕ). ListsUpTo bs c.in-Ok.file.gate c.in_ok-records-in-Ok.records.items) c.as_slice-all.ensures c.in_ok-records-in-Ok.ensures)

pub returns-in_ok-records-in-Err-Damaged-Some : goal.returns-in_ok-records-in-Err-Damaged-Some
returns-in_ok-records-in-Err-Damaged-Some c =
    let same : c.in_ok-clone.field-0 ≡ c.args.bytes.now = search rules in
    let gate = c.in-Err-Damaged-Some.gate in
    let told : c.in-Err-Damaged-Some.field-0 ≡ faults.Damaged (Some gate) = search rules in
    let damaged = damaged_at c.args.bytes.now c.in-Err-Damaged-Some.field-0 gate told
    (subst (λ (bs : List ℕ). (c.in-Err-Damaged-Some.field-0 ≡ faults.OutOfMemory) ⊎ IsRefusal TakesSegments bs c.in-Err-Damaged-Some.field-0) same c.in-Err-Damaged-Some.ensures.err) in
    damaged_records c.args.bytes.now gate c.in_ok-records-in-Err-Damaged-Some.records.items damaged (subst (λ (bs : List ℕ). ListsUpTo bs gate c.in_ok-records-in-Err-Damaged-Some.records.items) c.as_slice-all.ensures c.in_ok-records-in-Err-Damaged-Some.ensures)
