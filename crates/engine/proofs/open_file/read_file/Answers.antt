use Rattle.std.proofs.Common.{List, ap, arith, false, inl, inr, length, map, refl, subst, sym, ◌∙◌, ◌∷◌, ◌≡◌, ◌⊎◌, ◌<◌, ℕ}
use Rattle.definitions.specs.Making.{are_analyzed}
use Rattle.definitions.specs.declared.fault.Fault.TheVariants as faults
use Rattle.layouts.proofs.FilesOfRecords.{gate_inside}
use Rattle.index_file.proofs.ErrorsKept.{err_has}
use Rattle.index_file.specs.Outcomes.{IsRefusal}
use Rattle.index_state.proofs.Parted.{leaves_few}
use Rattle.engine.proofs.FileSayings.{list_leaves}
use Rattle.engine.proofs.Readings.{read_kept}
use Rattle.engine.specs.Files.{IsOpenFault, IsOpenRefusal}
use Rattle.index_file.specs.Lists.{LeavesList, member_of}
use Rattle.segment_definitions.specs.IndexFiles.{TakesSegments}
use Rattle.engine.proofs.open_file.read_file.Goals as goal

pub returns-in_err-file-clause-refused : goal.returns-in_err-file-clause-refused
returns-in_err-file-clause-refused g c h =
    let content = g.D.Device.content c.read.new.self in
    let fault = c.in_err-file.field-0.0 in
    let same : c.in_ok-from_vec.field-0 ≡ content = c.in_ok-from_vec.ensures.ok ∙ c.in_ok-bytes.ensures.bytes h ∙ sym (c.in_ok-bytes.ensures.content h) in
    err_has c.from_residual-in_err-file.result fault (λ f. (f ≡ faults.Device) ⊎ (f ≡ faults.OutOfMemory) ⊎ IsOpenRefusal (g.A.Analyzer.knows_name c.args.analyzer.now) content f) c.from_residual-in_err-file.ensures.1
    (elim c.in_err-file.ensures.err [
      | inl memory ↦ inr (inl memory)
      | inr refusal ↦ inr (inr (inl (subst (λ (l : List ℕ). IsRefusal TakesSegments l fault) same refusal)))
    ])

pub returns-in_err-file-clause-faults : goal.returns-in_err-file-clause-faults
returns-in_err-file-clause-faults g c =
    err_has c.from_residual-in_err-file.result c.in_err-file.field-0.0 IsOpenFault c.from_residual-in_err-file.ensures.1
    (elim c.in_err-file.ensures.err [
      | inl memory ↦ inr (inl memory)
      | inr (inl none) ↦ inr (inr (inl none.0))
      | inr (inr damage) ↦ inr (inr (inr (inl (damage.0, damage.1))))
    ])

pub returns-in_err-bytes-clause-faults : goal.returns-in_err-bytes-clause-faults
returns-in_err-bytes-clause-faults g c =
    err_has c.from_residual.result c.in_err-bytes.field-0.0 IsOpenFault c.from_residual.ensures.1
    (elim c.in_err-bytes.ensures.fault [
      | inl failed ↦ inl failed
      | inr memory ↦ inr (inl memory)
    ])

pub returns-then-not-are_analyzed-clause-refused : goal.returns-then-not-are_analyzed-clause-refused
returns-then-not-are_analyzed-clause-refused g c h =
    let content = g.D.Device.content c.read.new.self in
    let file = c.in_ok-file.file in
    let same : c.in_ok-from_vec.field-0 ≡ content = c.in_ok-from_vec.ensures.ok ∙ c.in_ok-bytes.ensures.bytes h ∙ sym (c.in_ok-bytes.ensures.content h) in
    let list : LeavesList file.schema file.settings content file.gate (map member_of file.members.items) = subst (λ (l : List ℕ). LeavesList file.schema file.settings l file.gate (map member_of file.members.items)) same c.in_ok-file.ensures.ok in
    let unknown : are_analyzed (g.A.Analyzer.knows_name c.args.analyzer.now) file.schema ≡ false = sym c.are_analyzed.ensures ∙ c.if-not-are_analyzed.true in
    inr (inr (inr (refl, (file.schema, file.settings, map member_of file.members.items, (list.first ∷ list.bodies, list.ends.file, list_leaves file.schema file.settings content file.gate (map member_of file.members.items) list), unknown))))

pub returns-clause-file : goal.returns-clause-file
returns-clause-file g c h =
    let content = g.D.Device.content c.read.new.self in
    let file = c.in_ok-file.file in
    let same : c.in_ok-from_vec.field-0 ≡ content = c.in_ok-from_vec.ensures.ok ∙ c.in_ok-bytes.ensures.bytes h ∙ sym (c.in_ok-bytes.ensures.content h) in
    subst (λ (l : List ℕ). LeavesList file.schema file.settings l file.gate (map member_of file.members.items)) same c.in_ok-file.ensures.ok

pub returns-clause-inside : goal.returns-clause-inside
returns-clause-inside g c h =
    let content = g.D.Device.content c.read.new.self in
    let file = c.in_ok-file.file in
    let same : c.in_ok-from_vec.field-0 ≡ content = c.in_ok-from_vec.ensures.ok ∙ c.in_ok-bytes.ensures.bytes h ∙ sym (c.in_ok-bytes.ensures.content h) in
    let list = c.in_ok-file.ensures.ok in
    subst (λ (l : List ℕ). file.gate < length l) same (gate_inside (list.first ∷ list.bodies) c.in_ok-from_vec.field-0 file.gate list.ends)

pub returns-clause-short : goal.returns-clause-short
returns-clause-short g c =
    let file = c.in_ok-file.file in
    let list = c.in_ok-file.ensures.ok in
    let inside : file.gate < length c.in_ok-from_vec.field-0 = gate_inside (list.first ∷ list.bodies) c.in_ok-from_vec.field-0 file.gate list.ends in
    let same = ap length c.in_ok-from_vec.ensures.ok in
    let len = c.in_ok-bytes.bytes.ok.0 in
    let within = c.in_ok-bytes.bytes.ok.1 in
    let small = c.in_ok-bytes.bytes.small in
    omega (arith, inside, same, len, within, small)

pub returns-clause-few : goal.returns-clause-few
returns-clause-few g c =
    let file = c.in_ok-file.file in
    leaves_few file.schema file.settings c.in_ok-from_vec.field-0 file.gate file.members.items c.in_ok-file.ensures.ok

pub returns-then-not-are_analyzed-clause-kept : goal.returns-then-not-are_analyzed-clause-kept
returns-then-not-are_analyzed-clause-kept g c h =
    let d = g.D.Device in
    let device = c.args.device.now in
    read_kept d.moment d.left_since d.content d.unsynced device c.read.new.self (λ image left. g.met.D.Device.only_now device image h left) (c.read.ensures.content h) (c.read.ensures.unsynced h) (c.read.ensures.time h)

pub returns-clause-kept : goal.returns-clause-kept
returns-clause-kept g c h =
    let d = g.D.Device in
    let device = c.args.device.now in
    read_kept d.moment d.left_since d.content d.unsynced device c.read.new.self (λ image left. g.met.D.Device.only_now device image h left) (c.read.ensures.content h) (c.read.ensures.unsynced h) (c.read.ensures.time h)
