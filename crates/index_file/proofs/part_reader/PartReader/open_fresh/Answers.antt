use Rattle.std.proofs.Common.{IfErr, List, ap, drop, subst, take, ◌≡◌, ◌≢◌, ◌∙◌, ℕ}
use Rattle.definitions.specs.declared.fault.Fault.TheVariants as faults
use Rattle.segment_definitions.specs.Segments.{IsSegment}
use Rattle.index_file.proofs.part_reader.PartReader.open_fresh.Goals as goal

pub returns-clause-err : goal.returns-clause-err
returns-clause-err c =
    let same : c.in_ok-segment.segment ≡ take c.args.len (drop 9 c.args.self.now.bytes) = c.in_ok-segment.ensures.front ∙ ap (take c.args.len) c.advance.ensures in
    subst (λ (bs : List ℕ). IfErr c.open.result (λ fault. fault ≢ faults.OutOfMemory → (n : ℕ) → ¬ IsSegment c.args.self.now.opener.schema.now n bs)) same c.open.ensures.err
