use Rattle.std.proofs.Common.{ap, arith, length, length-append, map, ◌<◌, ◌∙◌}
use Rattle.std.proofs.lemmas.List.{map-append}
use Rattle.inspect.proofs.Listed.{listed_all, listed_more, no_refusal}
use Rattle.inspect.specs.Records.{gate_and_body}
use Rattle.layouts.specs.RecordFiles.{records}
use Rattle.inspect.proofs.records.records_before.Goals as goal

pub returns-in_default : goal.returns-in_default
returns-in_default c = λ bodies byte tail whole short end.
    let before : c.loop-gate.gate < length (records bodies) = omega arith in
    absurd (no_refusal bodies byte tail c.loop-gate.gate (map gate_and_body c.loop-gate.records.items) c.loop-gate.rest.now before (c.loop-gate.invariant.listed bodies byte tail whole short end) c.in_default.ensures.err)

pub loop-gate-preserved : goal.loop-gate-preserved
loop-gate-preserved c =
    let taken = c.in-Ok.ensures.ok in
    let (gate, is, few, some) = taken in
    record {
      listed = λ bodies byte tail whole short end.
          let before : c.loop-gate.gate < length (records bodies) = omega arith in
          listed_more bodies byte tail c.loop-gate.gate _ (map gate_and_body c.loop-gate.records.items) _ c.loop-gate.rest.now c.in-Ok.body.now c.in-Ok.after.now gate before (c.loop-gate.invariant.listed bodies byte tail whole short end) is few (omega arith)
          (ap (map gate_and_body) c.in_ok-push.ensures.items ∙ map-append gate_and_body c.loop-gate.records.items _);
      within = omega (arith, ap length is, length-append c.in-Ok.body.now c.in-Ok.after.now, c.loop-gate.invariant.within);
    }

pub returns : goal.returns
returns c = λ bodies byte tail whole short end.
    listed_all bodies byte tail c.loop-gate.gate (map gate_and_body c.loop-gate.records.items) c.loop-gate.rest.now (omega arith) (c.loop-gate.invariant.listed bodies byte tail whole short end)
