use Rattle.std.proofs.Common.{◌∙◌, sym}
use Rattle.document_values.specs.Shown.{value_of}
use Rattle.layouts.specs.DocumentReading.{take_pair, take_value}
use Rattle.document_values.proofs.Skips.{many_step, pair_taken}
use Rattle.document_values.proofs.value_reader.skip_pairs.Goals as goal

pub loop-left-preserved : goal.loop-left-preserved
loop-left-preserved c =
    let one = pair_taken take_value c.loop-left.rest.now _ c.in_ok-behind.behind.now c.in_ok-after.after.now (value_of c.in_ok-after.field-0-0) c.in_ok-behind.ensures.ok c.in_ok-after.ensures.ok in
    sym (many_step (take_pair take_value) c.loop-left.left c.loop-left.rest.now _ c.in_ok-after.after.now c.loop-left-test.true one) ∙ c.loop-left.invariant
