use Rattle.std.proofs.Common.{◌+◌, ◌<◌, ◌∙◌, ap, arith, drop, length, subst, sym}
use Rattle.postings_writer.specs.OccurrenceBytes.{AreOccurrences, occurrence_bytes}
use Rattle.postings_writer.proofs.OccurrenceBytes.{copied_more, doc_there, gap_fits, gap_is, gap_rest, position_fits, position_is, position_rest}
use Rattle.postings_writer.proofs.position_recorder.TfAndPositionRecorder.copy_places.Goals as goal

pub take_number-gap-requires : goal.take_number-gap-requires
take_number-gap-requires c =
    let within : c.loop.counter < length c.args.self.now = omega arith in
    gap_fits c.loop.doc c.args.self.now c.loop.counter c.loop.rest.now within c.loop.invariant.left

pub take_number-position-requires : goal.take_number-position-requires
take_number-position-requires c =
    let ps = c.args.self.now in
    let within : c.loop.counter < length c.args.self.now = omega arith in
    let few = subst AreOccurrences c.self.view_is c.self.invariant.0.are_occurrences in
    position_fits ps c.loop.counter c.take_number-gap.result.1.now _ within few (gap_rest c.loop.doc ps c.loop.counter c.loop.rest.now c.take_number-gap.result.0 c.take_number-gap.result.1.now within c.loop.invariant.left c.take_number-gap.ensures)

pub loop-preserved : goal.loop-preserved
loop-preserved c =
    let ps = c.args.self.now in
    let i = c.loop.counter in
    let within : c.loop.counter < length c.args.self.now = omega arith in
    let few = subst AreOccurrences c.self.view_is c.self.invariant.0.are_occurrences in
    let gap = c.take_number-gap.result.0 in
    let after = c.take_number-gap.result.1.now in
    let position = c.take_number-position.result.0 in
    let rest = gap_rest c.loop.doc ps i c.loop.rest.now gap after within c.loop.invariant.left c.take_number-gap.ensures in
    let doc = doc_there c.loop.doc ps i gap within few (omega arith) (gap_is c.loop.doc ps i c.loop.rest.now gap after within c.loop.invariant.left c.take_number-gap.ensures) in
    let position_same = position_is ps i after _ position c.take_number-position.result.1.now within few rest c.take_number-position.ensures in
    let left = position_rest ps i after _ position c.take_number-position.result.1.now within few rest c.take_number-position.ensures in
    record {
      copied = c.in_ok-push.ensures.items ∙ copied_more ps c.loop.output.items i _ position within c.loop.invariant.copied doc position_same;
      left = left ∙ ap (λ d. occurrence_bytes d (drop (i + 1) ps)) (sym doc);
      end = c.loop.invariant.end;
    }
