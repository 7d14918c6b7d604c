use Rattle.std.proofs.Common.{arith, false, rules, true, ◌+◌, ◌≡◌}
use Rattle.codes.proofs.SkipLaws.{entry_small}
use Rattle.codes.proofs.SkipReading.{one_checked, one_refused}
use Rattle.codes.specs.SkipBlocks.{entry_of}
use Rattle.layouts.specs.SkipEntries.{is_entry}
use Rattle.codes.proofs.skip_reader.are_skips.Goals as goal

pub returns-then-not-is_entry : goal.returns-then-not-is_entry
returns-then-not-is_entry c =
    let refused : is_entry c.args.recorded.counts c.args.recorded.positions c.loop.least (entry_of c.in-Ok.entry) ≡ false = search rules in
    one_refused c.args.recorded.counts c.args.recorded.positions c.args.blocks c.loop.counter c.loop.least c.args.bytes.now c.loop.rest.now c.in-Ok.after.now (entry_of c.in-Ok.entry) c.loop.invariant.0 (omega arith) c.in-Ok.ensures.ok refused

pub loop-preserved : goal.loop-preserved
loop-preserved c =
    let sound : is_entry c.args.recorded.counts c.args.recorded.positions c.loop.least (entry_of c.in-Ok.entry) ≡ true = search rules in
    let next : c.from-least.result + 1 ≡ c.in-Ok.entry.last_doc + 1 = (let h = c.from-least.ensures in omega arith) in
    let small = entry_small c.args.recorded.counts c.args.recorded.positions c.loop.least (entry_of c.in-Ok.entry) sound in
    (one_checked c.args.recorded.counts c.args.recorded.positions c.args.blocks c.loop.counter c.loop.least (c.from-least.result + 1) c.args.bytes.now c.loop.rest.now c.in-Ok.after.now (entry_of c.in-Ok.entry) c.loop.invariant.0 (omega arith) c.in-Ok.ensures.ok sound next, omega (arith, small, next))
