use Rattle.std.proofs.Common.{◌∙◌, ◌≤◌, ap, arith, length, sym}
use Rattle.common.specs.Calls.{Disk, content_after, disk_after, unsynced_after}
use Rattle.definitions.proofs.KeptCalls.{elapses_by_a_call}
use Rattle.common.proofs.MadeCalls.{disk_after_push, remains_after_call}
use Rattle.common.proofs.memory_device.MemoryDevice.make.Goals as goal

pub invariant_of-self-clause-greatest_is : goal.invariant_of-self-clause-greatest_is
invariant_of-self-clause-greatest_is c =
    let old = c.args.self.now in
    let made = disk_after_push old.calls.items c.record_call.new.calls.items c.args.call c.in-Ok.ensures.calls in
    let longer : length old.bytes.items ≤ old.greatest = omega (arith, old.greatest_is, old.remains.no_longer) in
    c.in-Ok.ensures.greatest old.same old.greatest_is longer ∙ sym (ap (λ (d : Disk). d.unsynced.greatest) made)

pub invariant_of-self-clause-same : goal.invariant_of-self-clause-same
invariant_of-self-clause-same c =
    let old = c.args.self.now in
    let made = disk_after_push old.calls.items c.record_call.new.calls.items c.args.call c.in-Ok.ensures.calls in
    ap (λ (d : Disk). d.content) made ∙ sym (c.in-Ok.ensures.bytes old.same)

pub invariant_of-self-clause-remains : goal.invariant_of-self-clause-remains
invariant_of-self-clause-remains c =
    let old = c.args.self.now in
    let was = disk_after old.calls.items in
    let made = disk_after_push old.calls.items c.record_call.new.calls.items c.args.call c.in-Ok.ensures.calls in
    remains_after_call was c.args.call old.bytes.items c.record_call.new.bytes.items (disk_after c.record_call.new.calls.items) old.same c.requires old.remains made (c.in-Ok.ensures.bytes old.same) c.in-Ok.ensures.fits

pub returns-in-Ok-clause-time : goal.returns-in-Ok-clause-time
returns-in-Ok-clause-time c =
    let old = c.args.self.now in
    let made = disk_after_push old.calls.items c.record_call.new.calls.items c.args.call c.in-Ok.ensures.calls in
    elapses_by_a_call content_after unsynced_after
    old.calls.items c.record_call.new.calls.items c.args.call c.record_call.new.bytes.items c.in-Ok.ensures.calls
    (ap (λ (d : Disk). d.content) made ∙ sym (c.in-Ok.ensures.bytes old.same))
