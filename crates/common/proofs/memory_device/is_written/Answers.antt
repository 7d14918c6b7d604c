use Rattle.std.proofs.Common.{◌<◌, ◌≡◌, ◌↔◌, IsTrue, get_or, length, rules, subst, sym, take}
use Rattle.definitions.specs.Disk.{IsInRange}
use Rattle.common.specs.Calls.{Disk, disk_after}
use Rattle.common.proofs.MadeCalls.{disk_after_more}
use Rattle.common.proofs.memory_device.is_written.Goals as goal

pub loop-call-preserved : goal.loop-call-preserved
loop-call-preserved c =
    let calls = c.args.calls.now in
    let k = c.loop-call.call-index in
    let call = c.call-item.result in
    let below : k < length calls = search rules in
    let is : get_or calls k call ≡ call = search rules in
    let now = c.is_written_after-written.ensures (disk_after (take k calls)) c.loop-call.invariant in
    subst (λ (disk : Disk). IsTrue c.is_written_after-written.result ↔ IsInRange disk.unsynced.ranges c.args.i) (sym (disk_after_more calls k call below is)) now
