use Rattle.std.proofs.Common.{◌↔◌, IsTrue, take}
use Rattle.definitions.specs.Disk.{IsInRange}
use Rattle.common.specs.Calls.{unsynced_after}
use Rattle.common.proofs.memory_device.is_written.Given as goal

-- whether one of the calls so far wrote there
abbrev pub invariant-loop-call : goal.invariant-loop-call
invariant-loop-call l = IsTrue l.written ↔ IsInRange (unsynced_after (take l.call-index l.calls)).ranges l.i
