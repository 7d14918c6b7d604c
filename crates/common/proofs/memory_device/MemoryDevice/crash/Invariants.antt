use Rattle.std.proofs.Common.{◌<◌, get_or, ℕ}
use Rattle.common.specs.Calls.{IsFilled}
use Rattle.common.specs.MemoryDevices.{content_of, unsynced_of}
use Rattle.common.proofs.memory_device.MemoryDevice.crash.Given as goal

-- so far the image is that of a crash that leaves so much
abbrev pub invariant-loop-i : goal.invariant-loop-i
invariant-loop-i l = record {
  filled : IsFilled (content_of l.self) (unsynced_of l.self) l.fill l.i l.image.items;
  bytes : (i : ℕ) → get_or l.image.items i 0 < 256;
}
