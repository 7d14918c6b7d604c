-- What a device in memory is, by the calls that it keeps.
use Rattle.std.specs.Prelude.{List, length, ℕ}
use Rattle.definitions.specs.Disk.{Unsynced}
use Rattle.common.specs.Calls.{LeftSince, unsynced_after}
use Rattle.common.specs.declared.memory_device.MemoryDevice.{MemoryDevice}

-- what a read gives
abbrev pub content_of : MemoryDevice → List ℕ
content_of device = device.bytes.items

-- what isn't sure to be on the disk
abbrev pub unsynced_of : MemoryDevice → Unsynced
unsynced_of device = unsynced_after device.calls.items

-- how often it failed
abbrev pub failures_of : MemoryDevice → ℕ
failures_of device = device.failed

-- the time: how many calls it has kept
abbrev pub moment_of : MemoryDevice → ℕ
moment_of device = length device.calls.items

-- what a crash since a moment might have left
abbrev pub left_since_of : MemoryDevice → ℕ → List ℕ → Type 0
left_since_of device = LeftSince device.calls.items
