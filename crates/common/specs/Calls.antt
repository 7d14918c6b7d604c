-- The calls that a device in memory keeps, and the disk that they make.
use Rattle.std.specs.Prelude.{[], ◌<◌, ◌≡◌, ◌≤◌, ◌⊎◌, List, fold, length, slice_index, take, ℕ}
use Rattle.definitions.specs.Disk.{IsImage, IsInRange, Unsynced, overwritten, settled, shortened, written}
use Rattle.common.specs.declared.memory_device.Call.{Call}
use Rattle.common.specs.declared.memory_device.Call.TheVariants.{Cut, Sync, Write}

-- what a read gives, and what isn't sure to be on the disk
pub record Disk : Type 0 where
  pub content : List ℕ
  pub unsynced : Unsynced

-- the disk after a call
abbrev pub after_call : Disk → Call → Disk
after_call disk (Write at bytes) = record { content = overwritten at bytes.items disk.content; unsynced = written at (length bytes.items) disk.unsynced }
after_call disk (Cut len) = record { content = take len disk.content; unsynced = shortened len disk.unsynced }
after_call disk Sync = record { content = disk.content; unsynced = settled (length disk.content) }

-- the disk that calls make of one without bytes
abbrev pub disk_after : List Call → Disk
disk_after calls = fold after_call (record { content = []; unsynced = settled 0 }) calls

-- what a read then gives
abbrev pub content_after : List Call → List ℕ
content_after calls = (disk_after calls).content

-- what then isn't sure to be on the disk
abbrev pub unsynced_after : List Call → Unsynced
unsynced_after calls = (disk_after calls).unsynced

-- the call speaks of a place in `len` bytes, or at their end
abbrev pub IsWithin : ℕ → Call → Type 0
IsWithin len (Write at bytes) = at ≤ len
IsWithin len (Cut to) = to ≤ len
IsWithin len Sync = Unit {0}

-- a crash after at least `t` of the calls may leave this
abbrev pub LeftSince : List Call → ℕ → List ℕ → Type 0
LeftSince calls t image = (k : ℕ) × (t ≤ k) × (k ≤ length calls) × IsImage (content_after (take k calls)) (unsynced_after (take k calls)) image

-- after a crash any byte may stand at this place
abbrev pub MayHoldAny : Unsynced → ℕ → Type 0
MayHoldAny unsynced i = (unsynced.least ≤ i) ⊎ IsInRange unsynced.ranges i

-- what a crash leaves where one byte stands wherever any may: `len` bytes, and the rest as before
pub record IsFilled (content : List ℕ) (unsynced : Unsynced) (fill len : ℕ) (image : List ℕ) : Type 0 where
  pub long : length image ≡ len
  pub filled : (i : ℕ) → i < len → MayHoldAny unsynced i → slice_index image i ≡ fill
  pub kept : (i : ℕ) → i < len → ¬ MayHoldAny unsynced i → slice_index image i ≡ slice_index content i
