-- How a group of checkpoints is read.
use Rattle.std.specs.Prelude.{[], ◌&&◌, ◌+◌, ◌<◌, ◌^◌, ◌∷◌, ◌≡◌, List, None, Option, Some, if◌then◌else◌, length, nat_eq, nat_lt, option_map, suc, zero, ℕ, ◌⊎◌}
use Rattle.definitions.specs.Json.{only_if, ◌>>=◌}
use Rattle.definitions.specs.NumberCodes.{take_vint}
use Rattle.definitions.specs.declared.fault.Fault.{Fault}
use Rattle.definitions.specs.declared.fault.Fault.TheVariants as faults
use Rattle.layouts.specs.Stores.{Adjoin, byte_end, doc_end}
use Rattle.layouts.specs.declared.checkpoint.Checkpoint.{Checkpoint}

-- memory was wanting, or the bytes are damaged, and that only where something holds
abbrev pub IsDamage : Fault → Type 0 → Type 0
IsDamage fault P = (fault ≡ faults.OutOfMemory) ⊎ ((fault ≡ faults.Damaged None) × P)

-- they adjoin from some document and byte
abbrev pub IsRun : List Checkpoint → Type 0
IsRun cs = (doc : ℕ) × (byte : ℕ) × Adjoin doc byte cs

-- checkpoints that adjoin, with their numbers in 32 and 64 bits
pub record IsGroup (cs : List Checkpoint) : Type 0 where
  pub run : IsRun cs
  pub count : length cs < 2 ^ 64
  pub docs : doc_end 0 cs < 2 ^ 32
  pub bytes : byte_end 0 cs < 2 ^ 64

-- a checkpoint from a document and a byte on
abbrev pub reach : ℕ → ℕ → ℕ → ℕ → Checkpoint
reach doc docs byte bytes = record { doc_range = record { start = doc; end = doc + docs }; byte_range = record { start = byte; end = byte + bytes } }

-- one extent
abbrev pub take_extent : ℕ → ℕ → List ℕ → Option (Checkpoint × List ℕ)
take_extent doc byte bs = do
  docs ← take_vint bs
  bytes ← take_vint docs.1
  only_if (nat_lt (doc + docs.0) (2 ^ 32) && nat_lt (byte + bytes.0) (2 ^ 64)) (Some (reach doc docs.0 byte bytes.0, bytes.1))

-- a number of extents
abbrev pub take_extents : ℕ → ℕ → ℕ → List ℕ → Option (List Checkpoint × List ℕ)
take_extents zero doc byte bs = Some ([], bs)
take_extents (suc n) doc byte bs = do
  c ← take_extent doc byte bs
  option_map (λ p. (c.0 ∷ p.0, p.1)) (take_extents n c.0.doc_range.end c.0.byte_range.end c.1)

-- a group
abbrev pub take_group : List ℕ → Option (List Checkpoint × List ℕ)
take_group bs = do
  count ← take_vint bs
  if nat_eq count.0 0 then Some ([], count.1) else (do
    doc ← take_vint count.1
    byte ← take_vint doc.1
    only_if (nat_lt doc.0 (2 ^ 32)) (take_extents count.0 doc.0 byte.0 byte.1))
