-- Where the copy of a file ends.
use Rattle.std.specs.Prelude.{◌≡◌, ◌⊎◌, List, Some, map, ℕ}
use Rattle.definitions.specs.declared.fault.Fault.TheVariants as faults
use Rattle.index_file.specs.Lists.{LeavesList, member_of}
use Rattle.index_file.specs.Outcomes.{IsRefusal}
use Rattle.index_file.specs.declared.index_file.IndexFile.{IndexFile}
use Rattle.segment_definitions.specs.IndexFiles.{TakesSegments}

-- the closed gate of a file that opens, or the gate from which on the bytes are damaged
abbrev pub IsLastGate : List ℕ → ℕ → Type 0
IsLastGate bytes gate =
    ((file : IndexFile) × (file.gate ≡ gate) × LeavesList file.schema file.settings bytes gate (map member_of file.members.items))
    ⊎ IsRefusal TakesSegments bytes (faults.Damaged (Some gate))
