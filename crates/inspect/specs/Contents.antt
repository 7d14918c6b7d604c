-- What a file has: the records that its definition leaves, and what they open to.
use Rattle.std.specs.Prelude.{◌∷◌, ◌≡◌, List, map, ℕ}
use Rattle.index_file.specs.Lists.{LeavesList, member_of}
use Rattle.index_file.specs.declared.index_file.IndexFile.{IndexFile}
use Rattle.inspect.specs.Records.{gate_and_body, gates}
use Rattle.inspect.specs.declared.contents.Contents.{Contents}
use Rattle.inspect.specs.declared.contents.Opened.{Opened}
use Rattle.inspect.specs.declared.contents.Opened.TheVariants.{DamagedAt, Whole}
use Rattle.inspect.specs.declared.records.Record.{Record}
use Rattle.layouts.specs.RecordFiles.{IsDamaged}
use Rattle.segment_definitions.specs.IndexFiles.{TakesSegments}

-- the bytes are a file that opens to this one
abbrev pub OpensTo : List ℕ → IndexFile → Type 0
OpensTo bytes file = LeavesList file.schema file.settings bytes file.gate (map member_of file.members.items)

-- the records of a file that opens, or those before the gate from which on it is damaged
abbrev pub AreRecords : List ℕ → List Record → Opened → Type 0
AreRecords bytes rs (Whole file) = (leaves : OpensTo bytes file) × (map gate_and_body rs ≡ gates 0 (leaves.first ∷ leaves.bodies))
AreRecords bytes rs (DamagedAt gate) = (damaged : IsDamaged TakesSegments bytes gate) × (map gate_and_body rs ≡ gates 0 damaged.bodies)

abbrev pub AreContents : List ℕ → Contents → Type 0
AreContents bytes c = AreRecords bytes c.records.items c.opened
