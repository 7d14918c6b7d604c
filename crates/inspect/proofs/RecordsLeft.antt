-- The records of a file, by what it opens to.
use Rattle.std.proofs.Common.{◌++◌, ◌∙◌, ◌∷◌, ◌≡◌, ◌⊎◌, List, Some, inl, inr, length, map, subst, sym, ℕ}
use Rattle.definitions.specs.declared.fault.Fault.{Fault}
use Rattle.definitions.specs.declared.fault.Fault.TheVariants as faults
use Rattle.index_file.specs.Outcomes.{IsRefusal}
use Rattle.index_file.specs.declared.index_file.IndexFile.{IndexFile}
use Rattle.inspect.specs.Contents.{AreRecords, OpensTo}
use Rattle.inspect.specs.Records.{gate_and_body, gates}
use Rattle.inspect.specs.declared.contents.Opened.TheVariants.{DamagedAt, Whole}
use Rattle.inspect.specs.declared.records.Record.{Record}
use Rattle.layouts.proofs.FilesOfRecords.{flat}
use Rattle.layouts.specs.RecordFiles.{AreShort, IsDamaged, records}
use Rattle.segment_definitions.specs.IndexFiles.{TakesSegments}

-- the records up to an offset are listed, whatever bytes follow them
abbrev pub ListsUpTo : List ℕ → ℕ → List Record → Type 0
ListsUpTo bytes end rs = (bodies : List (List ℕ)) (gate : ℕ) (rest : List ℕ) → bytes ≡ records bodies ++ gate ∷ rest → AreShort bodies → end ≡ length (records bodies) → map gate_and_body rs ≡ gates 0 bodies

pub whole_records : (bytes : List ℕ) (file : IndexFile) (rs : List Record) → OpensTo bytes file → ListsUpTo bytes file.gate rs → AreRecords bytes rs (Whole file)
whole_records bytes file rs leaves lists =
    let f = flat leaves.ends.file in
    (leaves, lists (leaves.first ∷ leaves.bodies) f.gate f.rest f.whole f.short leaves.ends.place)

pub damaged_records : (bytes : List ℕ) (gate : ℕ) (rs : List Record) → IsDamaged TakesSegments bytes gate → ListsUpTo bytes gate rs → AreRecords bytes rs (DamagedAt gate)
damaged_records bytes gate rs damaged lists = (damaged, lists damaged.bodies 165 damaged.rest damaged.bytes_are damaged.short damaged.stands)

-- where a file is refused as damaged at an offset, it is damaged there
pub damaged_at : (bytes : List ℕ) (fault : Fault) (gate : ℕ) → fault ≡ faults.Damaged (Some gate) → (fault ≡ faults.OutOfMemory) ⊎ IsRefusal TakesSegments bytes fault → IsDamaged TakesSegments bytes gate
damaged_at bytes fault gate is (inl memory) = (let never : faults.Damaged (Some gate) ≡ faults.OutOfMemory = sym is ∙ memory in cc)
damaged_at bytes fault gate is (inr (inl (none, no_index))) = (let never : faults.Damaged (Some gate) ≡ faults.NoIndex = sym is ∙ none in cc)
damaged_at bytes fault gate is (inr (inr (offset, same, damaged))) =
    let equal : faults.Damaged (Some offset) ≡ faults.Damaged (Some gate) = sym same ∙ is in
    let same_offset : offset ≡ gate = cc in
    subst (IsDamaged TakesSegments bytes) same_offset damaged
