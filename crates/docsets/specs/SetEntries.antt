-- Entries of a set of documents.
use Rattle.std.specs.Prelude.{Bool, List, ℕ}
use Rattle.common.specs.BitSets.{numbers_from}
use Rattle.docsets.specs.Entries.{Entry}
use Rattle.definitions.specs.ScoredLists.{each_scoring}
use Rattle.docsets.specs.ScoredEntries.{scored}

-- an entry without a score for each number whose flag is set; the first flag is that of n
abbrev pub flag_entries : ℕ → List Bool → List Entry
flag_entries n flags = scored (each_scoring 0 (numbers_from n flags))

-- the entries of a set, whose first flag is that of 0
abbrev pub set_entries : List Bool → List Entry
set_entries flags = flag_entries 0 flags
