-- Files that are sound.
use Rattle.std.specs.Prelude.{List, ℕ}
use Rattle.std.specs.List.{AllByRecursion}
use Rattle.index_file.specs.declared.index_file.IndexFile.{IndexFile}
use Rattle.inspect.specs.Contents.{OpensTo}
use Rattle.inspect.specs.Documents.{IsWhole}

-- the file opens, and every document of the segments of its last list can be read
abbrev pub IsSound : List ℕ → Type 0
IsSound bytes = (file : IndexFile) × OpensTo bytes file × AllByRecursion (IsWhole file.schema) file.members.items
