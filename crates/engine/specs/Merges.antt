-- What a merge of an index may pass.
use Rattle.std.specs.Prelude.{◌⊎◌, ℕ}
use Rattle.common.specs.declared.analyzer.Analyzer as analyzers
use Rattle.common.specs.declared.device.Device as devices
use Rattle.definitions.specs.Analyzers.{Analyzer}
use Rattle.definitions.specs.Calls as calls
use Rattle.definitions.specs.State.{State}
use Rattle.index_state.specs.Merges as collections
use Rattle.engine.specs.Indexes.{PassesFile}
use Rattle.engine.specs.declared.index.Index.{Index}

module _ {D A : Type 0} {d : devices.Ghosts D} {a : analyzers.Ghosts A} where
  -- a limit that a merge of a range meets: in the documents that it joins, or in the bytes of the file
  abbrev pub MergePasses : (A → Analyzer) → calls.Configuration → State → ℕ → ℕ → Index D A d a → Type 0
  MergePasses analyze c s from to index =
      collections.MergePasses analyze index.index_state from to s.groups ⊎ PassesFile c s (calls.merge_range from to) index
