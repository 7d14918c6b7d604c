-- Files whose every record gives its list.
use Rattle.std.specs.Prelude.{List, ℕ}
use Rattle.common.specs.declared.analyzer.Analyzer as analyzers
use Rattle.common.specs.declared.device.Device as devices
use Rattle.definitions.specs.Analyzers.{Analyzer}
use Rattle.definitions.specs.Schema.{Schema}
use Rattle.definitions.specs.Settings.{Settings}
use Rattle.definitions.specs.Values.{Document}
use Rattle.engine.specs.Indexes.{analyzer_of, device_of, schema_of, settings_of}
use Rattle.engine.specs.declared.index.Index.{Index}
use Rattle.index_file.specs.Kept.{LeavesNow}
use Rattle.segment_definitions.specs.IndexFiles.{IsRecordFile}

-- a file whose every record gives its list
abbrev pub HasLists : Schema → Settings → Analyzer → List ℕ → Type 0
HasLists schema settings analyze bytes =
    (lists : List (List (List Document))) × IsRecordFile schema settings analyze bytes lists

-- every record of each image that a crash may leave now gives its list
abbrev pub ImagesHaveLists : {D A : Type 0} {d : devices.Ghosts D} {a : analyzers.Ghosts A} → (A → Analyzer) → Index D A d a → Type 0
ImagesHaveLists {D} {A} {d} {a} analyze index =
    LeavesNow d.content d.unsynced (device_of index)
    (HasLists (schema_of index) (settings_of index) (analyze (analyzer_of index)))
