-- What a commit is about to install.
use Rattle.std.specs.Prelude.{[], ◌<◌, ◌≡◌, Bool, List, length, ℕ}
use Rattle.std.specs.List.{AllZip}
use Rattle.definitions.specs.Alive.{live_groups}
use Rattle.common.specs.declared.analyzer.Analyzer as analyzers
use Rattle.definitions.specs.Analyzers.{Analyzer}
use Rattle.definitions.specs.Calls as calls
use Rattle.definitions.specs.Step.{configuration_of}
use Rattle.definitions.specs.Values.{Document}
use Rattle.segment.specs.Opened.{StandsFor}
use Rattle.segment_definitions.specs.ListBodies.{Member}
use Rattle.index_state.specs.Flags.{AreFlagged, flagged_each, members}
use Rattle.index_state.specs.declared.prepared.Prepared.{Prepared}
use Rattle.index_state.specs.declared.index_state.IndexState.{IndexState}

-- its alive sets
abbrev pub sets_in : Prepared → List (List Bool)
sets_in prepared = prepared.alive.items

-- its frame
abbrev pub frame_in : Prepared → List ℕ
frame_in prepared = prepared.frame

-- the members with these alive sets
abbrev pub members_with : {A : Type 0} {a : analyzers.Ghosts A} → IndexState A a → Prepared → List Member
members_with index prepared = members index.segments.items prepared.alive.items

-- these are alive sets of its segments
abbrev pub AreSets : {A : Type 0} {a : analyzers.Ghosts A} → IndexState A a → List (List Bool) → Type 0
AreSets index sets = AreFlagged index.segments.items sets

-- with these alive sets all segments are those of the state after a commit
pub record IsPrepared {A : Type 0} {a : analyzers.Ghosts A} (analyze : A → Analyzer) (index : IndexState A a)
    (sets : List (List Bool)) (c : calls.Configuration) (x : calls.Index) : Type 0 where
  pub made : c ≡ configuration_of index.schema (analyze index.analyzer) index.settings
  pub sized : 0 < index.settings.docs_per_segment
  pub docs : List (List Document)
  pub segments : AllZip (StandsFor index.schema (analyze index.analyzer)) docs index.segments.items
  pub set_for_each : length sets ≡ length docs
  pub groups : (calls.after c x.state calls.commit_pending).groups ≡ live_groups (flagged_each docs sets)
