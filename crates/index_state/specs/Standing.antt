-- What segments and what waits stand for.
use Rattle.std.specs.Prelude.{[], ◌++◌, ◌+◌, ◌<◌, ◌^◌, ◌∷◌, ◌≡◌, ◌≤◌, ◌⊎◌, Bool, List, length, map, sum_by, take, ℕ, ℤ}
use Rattle.std.specs.List.{AllByRecursion, AllZip}
use Rattle.std.specs.declared.alloc.Global.{Global}
use Rattle.common.specs.BitSets.{count_set}
use Rattle.common.specs.declared.analyzer.Analyzer as analyzers
use Rattle.definitions.specs.Alive.{live_groups}
use Rattle.definitions.specs.Analyzers.{Analyzer}
use Rattle.definitions.specs.Calls as calls
use Rattle.definitions.specs.Schema.{Schema}
use Rattle.definitions.specs.Settings.{Settings}
use Rattle.definitions.specs.State.{Pending, State}
use Rattle.definitions.specs.Step.{configuration_of}
use Rattle.definitions.specs.Stored.{Named}
use Rattle.definitions.specs.Values.{Document}
use Rattle.segment.specs.Opened.{StandsFor}
use Rattle.segment.specs.declared.segment.Segment as code
use Rattle.segment_definitions.specs.ListBodies.{Member}
use Rattle.segment_definitions.specs.Slots.{slot}
use Rattle.segment_definitions.specs.Waiting.{Waits}
use Rattle.segment_search.specs.Answered.{AreHits}
use Rattle.index_state.specs.Deletions.{IsSmall, numbered, term_of}
use Rattle.index_state.specs.Flags.{flagged_each, members}
use Rattle.index_state.specs.Limits.{OneMorePasses}
use Rattle.index_state.specs.Pending.{Holds, HoldsLast, num_segments_in, open_docs}
use Rattle.index_state.specs.declared.deletions.Deletion.{Deletion}
use Rattle.index_state.specs.declared.index_state.IndexState.{IndexState}
use Rattle.index_state.specs.declared.pending_segments.PendingSegments.{PendingSegments}
pub use Rattle.index_state.specs.Statuses.{status_of}

-- what waits: documents in full segments and in one that isn't, and deletions
pub record IsWaiting (n : ℕ) (pending : List Pending) (full : List (List Document)) (last : List Document) (dels : List Deletion) : Type 0 where
  pub waits : Waits n pending full last (map (numbered n) dels)
  pub small : AllByRecursion (IsSmall n) dels

-- While changes are taken these calls are pending: their documents are held in segments, and every other segment is
-- committed.
pub record IsPending {A : Type 0} {a : analyzers.Ghosts A} (analyze : A → Analyzer) (index : IndexState A a)
    (pending : List Pending) : Type 0 where
  pub full : List (List Document)
  pub last : List Document
  pub waits : IsWaiting index.settings.docs_per_segment pending full last index.deletions.items
  pub holds : Holds index.schema (analyze index.analyzer) index.settings.block_size index.pending full last
  pub committed : length index.segments.items ≡ length index.alive.items

-- The index has this configuration and this status, and its segments are of documents, of which the living are
-- committed. What is pending matters while changes are taken alone.
pub record Stands {A : Type 0} {a : analyzers.Ghosts A} (analyze : A → Analyzer) (index : IndexState A a)
    (c : calls.Configuration) (x : calls.Index) : Type 0 where
  pub made : c ≡ configuration_of index.schema (analyze index.analyzer) index.settings
  pub status : x.status ≡ status_of index.status
  pub sized : 0 < index.settings.docs_per_segment
  pub docs : List (List Document)
  pub segments : AllZip (StandsFor index.schema (analyze index.analyzer)) docs index.segments.items
  pub groups : x.state.groups ≡ live_groups (flagged_each docs index.alive.items)
  pub pending : x.status ≡ calls.ready → IsPending analyze index x.state.pending

-- made of the same schema, analyzer and settings
pub record IsMadeAlike {A : Type 0} {a : analyzers.Ghosts A} (old new : IndexState A a) : Type 0 where
  pub analyzer : new.analyzer ≡ old.analyzer
  pub schema : new.schema ≡ old.schema
  pub settings : new.settings ≡ old.settings

-- how many documents of these segments are alive
abbrev pub living_in : List Member → ℕ
living_in segments = sum_by (λ (m : Member). count_set m.1) segments

-- a document's slot is too long beside a block of these settings
abbrev pub IsSlotTooLong : Schema → Settings → Document → Type 0
IsSlotTooLong schema settings doc = 2 ^ 32 ≤ settings.block_size + length (slot schema doc) + 8

module _ {A : Type 0} {a : analyzers.Ghosts A} where
  -- what cuts its texts
  abbrev pub analyzer_of : IndexState A a → A
  analyzer_of index = index.analyzer

  -- its fields
  abbrev pub schema_of : IndexState A a → Schema
  schema_of index = index.schema

  -- its numbers for scores and segments
  abbrev pub settings_of : IndexState A a → Settings
  settings_of index = index.settings

  -- what it takes memory from
  abbrev pub alloc_of : IndexState A a → Global
  alloc_of index = index.alloc

  -- what may still be done
  abbrev pub state_of : IndexState A a → calls.Status
  state_of index = status_of index.status

  -- the segments that are committed
  abbrev pub committed_of : IndexState A a → List code.Segment
  committed_of index = take (length index.alive.items) index.segments.items

  -- which of their documents are alive
  abbrev pub alive_of : IndexState A a → List (List Bool)
  alive_of index = index.alive.items

  -- the bytes of the segments that are committed, with a flag for each of their documents
  abbrev pub members_of : IndexState A a → List Member
  members_of index = members index.segments.items index.alive.items

  -- the slot of this document is too long beside a block
  abbrev pub HasLongSlot : IndexState A a → Document → Type 0
  HasLongSlot index doc = IsSlotTooLong index.schema index.settings doc

  -- a limit that an add of this document meets: its slot is too long, or it passes one behind the documents of the
  -- segment that isn't full
  abbrev pub AddPasses : calls.Configuration → State → IndexState A a → Document → Type 0
  AddPasses c s index doc =
      HasLongSlot index doc ⊎ OneMorePasses c.schema c.analyze c.docs_per_segment (open_docs c.docs_per_segment s.pending) doc

  -- ---- of any index, whatever documents its segments are of

  -- what hits show that a search of the segments may answer
  abbrev pub AreHitsOf : IndexState A a → ℕ → List (ℤ × Named) → Type 0
  AreHitsOf index limit hits = AreHits index.schema index.segments.items index.alive.items limit hits

  -- what waits: documents in segments, full or not, and deletions
  abbrev pub waiting_of : IndexState A a → PendingSegments × List Deletion
  waiting_of index = (index.pending, index.deletions.items)

  -- all calls are taken, and nothing waits
  pub record IsIdle (index : IndexState A a) : Type 0 where
    pub ready : state_of index ≡ calls.ready
    pub no_documents : num_segments_in index.pending ≡ 0
    pub no_deletions : index.deletions.items ≡ []

  -- made alike, the same segments are committed, the same waits, and the same may still be done
  pub record IsSame (old new : IndexState A a) : Type 0 where
    pub made : IsMadeAlike old new
    pub members : members_of new ≡ members_of old
    pub waiting : waiting_of new ≡ waiting_of old
    pub status : state_of new ≡ state_of old

  -- made alike, the same segments are committed, and no more may be done than in this status, in which what waits is
  -- lost
  pub record IsStopped (status : calls.Status) (old new : IndexState A a) : Type 0 where
    pub made : IsMadeAlike old new
    pub members : members_of new ≡ members_of old
    pub stopped : state_of new ≡ status

  -- the document waits behind the documents that waited, in the segment that isn't full, or it fills that
  abbrev pub WaitsMore : (A → Analyzer) → Document → IndexState A a → IndexState A a → Type 0
  WaitsMore analyze doc old new =
      (new.deletions.items ≡ old.deletions.items)
      × ((full : List (List Document)) (last : List Document)
      → Holds old.schema (analyze old.analyzer) old.settings.block_size old.pending full last
      → HoldsLast old.schema (analyze old.analyzer) old.settings.block_size old.settings.docs_per_segment new.pending
      full (last ++ doc ∷ []))

  -- a deletion by the term waits behind what waited
  abbrev pub DeletesMore : List ℕ → IndexState A a → IndexState A a → Type 0
  DeletesMore term old new =
      (d : Deletion) × (term_of d ≡ term) × (waiting_of new ≡ (old.pending, old.deletions.items ++ d ∷ []))

  -- What its calls are refused by, the definitions say of any state with its status and as many groups as segments are
  -- committed, whatever these groups are.
  pub record IsShadow (analyze : A → Analyzer) (index : IndexState A a) (c : calls.Configuration)
      (x : calls.Index) : Type 0 where
    pub made : c ≡ configuration_of index.schema (analyze index.analyzer) index.settings
    pub status : x.status ≡ state_of index
    pub counted : length x.state.groups ≡ length (members_of index)
