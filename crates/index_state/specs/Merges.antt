-- What a merge is about to install.
use Rattle.std.specs.Prelude.{[], ◌++◌, ◌-◌, ◌<◌, ◌≡◌, ◌≤◌, ◌||◌, Bool, IfSome, List, MatchOption, None, Option, Some, drop, flat_map, if◌then◌else◌, length, map, nat_le, nat_lt, option_to_list, replicate, take, true, ℕ}
use Rattle.common.specs.declared.analyzer.Analyzer as analyzers
use Rattle.definitions.specs.Analyzers.{Analyzer}
use Rattle.definitions.specs.Values.{Document}
use Rattle.definitions.specs.declared.fault.Fault.{Fault}
use Rattle.definitions.specs.declared.fault.Fault.TheVariants as faults
use Rattle.segment.specs.Opened.{IsOpened, StandsFor, bytes_of, num_docs_of}
use Rattle.segment.specs.declared.segment.Segment as code
use Rattle.segment_definitions.specs.ListBodies.{Member}
use Rattle.segment.specs.Limits.{DocumentsPass}
use Rattle.index_state.specs.Standing.{members_of}
use Rattle.index_state.specs.declared.new_segments.NewSegment.{NewSegment}
use Rattle.index_state.specs.declared.prepared_merge.PreparedMerge.{PreparedMerge}
use Rattle.index_state.specs.declared.index_state.IndexState.{IndexState}

-- a list with others in place of the elements from one index to another
abbrev pub replaced : {X : Type 0} → ℕ → ℕ → List X → List X → List X
replaced from to news xs = take from xs ++ (news ++ drop to xs)

-- a flag for each document of a segment: all are alive
abbrev pub all_alive : code.Segment → List Bool
all_alive s = replicate (num_docs_of s) true

-- a segment of which all documents are alive
abbrev pub alive_member : code.Segment → Member
alive_member s = (bytes_of s, all_alive s)

-- why a range isn't merged where there are `count` segments: it names none, or more than there are
abbrev pub range_fault : ℕ → ℕ → ℕ → Option Fault
range_fault from to count = if nat_le to from || nat_lt count to then Some faults.BadRange else None

-- ---- what is prepared

-- its frame
abbrev pub merge_frame_in : PreparedMerge → List ℕ
merge_frame_in prepared = prepared.frame

-- the alive sets after it
abbrev pub sets_merged : PreparedMerge → List (List Bool)
sets_merged prepared = prepared.alive.items

-- its new segment, or none
abbrev pub new_in : PreparedMerge → List code.Segment
new_in prepared = option_to_list prepared.segment

-- the committed segments after it, each with a flag for each of its documents
abbrev pub members_merged : {A : Type 0} {a : analyzers.Ghosts A} → IndexState A a → PreparedMerge → List Member
members_merged index prepared = replaced prepared.from prepared.to (map alive_member (new_in prepared)) (members_of index)

-- some committed segments give way to the new one, and their alive sets to one in which all documents are alive
pub record Replaces {A : Type 0} {a : analyzers.Ghosts A} (index : IndexState A a) (prepared : PreparedMerge) : Type 0 where
  pub has_segments : prepared.from < prepared.to
  pub within : prepared.to ≤ length index.alive.items
  pub opened : IfSome prepared.segment (IsOpened index.schema)
  pub sets : prepared.alive.items ≡ replaced prepared.from prepared.to (map all_alive (new_in prepared)) index.alive.items

-- the flags of new segments, of which all documents are alive
abbrev pub new_flags : Option NewSegment → List (List Bool)
new_flags new = map (λ (n : NewSegment). replicate n.num_docs true) (option_to_list new)

-- ---- what it is of

-- the documents of the groups from one index to another
abbrev pub joined_groups : ℕ → ℕ → List (List Document) → List Document
joined_groups from to groups = flat_map (λ group. group) (take (to - from) (drop from groups))

-- the new segment is of the documents of the groups in a range, and there is none where there are no documents
pub record Joins {A : Type 0} {a : analyzers.Ghosts A} (analyze : A → Analyzer) (index : IndexState A a) (from to : ℕ) (groups : List (List Document))
    (prepared : PreparedMerge) : Type 0 where
  pub from_is : prepared.from ≡ from
  pub to_is : prepared.to ≡ to
  pub of : MatchOption prepared.segment (joined_groups from to groups ≡ []) (StandsFor index.schema (analyze index.analyzer) (joined_groups from to groups))

-- a segment of the documents of these groups passes a limit
abbrev pub MergePasses : {A : Type 0} {a : analyzers.Ghosts A} → (A → Analyzer) → IndexState A a → ℕ → ℕ → List (List Document) → Type 0
MergePasses analyze index from to groups = DocumentsPass index.schema (analyze index.analyzer) index.settings.block_size (joined_groups from to groups)
