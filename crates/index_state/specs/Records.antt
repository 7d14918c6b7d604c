-- What the record of a commit or a merge says: which segments stay, and of which documents the new ones are.
use Rattle.std.specs.Prelude.{◌++◌, ◌≡◌, ◌≤◌, List, length, map, replicate, true, ℕ}
use Rattle.std.specs.List.{AllZip}
use Rattle.definitions.specs.Analyzers.{Analyzer}
use Rattle.definitions.specs.Calls as calls
use Rattle.definitions.specs.Schema.{Schema}
use Rattle.definitions.specs.State.{Pending, State, as_group, pieces}
use Rattle.definitions.specs.Values.{Document}
use Rattle.index_state.specs.Bodies.{kept_from, merged_parts}
use Rattle.index_state.specs.Merges.{joined_groups, replaced}
use Rattle.segment_definitions.specs.ListBodies.{Makes, Member, fresh, segments_body}
use Rattle.segment_definitions.specs.IndexFiles.{IsGroup}
use Rattle.segment_definitions.specs.Segments.{IsSegment, IsSegmentOf}
use Rattle.segment_definitions.specs.Waiting.{docs_of}

-- a member is a segment of these documents, and all of them are alive
abbrev pub IsAlive : Schema → Analyzer → List Document → Member → Type 0
IsAlive schema analyze docs m = IsSegmentOf schema analyze docs m.0 × (m.1 ≡ replicate (length docs) true)

-- The body of a commit: the segments before stay, each by its index, and behind them stands a new one of each piece of
-- the documents that wait. Which documents are alive then, the groups after the commit say.
pub record IsCommitBody (schema : Schema) (analyze : Analyzer) (docs_per_segment : ℕ) (pending : List Pending)
    (before after : List Member) (body : List ℕ) : Type 0 where
  pub news : List (List ℕ)
  pub new : AllZip (IsSegmentOf schema analyze) (pieces docs_per_segment (docs_of pending)) news
  pub segments : map (λ m. m.0) after ≡ map (λ m. m.0) before ++ news
  pub body_is : body ≡ segments_body (kept_from 0 (length before) ++ map fresh news) (map (λ m. m.1) after)

-- The body of a merge: the segments outside the range stay as they are, each by its index, and in place of the range
-- stands a new one of the documents of its groups, all alive, or none where there are no such documents.
pub record IsMergeBody (schema : Schema) (analyze : Analyzer) (from to : ℕ) (groups : List (List Document))
    (before after : List Member) (body : List ℕ) : Type 0 where
  pub news : List Member
  pub new : AllZip (IsAlive schema analyze) (as_group (joined_groups from to groups)) news
  pub list : after ≡ replaced from to news before
  pub body_is : body ≡ segments_body (merged_parts (length before) from to (map (λ m. m.0) news)) (map (λ m. m.1) after)

-- the body that a commit or a merge of this state writes; other calls write none
abbrev pub IsBodyOfCall : calls.Configuration → State → calls.Call → List Member → List Member → List ℕ → Type 0
IsBodyOfCall c s calls.commit_pending before after body =
    IsCommitBody c.schema c.analyze c.docs_per_segment s.pending before after body
IsBodyOfCall c s (calls.merge_range from to) before after body =
    IsMergeBody c.schema c.analyze from to s.groups before after body
IsBodyOfCall c s _ before after body = ⊥

-- A body records a call: of the segments before it makes those after, which are of the groups after the call, and it is
-- the body that the call writes.
abbrev pub RecordsCall : calls.Configuration → State → calls.Call → List Member → List Member → List ℕ → Type 0
RecordsCall c s call before after body =
    Makes (IsSegment c.schema) before after body × AllZip (IsGroup c.schema c.analyze) after (calls.after c s call).groups
    × IsBodyOfCall c s call before after body

-- ---- of whatever documents the segments are

-- The body of a commit: the segments before stay, each by its index, and behind them stand new ones.
pub record KeepsAll (before after : List Member) (body : List ℕ) : Type 0 where
  pub news : List (List ℕ)
  pub segments : map (λ m. m.0) after ≡ map (λ m. m.0) before ++ news
  pub body_is : body ≡ segments_body (kept_from 0 (length before) ++ map fresh news) (map (λ m. m.1) after)

-- The body of a merge: the segments outside the range stay as they are, each by its index, and in place of the range
-- stands at most one new one.
pub record KeepsOutside (from to : ℕ) (before after : List Member) (body : List ℕ) : Type 0 where
  pub news : List Member
  pub at_most_one : length news ≤ 1
  pub list : after ≡ replaced from to news before
  pub body_is : body ≡ segments_body (merged_parts (length before) from to (map (λ m. m.0) news)) (map (λ m. m.1) after)

-- the body that a commit or a merge writes; other calls write none
abbrev pub IsBodyOver : calls.Call → List Member → List Member → List ℕ → Type 0
IsBodyOver calls.commit_pending before after body = KeepsAll before after body
IsBodyOver (calls.merge_range from to) before after body = KeepsOutside from to before after body
IsBodyOver _ before after body = ⊥

-- a body of the call makes the segments after it of those before
abbrev pub RecordsSegments : Schema → calls.Call → List Member → List Member → List ℕ → Type 0
RecordsSegments schema call before after body =
    ∥ Makes (IsSegment schema) before after body ∥₁ × IsBodyOver call before after body
