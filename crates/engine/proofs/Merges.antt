-- What a merge writes: a body that makes the groups after it.
use Rattle.std.proofs.Common.{List, ap, sym, ◌≡◌, ◌∙◌, Err, Ok, Result, ℕ}
use Rattle.std.specs.Prelude.{IsErrAnd, IsErrOf}
use Rattle.common.specs.declared.analyzer.Analyzer as analyzers
use Rattle.definitions.specs.Analyzers.{Analyzer}
use Rattle.definitions.specs.Calls as calls
use Rattle.definitions.specs.declared.fault.Fault.{Fault}
use Rattle.definitions.specs.declared.fault.Fault.TheVariants as faults
use Rattle.index_file.specs.Frames.{frame_bytes}
use Rattle.index_state.proofs.MergedGroups.{merged_in_groups}
use Rattle.index_state.specs.Merges.{Joins, members_merged, merge_frame_in}
use Rattle.index_state.specs.Records.{IsMergeBody}
use Rattle.index_state.specs.Standing.{Stands, members_of}
use Rattle.index_state.specs.declared.prepared_merge.PreparedMerge.{PreparedMerge}
use Rattle.index_state.specs.declared.index_state.IndexState.{IndexState}
use Rattle.segment_definitions.specs.ListBodies.{Makes}
use Rattle.segment_definitions.specs.Segments.{IsSegment}
use Rattle.engine.proofs.Commits.{Written, stands_groups, written_of}
use Rattle.index_file.proofs.ErrorsKept.{error_or_memory}

pub merge_written : {A : Type 0} {a : analyzers.Ghosts A} (analyze : A → Analyzer) (old : IndexState A a) (p : PreparedMerge) (c : calls.Configuration) (x : calls.Index) (from to : ℕ) → Stands analyze old c x → Joins analyze old from to x.state.groups p
    → (body : List ℕ) × (merge_frame_in p ≡ frame_bytes body) × Makes (IsSegment c.schema) (members_of old) (members_merged old p) body × IsMergeBody c.schema c.analyze from to x.state.groups (members_of old) (members_merged old p) body
    → Written analyze old c x.state (calls.merge_range from to) (members_merged old p) (merge_frame_in p)
merge_written analyze old p c x from to s joins (body, framed, makes, says) =
    written_of analyze old c x (calls.merge_range from to) (members_merged old p) (merge_frame_in p) body s framed makes (merged_in_groups analyze old from to x.state.groups p joins (stands_groups analyze old c x s)) says

-- ---- refusals

-- what follows of a limit
pub limit_told : {T : Type 0} (r : Result T Fault) (fault : Fault) (P : Type 0) → IsErrAnd r (λ e. e ≡ fault) → (fault ≡ faults.Limit → P) → IsErrOf r faults.Limit → P
limit_told (Ok x) fault P is follows h = absurd is
limit_told (Err e) fault P is follows h = follows (sym is ∙ ap error_or_memory h)
