-- What stands behind the committed segments while a commit is prepared.
use Rattle.std.proofs.Common.{◌++◌, ◌≡◌, List, length, subst, sym}
use Rattle.std.specs.List.{AllZip}
use Rattle.common.specs.declared.analyzer.Analyzer as analyzers
use Rattle.definitions.specs.Analyzers.{Analyzer}
use Rattle.definitions.specs.Calls as calls
use Rattle.definitions.specs.State as states
use Rattle.definitions.specs.Values.{Document}
use Rattle.definitions.specs.declared.fault.Fault.{Fault}
use Rattle.definitions.specs.declared.fault.Fault.TheVariants as faults
use Rattle.segment.specs.Opened.{StandsFor}
use Rattle.segment.specs.declared.segment.Segment as code
use Rattle.index_state.proofs.Standings.{terms_pass}
use Rattle.index_state.specs.CommitRecords.{LastPasses, SomeStandBehind, StandBehind}
use Rattle.index_state.specs.Limits.{TermsPass}
use Rattle.index_state.specs.Pending.{Holds, open_docs}
use Rattle.index_state.specs.Standing.{IsPending, Stands}
use Rattle.index_state.specs.declared.index_state.IndexState.{IndexState}
use Rattle.index_state.specs.declared.pending_segments.PendingSegments.{PendingSegments}

-- behind the segments that are left, which are all where changes are taken, and with what was pending
module _ {A : Type 0} {a : analyzers.Ghosts A} (analyze : A → Analyzer) (old : IndexState A a) (c : calls.Configuration) (x : calls.Index) (s : Stands analyze old c x) (p : IsPending analyze old x.state.pending)
    (cut segments : List code.Segment) (pending : PendingSegments) (whole : length old.segments.items ≡ length old.alive.items → cut ≡ old.segments.items) (same : pending ≡ old.pending) where
  -- those stand for the same documents
  pub cut_stands : AllZip (StandsFor old.schema (analyze old.analyzer)) s.docs cut
  cut_stands = subst (AllZip (StandsFor old.schema (analyze old.analyzer)) s.docs) (sym (whole p.committed)) s.segments

  held_still : Holds old.schema (analyze old.analyzer) old.settings.block_size pending p.full p.last
  held_still = subst (λ q. Holds old.schema (analyze old.analyzer) old.settings.block_size q p.full p.last) (sym same) p.holds

  -- with those of all pending documents
  pub all_behind : StandBehind old.schema pending cut segments → AllZip (StandsFor old.schema (analyze old.analyzer)) (s.docs ++ (p.full ++ states.as_group p.last)) segments
  all_behind stand = stand (analyze old.analyzer) old.settings.block_size s.docs p.full p.last cut_stands held_still

  -- or of some
  pub some_behind : SomeStandBehind old.schema pending cut segments → (some : List (List Document)) × AllZip (StandsFor old.schema (analyze old.analyzer)) (s.docs ++ some) segments
  some_behind stand = stand (analyze old.analyzer) old.settings.block_size s.docs p.full p.last cut_stands held_still

  -- a limit is one of the documents that aren't in a full segment
  pub last_passes : (fault : Fault) → LastPasses old.schema pending fault → fault ≡ faults.Limit → TermsPass c.schema c.analyze (open_docs c.docs_per_segment x.state.pending)
  last_passes fault passes is = terms_pass analyze old c x s p (passes (analyze old.analyzer) old.settings.block_size p.full p.last held_still is)
