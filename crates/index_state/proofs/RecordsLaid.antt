-- What stands behind the segments before a commit while its record is laid out.
use Rattle.std.proofs.Common.{[], ◌++◌, ◌≡◌, IfErr, List, Result, arith, length, length-append, refl, subst, sym, ℕ}
use Rattle.std.proofs.Math.Logic.{∥∥₁_elim}
use Rattle.std.proofs.Props.{props}
use Rattle.std.proofs.lemmas.List.{append-nil}
use Rattle.std.specs.List.{AllZip}
use Rattle.std.specs.Result.{IsErrAnd}
use Rattle.definitions.specs.Analyzers.{Analyzer}
use Rattle.definitions.specs.Schema.{Schema}
use Rattle.definitions.specs.State.{as_group}
use Rattle.definitions.specs.Values.{Document}
use Rattle.definitions.specs.declared.fault.Fault.{Fault}
use Rattle.definitions.specs.declared.fault.Fault.TheVariants as faults
use Rattle.index_file.proofs.ErrorsKept.{err_has}
use Rattle.index_file.specs.Frames.{frame_bytes}
use Rattle.segment.specs.Opened.{StandsFor}
use Rattle.segment.specs.declared.segment.Segment as code
use Rattle.index_state.proofs.NewSegments.{IsNewIn, new_framed}
use Rattle.index_state.proofs.Outcomes.{memory_is_no_limit}
use Rattle.index_state.proofs.PendingDocs.{full_counted, open_counted}
use Rattle.index_state.specs.CommitRecords.{LastPasses, SomeStandBehind, StandBehind}
use Rattle.index_state.specs.NewSegments.{AreWithin, IsNew}
use Rattle.index_state.specs.Pending.{Holds, HoldsSome, num_segments_in}
use Rattle.index_state.specs.declared.new_segments.NewSegment.{NewSegment}
use Rattle.index_state.specs.declared.pending_segments.PendingSegments.{PendingSegments}

-- none stand behind them
pub none_behind : (schema : Schema) (pending : PendingSegments) (old : List code.Segment) → SomeStandBehind schema pending old old
none_behind schema pending old analyze block_size docs full last stands holds = ([], subst (λ ds. AllZip (StandsFor schema analyze) ds old) (sym (append-nil docs)) stands)

-- all of them are some
pub all_are_some : (schema : Schema) (pending : PendingSegments) (old new : List code.Segment) → StandBehind schema pending old new → SomeStandBehind schema pending old new
all_are_some schema pending old new all analyze block_size docs full last stands holds = (full ++ as_group last, all analyze block_size docs full last stands holds)

-- running out of memory is no limit
pub no_limit : {T : Type 0} (r : Result T Fault) (schema : Schema) (pending : PendingSegments) → IsErrAnd r (λ e. e ≡ faults.OutOfMemory) → IfErr r (LastPasses schema pending)
no_limit r schema pending is = err_has r faults.OutOfMemory (LastPasses schema pending) is (λ analyze block_size full last holds limit. absurd (memory_is_no_limit faults.OutOfMemory refl limit))

-- ---- encoded where they stand

-- all that is pending is encoded
abbrev pub AreEncoded : Schema → PendingSegments → List ℕ → List NewSegment → Type 0
AreEncoded schema pending body news = (analyze : Analyzer) (block_size : ℕ) (full : List (List Document)) (last : List Document) → Holds schema analyze block_size pending full last → AllZip (IsNew schema analyze body) (full ++ as_group last) news

-- new segments are opened behind others
abbrev pub OpensAll : Schema → List ℕ → List NewSegment → List code.Segment → List code.Segment → Type 0
OpensAll schema frame news old new = (analyze : Analyzer) (docs some : List (List Document)) → AllZip (StandsFor schema analyze) docs old → AllZip (IsNewIn schema analyze frame) some news → AllZip (StandsFor schema analyze) (docs ++ some) new

-- or some of them
abbrev pub OpensSome : Schema → List ℕ → List NewSegment → List code.Segment → List code.Segment → Type 0
OpensSome schema frame news old new = (analyze : Analyzer) (docs some : List (List Document)) → AllZip (StandsFor schema analyze) docs old → AllZip (IsNewIn schema analyze frame) some news → (first : List (List Document)) × AllZip (StandsFor schema analyze) (docs ++ first) new

module _ (schema : Schema) (pending : PendingSegments) (body more frame : List ℕ) (news : List NewSegment) (old new : List code.Segment) (framed : frame ≡ frame_bytes (body ++ more)) (within : AreWithin body news) (encoded : AreEncoded schema pending body news) where
  -- opened over their bytes all of them stand behind
  pub all_behind : ((analyze : Analyzer) (docs some : List (List Document)) → AllZip (StandsFor schema analyze) docs old → AllZip (IsNewIn schema analyze frame) some news → AllZip (StandsFor schema analyze) (docs ++ some) new) → StandBehind schema pending old new
  all_behind opened analyze block_size docs full last stands holds = opened analyze docs (full ++ as_group last) stands (new_framed schema analyze body more frame (full ++ as_group last) news framed within (encoded analyze block_size full last holds))

  -- or some
  pub some_behind : ((analyze : Analyzer) (docs some : List (List Document)) → AllZip (StandsFor schema analyze) docs old → AllZip (IsNewIn schema analyze frame) some news → (first : List (List Document)) × AllZip (StandsFor schema analyze) (docs ++ first) new) → SomeStandBehind schema pending old new
  some_behind opened analyze block_size docs full last stands holds = opened analyze docs (full ++ as_group last) stands (new_framed schema analyze body more frame (full ++ as_group last) news framed within (encoded analyze block_size full last holds))

-- ---- opened before

-- the open segment is closed
abbrev pub ClosesAll : Schema → PendingSegments → PendingSegments → Type 0
ClosesAll schema pending closed = (analyze : Analyzer) (block_size : ℕ) (full : List (List Document)) (last : List Document) → Holds schema analyze block_size pending full last → Holds schema analyze block_size closed (full ++ as_group last) []

-- all segments are opened that are closed then
module _ (schema : Schema) (pending closed : PendingSegments) (old new : List code.Segment) (closes : ClosesAll schema pending closed) where
  pub closed_behind : ((analyze : Analyzer) (block_size : ℕ) (docs full : List (List Document)) (last : List Document) → AllZip (StandsFor schema analyze) docs old → Holds schema analyze block_size closed full last → AllZip (StandsFor schema analyze) (docs ++ full) new) → StandBehind schema pending old new
  closed_behind opened analyze block_size docs full last stands holds = opened analyze block_size docs (full ++ as_group last) [] stands (closes analyze block_size full last holds)

  pub some_closed : ((analyze : Analyzer) (block_size : ℕ) (docs full : List (List Document)) (last : List Document) → AllZip (StandsFor schema analyze) docs old → Holds schema analyze block_size closed full last → (some : List (List Document)) × AllZip (StandsFor schema analyze) (docs ++ some) new) → SomeStandBehind schema pending old new
  some_closed opened analyze block_size docs full last stands holds = opened analyze block_size docs (full ++ as_group last) [] stands (closes analyze block_size full last holds)

-- as many segments are closed as there were, full or not
pub closed_counted : (schema : Schema) (pending closed : PendingSegments) → ∥ ((analyze : Analyzer) × (block_size : ℕ) × HoldsSome schema analyze block_size pending) ∥₁ → ClosesAll schema pending closed → length closed.full.items ≡ num_segments_in pending
closed_counted schema pending closed held closes = ∥∥₁_elim held (hlevel props) (λ h.
    let holds = h.2.2 in
    let full = h.2.0 in
    let last = h.2.1 in
    let after = closes h.0 h.1 full last holds in
    let were = full_counted schema h.0 h.1 pending full last holds in
    let are = full_counted schema h.0 h.1 closed (full ++ as_group last) [] after in
    let both = length-append full (as_group last) in
    let opened = open_counted schema h.0 h.1 pending.writer last holds.writer in
    omega (arith, were, are, both, opened))
