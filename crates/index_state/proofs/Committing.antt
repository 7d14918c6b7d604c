-- What a commit prepares and installs.
use Rattle.std.proofs.Common.{[], ◌++◌, ◌<◌, ◌∙◌, ◌∷◌, ◌≡◌, ◌≤◌, ◌⊎◌, ◌||◌, ◌^◌, Bool, Err, IfErr, List, None, Result, Some, ap, ap₂, drop, false, length, map, refl, subst, sym, true, ℕ}
use Rattle.std.proofs.lemmas.List.{drop-append-le}
use Rattle.std.specs.List.{AllByRecursion, AllZip}
use Rattle.std.specs.Result.{IsErrAnd}
use Rattle.common.specs.declared.analyzer.Analyzer as analyzers
use Rattle.definitions.proofs.Lists.{zip_length}
use Rattle.definitions.specs.Alive.{live_groups}
use Rattle.definitions.specs.Analyzers.{Analyzer}
use Rattle.definitions.specs.Calls as calls
use Rattle.definitions.specs.Recorded.{holds}
use Rattle.definitions.specs.Schema.{Schema}
use Rattle.definitions.specs.State as states
use Rattle.definitions.specs.State.{Pending}
use Rattle.definitions.specs.Step.{configuration_of, reopened}
use Rattle.definitions.specs.Values.{Document}
use Rattle.definitions.specs.declared.fault.Fault.{Fault}
use Rattle.definitions.specs.declared.fault.Fault.TheVariants as faults
use Rattle.index_file.proofs.ErrorsKept.{err_has}
use Rattle.index_file.specs.Frames.{frame_bytes}
use Rattle.segment.specs.Opened.{IsOpened, StandsFor, bytes_of}
use Rattle.segment.specs.declared.segment.Segment as code
use Rattle.segment_definitions.specs.ListBodies.{Makes, Member, segments_body}
use Rattle.segment_definitions.specs.Segments.{IsSegment}
use Rattle.segment_definitions.specs.Rows.{left_rows}
use Rattle.segment_definitions.specs.Waiting.{pending_rows}
use Rattle.index_state.proofs.BodyMade.{commit_makes}
use Rattle.index_state.proofs.Groups.{groups_committed}
use Rattle.index_state.proofs.Outcomes.{half_way, status_refuses, writer_is_not_ready}
use Rattle.index_state.proofs.Standings.{AllDocs, same_made, stands_stopped}
use Rattle.index_state.proofs.Waitings.{all_within, nothing_waits, terms_numbered}
use Rattle.index_state.specs.Bodies.{next_parts}
use Rattle.index_state.specs.Commits.{IsPrepared}
use Rattle.index_state.specs.Deletions.{IsSmall, numbered, term_of}
use Rattle.index_state.specs.Flags.{AreFlagged, flagged_each, members}
use Rattle.index_state.specs.Pending.{Holds}
use Rattle.index_state.specs.Records.{IsCommitBody}
use Rattle.index_state.specs.Standing.{IsMadeAlike, IsPending, IsWaiting, Stands, status_of}
use Rattle.index_state.specs.declared.deletions.Deletion.{Deletion}
use Rattle.index_state.specs.declared.index_state.IndexState.{IndexState}
use Rattle.index_state.specs.declared.status.Status.TheVariants as status

terms_of : (n : ℕ) (dels : List Deletion) → map (λ d. d.0) (map (numbered n) dels) ≡ map term_of dels
terms_of n [] = refl
terms_of n (d ∷ dels) = ap (λ ts. d.term ∷ ts) (terms_of n dels)

-- with these sets all segments are those of the state after the commit
pub prepared_stands : {A : Type 0} {a : analyzers.Ghosts A} (analyze : A → Analyzer) (old new : IndexState A a) (alike : IsMadeAlike old new) (c : calls.Configuration) (x : calls.Index) (s : Stands analyze old c x) (v : AllDocs old x.state) (sets : List (List Bool))
    → AllZip (StandsFor old.schema (analyze old.analyzer)) (v.docs ++ states.as_group v.last) new.segments.items → length sets ≡ length (v.docs ++ states.as_group v.last)
    → flagged_each (v.docs ++ states.as_group v.last) sets
    ≡ map (left_rows (holds old.schema (analyze old.analyzer)) (map term_of old.deletions.items)) (flagged_each (v.docs ++ states.as_group v.last) old.alive.items)
    ++ pending_rows (holds old.schema (analyze old.analyzer)) (map (numbered old.settings.docs_per_segment) old.deletions.items) old.settings.docs_per_segment 0 (drop (length old.alive.items) (v.docs ++ states.as_group v.last))
    → IsPrepared analyze new sets c x
prepared_stands analyze old new alike c x s v sets segments each rows =
    let w = v.waiting in
    let n = old.settings.docs_per_segment in
    let docs = v.docs ++ states.as_group v.last in
    let terms = sym (terms_of n old.deletions.items) ∙ ap (map (λ d. d.0)) (sym w.waits.deletions) ∙ sym (terms_numbered x.state.pending 0) in
    let groups = groups_committed old.schema (analyze old.analyzer) n x.state v.docs v.last (map (numbered n) old.deletions.items) old.alive.items sets (map term_of old.deletions.items) v.few v.groups w.waits terms rows in
    record {
      made = same_made analyze old new alike (λ schema analyzer settings. c ≡ configuration_of schema (analyze analyzer) settings) s.made;
      sized = same_made analyze old new alike (λ schema analyzer settings. 0 < settings.docs_per_segment) s.sized;
      docs = docs;
      segments = same_made analyze old new alike (λ schema analyzer settings. AllZip (StandsFor schema (analyze analyzer)) docs new.segments.items) segments;
      set_for_each = each;
      groups = subst (λ (k : calls.Configuration). (calls.after k x.state calls.commit_pending).groups ≡ live_groups (flagged_each docs sets)) (sym s.made) groups;
    }

-- nothing is pending, and segments hold nothing
pub nothing_pending : {A : Type 0} {a : analyzers.Ghosts A} (analyze : A → Analyzer) (index : IndexState A a) → 0 < index.settings.docs_per_segment → index.deletions.items ≡ [] → Holds index.schema (analyze index.analyzer) index.settings.block_size index.pending [] [] → length index.segments.items ≡ length index.alive.items → IsPending analyze index []
nothing_pending analyze index sized dels holds committed =
    let n = index.settings.docs_per_segment in
    let one : IsWaiting n [] [] [] [] = record { waits = nothing_waits n sized; small = tt } in
    record {
      full = [];
      last = [];
      waits = subst (λ ds. IsWaiting n [] [] [] ds) (sym dels) one;
      holds = holds;
      committed = committed;
    }

-- what was prepared is committed
pub installed_stands : {A : Type 0} {a : analyzers.Ghosts A} (analyze : A → Analyzer) (old new : IndexState A a) (alike : IsMadeAlike old new) (c : calls.Configuration) (x : calls.Index) (sets : List (List Bool)) (p : IsPrepared analyze old sets c x)
    → new.segments.items ≡ old.segments.items → new.alive.items ≡ sets → Holds new.schema (analyze new.analyzer) new.settings.block_size new.pending [] [] → new.deletions.items ≡ [] → new.status ≡ status.Ready
    → Stands analyze new c (record { state = calls.after c x.state calls.commit_pending; status = calls.ready })
installed_stands analyze old new alike c x sets p segments alive holds dels ready =
    let long = zip_length (StandsFor old.schema (analyze old.analyzer)) p.docs old.segments.items p.segments in
    let sized = same_made analyze old new alike (λ schema analyzer settings. 0 < settings.docs_per_segment) p.sized in
    record {
      made = same_made analyze old new alike (λ schema analyzer settings. c ≡ configuration_of schema (analyze analyzer) settings) p.made;
      status = ap status_of (sym ready);
      sized = sized;
      docs = p.docs;
      segments = same_made analyze old new alike (λ schema analyzer settings. AllZip (StandsFor schema (analyze analyzer)) p.docs new.segments.items) (subst (AllZip (StandsFor old.schema (analyze old.analyzer)) p.docs) (sym segments) p.segments);
      groups = p.groups ∙ ap (λ fs. live_groups (flagged_each p.docs fs)) (sym alive);
      pending = λ _. nothing_pending analyze new sized dels holds (ap length segments ∙ sym long ∙ sym p.set_for_each ∙ sym (ap length alive));
    }

-- memory ran out, or a limit was met, while a commit is prepared
pub half_left : {A : Type 0} {a : analyzers.Ghosts A} (analyze : A → Analyzer) (old new : IndexState A a) (alike : IsMadeAlike old new) (c : calls.Configuration) (x : calls.Index) (s : Stands analyze old c x) (fault : Fault)
    → (fault ≡ faults.OutOfMemory) ⊎ (fault ≡ faults.Limit) → calls.status_fault x.status false ≡ None → new.status ≡ status.WriterClosed → new.alive.items ≡ old.alive.items
    → (docs : List (List Document)) → AllZip (StandsFor old.schema (analyze old.analyzer)) docs new.segments.items → x.state.groups ≡ live_groups (flagged_each docs old.alive.items)
    → (call : calls.Call) → calls.call_fault c x call ≡ None → (calls.is_add call || calls.is_commit call) ≡ true
    → (y : calls.Index) × calls.Leaves c x call (Err fault) y × Stands analyze new c y
half_left analyze old new alike c x s fault want none closed alive docs segments groups call taken writes = (
  record { state = x.state; status = calls.writer_closed },
  half_way c x call fault want taken writes,
  stands_stopped analyze old new alike c x s calls.writer_closed writer_is_not_ready (ap status_of (sym closed)) alive docs segments groups,
)

-- the rows after the commit, of segments, sets and deletions that are those of the index
pub next_rows : {A : Type 0} {a : analyzers.Ghosts A} (analyze : A → Analyzer) (old : IndexState A a) (state : states.State) (v : AllDocs old state) (segments : List code.Segment) (alive sets : List (List Bool)) (dels : List Deletion)
    → alive ≡ old.alive.items → dels ≡ old.deletions.items
    → AllZip (StandsFor old.schema (analyze old.analyzer)) (v.docs ++ states.as_group v.last) segments
    → ((schema : Schema) (analyze : Analyzer) (n : ℕ) (docs : List (List Document)) → AllZip (StandsFor schema analyze) docs segments → AllByRecursion (λ ds. length ds ≤ n) (drop (length alive) docs) → AllByRecursion (IsSmall n) dels
    → flagged_each docs sets ≡ map (left_rows (holds schema analyze) (map term_of dels)) (flagged_each docs alive) ++ pending_rows (holds schema analyze) (map (numbered n) dels) n 0 (drop (length alive) docs))
    → flagged_each (v.docs ++ states.as_group v.last) sets
    ≡ map (left_rows (holds old.schema (analyze old.analyzer)) (map term_of old.deletions.items)) (flagged_each (v.docs ++ states.as_group v.last) old.alive.items)
    ++ pending_rows (holds old.schema (analyze old.analyzer)) (map (numbered old.settings.docs_per_segment) old.deletions.items) old.settings.docs_per_segment 0 (drop (length old.alive.items) (v.docs ++ states.as_group v.last))
next_rows analyze old state v segments alive sets dels same_alive same_dels stands rows =
    let w = v.waiting in
    let n = old.settings.docs_per_segment in
    let has = holds old.schema (analyze old.analyzer) in
    let docs = v.docs ++ states.as_group v.last in
    let full = drop (length old.alive.items) v.docs in
    let behind : drop (length old.alive.items) docs ≡ full ++ states.as_group v.last = drop-append-le (length old.alive.items) v.docs (states.as_group v.last) v.few in
    let within = subst (AllByRecursion (λ (ds : List Document). length ds ≤ n)) (sym behind) (all_within n full v.last w.waits.long w.waits.short) in
    let within' = subst (λ fs. AllByRecursion (λ (ds : List Document). length ds ≤ n) (drop (length fs) docs)) (sym same_alive) within in
    let small = subst (AllByRecursion (IsSmall n)) (sym same_dels) w.small in
    let all = rows old.schema (analyze old.analyzer) n docs stands within' small in
    let with_alive = subst (λ fs. flagged_each docs sets ≡ map (left_rows has (map term_of dels)) (flagged_each docs fs) ++ pending_rows has (map (numbered n) dels) n 0 (drop (length fs) docs)) same_alive all in
    subst (λ ds. flagged_each docs sets ≡ map (left_rows has (map term_of ds)) (flagged_each docs old.alive.items) ++ pending_rows has (map (numbered n) ds) n 0 (drop (length old.alive.items) docs)) same_dels with_alive

-- a commit that its status refuses
pub refused_left : {A T : Type 0} {a : analyzers.Ghosts A} (analyze : A → Analyzer) (old : IndexState A a) (c : calls.Configuration) (x : calls.Index) (s : Stands analyze old c x) (r : Result T Fault) (fault : Fault) → IsErrAnd r (λ e. e ≡ fault) → calls.status_fault x.status false ≡ Some fault
    → IfErr r (λ f. (y : calls.Index) × calls.Leaves c x calls.commit_pending (Err f) y × Stands analyze old c y)
refused_left analyze old c x s r fault is refuses =
    err_has r fault (λ f. (y : calls.Index) × calls.Leaves c x calls.commit_pending (Err f) y × Stands analyze old c y) is
    (x, calls.refused fault (status_refuses c x calls.commit_pending fault refuses), s)

-- the frame of a commit is that of a body that makes the members after it, and says what a commit's body says
pub commit_body : (schema : Schema) (analyze : Analyzer) (n : ℕ) (pending : List Pending) (frame : List ℕ) (segments others : List code.Segment) (alive sets same : List (List Bool)) (k : ℕ) (before : List Member)
    → others ≡ segments → same ≡ sets → k ≡ length alive → frame ≡ frame_bytes (segments_body (next_parts k (map bytes_of others)) same)
    → AllByRecursion (IsOpened schema) segments → AreFlagged segments sets → length alive ≤ length segments → length sets ≡ length segments → length segments < 2 ^ 32 → members segments alive ≡ before
    → IsCommitBody schema analyze n pending (members segments alive) (members segments sets) (segments_body (next_parts (length alive) (map bytes_of segments)) sets)
    → (body : List ℕ) × (frame ≡ frame_bytes body) × Makes (IsSegment schema) before (members segments sets) body × IsCommitBody schema analyze n pending before (members segments sets) body
commit_body schema analyze n pending frame segments others alive sets same k before e1 e2 e3 framed opened flagged few each small olds says =
    let body = segments_body (next_parts (length alive) (map bytes_of segments)) sets in
    let is : frame ≡ frame_bytes body = framed ∙ ap₂ (λ (ss : List code.Segment) (fs : List (List Bool)). frame_bytes (segments_body (next_parts k (map bytes_of ss)) fs)) e1 e2 ∙ ap (λ n. frame_bytes (segments_body (next_parts n (map bytes_of segments)) sets)) e3 in
    (body, is, subst (λ ms. Makes (IsSegment schema) ms (members segments sets) body) olds (commit_makes schema segments alive sets opened flagged few each small), subst (λ ms. IsCommitBody schema analyze n pending ms (members segments sets) body) olds says)

-- what is there when nothing is pending
pub first_stands : {A : Type 0} {a : analyzers.Ghosts A} (analyze : A → Analyzer) (index : IndexState A a) (docs groups : List (List Document)) → index.status ≡ status.Ready → 0 < index.settings.docs_per_segment
    → AllZip (StandsFor index.schema (analyze index.analyzer)) docs index.segments.items → groups ≡ live_groups (flagged_each docs index.alive.items) → length index.alive.items ≡ length docs → Holds index.schema (analyze index.analyzer) index.settings.block_size index.pending [] [] → index.deletions.items ≡ []
    → Stands analyze index (configuration_of index.schema (analyze index.analyzer) index.settings) (reopened groups)
first_stands analyze index docs groups ready sized segments are each holds dels =
    let long = zip_length (StandsFor index.schema (analyze index.analyzer)) docs index.segments.items segments in
    record {
      made = refl;
      status = ap status_of (sym ready);
      sized = sized;
      docs = docs;
      segments = segments;
      groups = are;
      pending = λ _. nothing_pending analyze index sized dels holds (sym long ∙ sym each);
    }
