-- What the bodies of a commit and of a merge say.
use Rattle.std.proofs.Common.{[], ◌++◌, ◌+◌, ◌<◌, ◌^◌, ◌∙◌, ◌∷◌, ◌≡◌, ◌≤◌, Bool, List, None, Option, Some, ap, ap₂, arith, drop, length, length-append, map, refl, replicate, subst, sym, take, true, ℕ}
use Rattle.std.proofs.Math.Logic.{∥∥₁_map}
use Rattle.std.specs.Prelude.{IfSome, MatchOption, option_to_list}
use Rattle.std.proofs.lemmas.List.{drop-append-le, length-drop, length-map, take-append-drop}
use Rattle.std.specs.List.{AllByRecursion, AllZip, zip}
use Rattle.common.specs.declared.analyzer.Analyzer as analyzers
use Rattle.definitions.proofs.Lists.{zip_length}
use Rattle.definitions.specs.Analyzers.{Analyzer}
use Rattle.definitions.specs.Calls as calls
use Rattle.definitions.specs.Recorded.{holds}
use Rattle.definitions.specs.Schema.{Schema}
use Rattle.definitions.specs.State.{Pending, as_group, deleted_terms, living}
use Rattle.definitions.specs.State as states
use Rattle.definitions.specs.Values.{Document}
use Rattle.index_file.specs.Frames.{frame_bytes}
use Rattle.segment.specs.Opened.{IsOpened, StandsFor, bytes_of}
use Rattle.segment.specs.Writers.{HasWritten}
use Rattle.segment.specs.declared.segment.Segment as code
use Rattle.segment.specs.declared.segment_writer.SegmentWriter.{SegmentWriter}
use Rattle.segment_definitions.proofs.Commits.{commit_groups}
use Rattle.segment_definitions.specs.Rows.{left_rows}
use Rattle.segment_definitions.specs.ListBodies.{Makes, Member, segments_body, fresh}
use Rattle.segment_definitions.specs.Segments.{IsSegment, IsSegmentOf}
use Rattle.segment_definitions.specs.Waiting.{Numbered, Waits, pending_rows}
use Rattle.segment_search.proofs.RowsRead.{docs_counted}
use Rattle.index_state.proofs.BodyMade.{commit_makes, drop-bytes, length-zip, zip_flags}
use Rattle.index_state.proofs.EachFlagged.{length-each}
use Rattle.index_state.proofs.MergedGroups.{few_new, merge_body, merge_whole, new_opened, none_stands}
use Rattle.index_state.proofs.MergedLists.{zip_drop}
use Rattle.index_state.proofs.PendingPieces.{length-pending, pieces_waiting}
use Rattle.index_state.proofs.Standings.{AllDocs, all_docs, all_docs_are}
use Rattle.index_state.specs.Bodies.{kept_from, merged_parts, next_parts}
use Rattle.index_state.specs.Deletions.{numbered}
use Rattle.index_state.specs.Flags.{AreFlagged, flagged_each, members}
use Rattle.index_state.specs.Merges.{alive_member, all_alive, replaced}
use Rattle.index_state.specs.Pending.{Holds, IsFull, num_segments_in}
use Rattle.index_state.specs.Records.{IsAlive, IsCommitBody, KeepsAll, KeepsOutside, RecordsSegments}
use Rattle.index_state.specs.Standing.{IsPending, Stands}
use Rattle.index_state.specs.declared.index_state.IndexState.{IndexState}
use Rattle.index_state.specs.declared.pending_segments.PendingSegments.{PendingSegments}

-- ---- a commit

bytes_are : (schema : Schema) (analyze : Analyzer) (docs : List (List Document)) (segments : List code.Segment) → AllZip (StandsFor schema analyze) docs segments → AllZip (IsSegmentOf schema analyze) docs (map bytes_of segments)
bytes_are schema analyze [] [] h = tt
bytes_are schema analyze [] (s ∷ segments) h = absurd h
bytes_are schema analyze (ds ∷ docs) [] h = absurd h
bytes_are schema analyze (ds ∷ docs) (s ∷ segments) h = (h.0.bytes_are, bytes_are schema analyze docs segments h.1)

-- the bytes of the first members
zip_bytes : (segs : List (List ℕ)) (sets : List (List Bool)) → length sets ≤ length segs → map (λ (m : Member). m.0) (zip segs sets) ≡ take (length sets) segs
zip_bytes [] [] l = refl
zip_bytes [] (flags ∷ sets) l = absurd (omega (arith, l))
zip_bytes (b ∷ segs) [] l = refl
zip_bytes (b ∷ segs) (flags ∷ sets) l = ap (λ bs. b ∷ bs) (zip_bytes segs sets (omega (arith, l)))

-- and of all
all_bytes : (segs : List (List ℕ)) (sets : List (List Bool)) → length sets ≡ length segs → map (λ (m : Member). m.0) (zip segs sets) ≡ segs
all_bytes [] [] e = refl
all_bytes [] (flags ∷ sets) e = absurd (omega (arith, e))
all_bytes (b ∷ segs) [] e = absurd (omega (arith, e))
all_bytes (b ∷ segs) (flags ∷ sets) e = ap (λ bs. b ∷ bs) (all_bytes segs sets (omega (arith, e)))

-- the body of a commit keeps the members before, and has the segments behind them
pub commit_keeps : (segments : List code.Segment) (alive sets : List (List Bool)) → length alive ≤ length segments → length sets ≡ length segments
    → KeepsAll (members segments alive) (members segments sets) (segments_body (next_parts (length alive) (map bytes_of segments)) sets)
commit_keeps segments alive sets within each =
    let bytes = map bytes_of segments in
    let k = length alive in
    let long = length-map segments bytes_of in
    let inside : length alive ≤ length bytes = omega (arith, within, long) in
    let whole : length sets ≡ length bytes = omega (arith, each, long) in
    record {
      news = drop k bytes;
      segments = all_bytes bytes sets whole ∙ sym (take-append-drop k bytes) ∙ ap (λ bs. bs ++ drop k bytes) (sym (zip_bytes bytes alive inside));
      body_is = ap₂ (λ (i : ℕ) (fs : List (List Bool)). segments_body (kept_from 0 i ++ map fresh (drop k bytes)) fs) (sym (length-zip bytes alive inside)) (sym (zip_flags bytes sets (omega (arith, whole))));
    }

-- which are those of what waits
pub commit_says : (schema : Schema) (analyze : Analyzer) (n : ℕ) (pending : List Pending) (docs : List (List Document)) (last : List Document) (dels : List Numbered) (segments : List code.Segment) (alive sets : List (List Bool))
    → AllZip (StandsFor schema analyze) (docs ++ as_group last) segments → length alive ≤ length docs → length alive ≤ length segments → length sets ≡ length segments → Waits n pending (drop (length alive) docs) last dels
    → IsCommitBody schema analyze n pending (members segments alive) (members segments sets) (segments_body (next_parts (length alive) (map bytes_of segments)) sets)
unfolding commit_keeps
commit_says schema analyze n pending docs last dels segments alive sets stand few within each w =
    let bytes = map bytes_of segments in
    let k = length alive in
    let are = pieces_waiting n pending (drop k docs) last dels w ∙ sym (drop-append-le k docs (as_group last) few) in
    let later = bytes_are schema analyze (drop k (docs ++ as_group last)) (drop k segments) (zip_drop (StandsFor schema analyze) (docs ++ as_group last) segments k stand) in
    let keeps = commit_keeps segments alive sets within each in
    record {
      news = drop k bytes;
      new = subst (λ ds. AllZip (IsSegmentOf schema analyze) ds (drop k bytes)) (sym are) (subst (AllZip (IsSegmentOf schema analyze) (drop k (docs ++ as_group last))) (drop-bytes k segments) later);
      segments = keeps.segments;
      body_is = keeps.body_is;
    }

-- its frame is that of such a body, which makes the members after it
pub commit_records : (schema : Schema) (frame : List ℕ) (segments : List code.Segment) (alive sets same : List (List Bool)) (before : List Member)
    → same ≡ alive → frame ≡ frame_bytes (segments_body (next_parts (length same) (map bytes_of segments)) sets)
    → ∥ AllByRecursion (IsOpened schema) segments ∥₁ → AreFlagged segments sets → length alive ≤ length segments → length sets ≡ length segments → length segments < 2 ^ 32 → members segments alive ≡ before
    → (body : List ℕ) × (frame ≡ frame_bytes body) × RecordsSegments schema calls.commit_pending before (members segments sets) body
commit_records schema frame segments alive sets same before e framed opened flagged few each small olds =
    let body = segments_body (next_parts (length alive) (map bytes_of segments)) sets in
    let is = framed ∙ ap (λ (fs : List (List Bool)). frame_bytes (segments_body (next_parts (length fs) (map bytes_of segments)) sets)) e in
    let makes = ∥∥₁_map opened (λ all. subst (λ ms. Makes (IsSegment schema) ms (members segments sets) body) olds (commit_makes schema segments alive sets all flagged few each small)) in
    (body, is, (makes, subst (λ ms. KeepsAll ms (members segments sets) body) olds (commit_keeps segments alive sets few each)))

-- after a commit there are as many groups as lists of documents
pub groups_written : {A : Type 0} {a : analyzers.Ghosts A} (analyze : A → Analyzer) (old : IndexState A a) (c : calls.Configuration) (x : calls.Index) (s : Stands analyze old c x) (v : AllDocs old x.state)
    → length (calls.after c x.state calls.commit_pending).groups ≡ length (v.docs ++ as_group v.last)
groups_written analyze old c x s v =
    let w = v.waiting.waits in
    let few = v.few in
    let n = old.settings.docs_per_segment in
    let cut = analyze old.analyzer in
    let has = holds old.schema cut in
    let k = length old.alive.items in
    let full = drop k v.docs in
    let dels = map (numbered n) old.deletions.items in
    let rows = flagged_each v.docs old.alive.items in
    let lefts = map (left_rows has (deleted_terms x.state.pending)) rows in
    let more = pending_rows has dels n 0 (full ++ as_group v.last) in
    let groups = commit_groups old.schema cut n x.state rows full v.last dels v.groups w.docs w.long w.short w.deletions in
    let all = length-map (lefts ++ more) living in
    let both = length-append lefts more in
    let first = length-map rows (left_rows has (deleted_terms x.state.pending)) in
    let flagged = length-each v.docs old.alive.items few in
    let behind = length-pending has dels n 0 (full ++ as_group v.last) in
    let parts = length-append full (as_group v.last) in
    let rest = length-drop k v.docs in
    let docs = length-append v.docs (as_group v.last) in
    let count : length (states.after_commit old.schema cut n x.state).groups ≡ length (v.docs ++ as_group v.last) = ap length groups ∙ omega (arith, all, both, first, flagged, behind, parts, rest, docs, few) in
    subst (λ (m : calls.Configuration). length (calls.after m x.state calls.commit_pending).groups ≡ length (v.docs ++ as_group v.last)) (sym s.made) count

-- the open segment is one where it has documents
open_counted : (schema : Schema) (analyze : Analyzer) (block_size : ℕ) (o : Option SegmentWriter) (last : List Document) → MatchOption o (last ≡ []) (λ writer. (0 < length last) × HasWritten schema analyze block_size writer last) → length (option_to_list o) ≡ length (as_group last)
open_counted schema analyze block_size None last none = ap (λ ds. length (as_group ds)) (sym none)
open_counted schema analyze block_size (Some writer) [] h = absurd (let some = h.0 in omega (arith, some))
open_counted schema analyze block_size (Some writer) (doc ∷ docs) h = refl

-- as many segments are pending as there are lists of pending documents
pub pending_counted : (schema : Schema) (analyze : Analyzer) (block_size : ℕ) (pending : PendingSegments) (full : List (List Document)) (last : List Document) → Holds schema analyze block_size pending full last → num_segments_in pending ≡ length full + length (as_group last)
pending_counted schema analyze block_size pending full last h =
    let closed = zip_length (IsFull schema analyze) full pending.full.items h.closed in
    let opened = open_counted schema analyze block_size pending.writer last h.writer in
    omega (arith, closed, opened)

-- the groups after a commit are as many as the committed and the pending segments
pub groups_counted : {A : Type 0} {a : analyzers.Ghosts A} (analyze : A → Analyzer) (old : IndexState A a) (c : calls.Configuration) (x : calls.Index) (s : Stands analyze old c x) (p : IsPending analyze old x.state.pending)
    → length (calls.after c x.state calls.commit_pending).groups ≡ length old.alive.items + num_segments_in old.pending
groups_counted analyze old c x s p =
    let groups : length (calls.after c x.state calls.commit_pending).groups ≡ length (s.docs ++ (p.full ++ as_group p.last)) = groups_written analyze old c x s (all_docs analyze old c x s p) ∙ ap length (all_docs_are analyze old c x s p) in
    let counted = pending_counted old.schema (analyze old.analyzer) old.settings.block_size old.pending p.full p.last p.holds in
    let docs = zip_length (StandsFor old.schema (analyze old.analyzer)) s.docs old.segments.items s.segments in
    let each = p.committed in
    let both = length-append s.docs (p.full ++ as_group p.last) in
    let first = length-append p.full (as_group p.last) in
    omega (arith, groups, counted, docs, each, both, first)

-- ---- a merge

pub new_alive : (schema : Schema) (analyze : Analyzer) (o : Option code.Segment) (docs : List Document) → MatchOption o (docs ≡ []) (StandsFor schema analyze docs) → AllZip (IsAlive schema analyze) (as_group docs) (map alive_member (option_to_list o))
new_alive schema analyze None docs none = subst (λ ds. AllZip (IsAlive schema analyze) (as_group ds) []) (sym none) tt
new_alive schema analyze (Some s) [] stands = absurd (none_stands schema analyze s stands)
new_alive schema analyze (Some s) (doc ∷ docs) stands = ((stands.bytes_are, ap (λ n. replicate n true) (sym (docs_counted schema analyze (doc ∷ docs) s stands))), tt)

-- the frame of a merge is that of a body that makes the members after it of those before, which stay outside its range
pub merge_records : (schema : Schema) (frame : List ℕ) (segments : List code.Segment) (o : Option code.Segment) (alive sets : List (List Bool)) (from to count : ℕ) → from < to → to ≤ length alive → length alive < 2 ^ 32 → count ≡ length alive
    → ∥ AllByRecursion (IsOpened schema) segments ∥₁ → IfSome o (IsOpened schema) → AreFlagged segments alive → sets ≡ replaced from to (map all_alive (option_to_list o)) alive
    → frame ≡ frame_bytes (segments_body (merged_parts count from to (map bytes_of (option_to_list o))) sets)
    → (body : List ℕ) × (frame ≡ frame_bytes body) × RecordsSegments schema (calls.merge_range from to) (members segments alive) (replaced from to (map alive_member (option_to_list o)) (members segments alive)) body
merge_records schema frame segments o alive sets from to count l m few counted opened new flagged are framed =
    let news = option_to_list o in
    let mapped = length-map news alive_member in
    let one = few_new o in
    let makes = ∥∥₁_map opened (λ all. merge_body schema segments news alive sets from to count l m few counted one all (new_opened schema o new) flagged are) in
    let keeps : KeepsOutside from to (members segments alive) (replaced from to (map alive_member news) (members segments alive)) (segments_body (merged_parts count from to (map bytes_of news)) sets) = record {
      news = map alive_member news;
      at_most_one = omega (arith, mapped, one);
      list = refl;
      body_is = merge_whole segments news alive sets from to count counted flagged are;
    } in
    (segments_body (merged_parts count from to (map bytes_of news)) sets, framed, (makes, keeps))
