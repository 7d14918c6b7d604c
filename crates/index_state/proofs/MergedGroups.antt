-- What a merge prepares and installs.
use Rattle.std.proofs.Common.{[], ◌++◌, ◌-◌, ◌<◌, ◌∙◌, ◌∷◌, ◌≡◌, ◌≢◌, ◌≤◌, ◌^◌, Bool, Err, List, None, Option, Result, Some, ap, ap₂, arith, drop, flat_map, length, map, refl, replicate, subst, suc, sym, take, true, zero, false, ⊎_elim, ℕ}
use Rattle.std.specs.Prelude.{IfSome, MatchOption, option_to_list}
use Rattle.std.specs.Bool.{⊤}
use Rattle.std.specs.Result.{result_err}
use Rattle.std.proofs.lemmas.List.{drop-map, length-drop, length-map, length-replicate, length-take-le, take-map}
use Rattle.std.specs.List.{AllByRecursion, AllZip, items_where_true, zip}
use Rattle.common.specs.declared.analyzer.Analyzer as analyzers
use Rattle.definitions.specs.Alive as alive
use Rattle.definitions.specs.Alive.{live, live_groups}
use Rattle.definitions.specs.Analyzers.{Analyzer}
use Rattle.definitions.specs.Calls as calls
use Rattle.definitions.specs.Schema.{Schema}
use Rattle.definitions.specs.State as states
use Rattle.definitions.specs.State.{as_group, living, merged}
use Rattle.definitions.specs.Values.{Document}
use Rattle.definitions.specs.declared.fault.Fault.{Fault}
use Rattle.definitions.specs.declared.fault.Fault.TheVariants as faults
use Rattle.index_file.proofs.Faults.{memory_or_other}
use Rattle.segment.specs.Opened.{IsOpened, StandsFor, bytes_of, num_docs_of}
use Rattle.segment.specs.declared.segment.Segment as code
use Rattle.segment_definitions.specs.ListBodies.{Makes, Member, segments_body}
use Rattle.segment_definitions.specs.IndexFiles.{IsGroup}
use Rattle.segment_definitions.specs.Segments.{IsSegment}
use Rattle.segment_definitions.proofs.Merges.{merged_groups}
use Rattle.segment_definitions.specs.Rows.{flagged}
use Rattle.segment.specs.Members as merger
use Rattle.segment_search.proofs.Flagging.{flagged_within}
use Rattle.definitions.proofs.Lists.{all_drop, all_take, zip_length}
use Rattle.segment_search.proofs.RowsRead.{docs_counted, documents_flagged, flags_flagged}
use Rattle.index_state.proofs.BodyMade.{are_members, length-zip, zip_flags}
use Rattle.index_state.proofs.EachFlagged.{length-each}
use Rattle.index_state.proofs.Members.{zip_take}
use Rattle.index_state.proofs.MergeMade.{alive_bytes, alive_flags, alive_members, merge_makes, short_bytes}
use Rattle.index_state.proofs.MergedLists.{length-replaced, map_replaced, zip_drop, zip_replaced, zipped_replaced}
use Rattle.index_state.proofs.Outcomes.{own_refuses}
use Rattle.index_state.proofs.Standings.{pending_kept, sets_within, stands_with}
use Rattle.index_state.specs.Bodies.{merged_parts}
use Rattle.index_state.specs.Flags.{AreFlagged, flagged_each, members}
use Rattle.index_state.specs.Merges.{Joins, Replaces, alive_member, all_alive, joined_groups, members_merged, new_in, range_fault, replaced}
use Rattle.index_state.specs.Standing.{IsMadeAlike, Stands, members_of, status_of}
use Rattle.index_state.specs.declared.prepared_merge.PreparedMerge.{PreparedMerge}
use Rattle.index_state.specs.declared.index_state.IndexState.{IndexState}
use Rattle.layouts.proofs.DocumentEntries.{zip-take as zipped_take, zip-drop as zipped_drop}

-- ---- the new segment

-- at most one is new
pub few_new : (o : Option code.Segment) → length (option_to_list o) ≤ 1
few_new None = omega arith
few_new (Some s) = omega arith

pub new_opened : (schema : Schema) (o : Option code.Segment) → IfSome o (IsOpened schema) → AllByRecursion (IsOpened schema) (option_to_list o)
new_opened schema None h = tt
new_opened schema (Some s) h = (h, tt)

module _ (schema : Schema) (analyze : Analyzer) where
  -- a segment has a document
  pub none_stands : (s : code.Segment) → StandsFor schema analyze [] s → ⊥
  none_stands s stands =
      let count = docs_counted schema analyze [] s stands in
      let some = stands.opened.written.has_documents in
      omega (arith, count, some)

  -- it is of the documents as a group
  pub new_shown : (o : Option code.Segment) (docs : List Document) → MatchOption o (docs ≡ []) (StandsFor schema analyze docs) → AllZip (StandsFor schema analyze) (as_group docs) (option_to_list o)
  new_shown None docs none = subst (λ ds. AllZip (StandsFor schema analyze) (as_group ds) []) (sym none) tt
  new_shown (Some s) [] stands = absurd (none_stands s stands)
  new_shown (Some s) (doc ∷ docs) stands = (stands, tt)

  living_all : (docs : List Document) (n : ℕ) → n ≡ length docs → living (flagged docs (replicate n true)) ≡ docs
  living_all [] zero e = refl
  living_all [] (suc n) e = absurd (omega (arith, e))
  living_all (doc ∷ docs) zero e = absurd (omega (arith, e))
  living_all (doc ∷ docs) (suc n) e = ap (λ ds. doc ∷ ds) (living_all docs n (omega (arith, e)))

  -- all of which are alive
  pub new_living : (o : Option code.Segment) (docs : List Document) → MatchOption o (docs ≡ []) (StandsFor schema analyze docs) → live_groups (flagged_each (as_group docs) (map all_alive (option_to_list o))) ≡ as_group docs
  new_living None docs none = subst (λ ds. live_groups (flagged_each (as_group ds) []) ≡ as_group ds) (sym none) refl
  new_living (Some s) [] stands = absurd (none_stands s stands)
  new_living (Some s) (doc ∷ docs) stands = ap (λ ds. ds ∷ []) (living_all (doc ∷ docs) (num_docs_of s) (sym (docs_counted schema analyze (doc ∷ docs) s stands)))

  -- as many as are new
  pub new_counted : (o : Option code.Segment) (docs : List Document) → MatchOption o (docs ≡ []) (StandsFor schema analyze docs) → length (as_group docs) ≡ length (map all_alive (option_to_list o))
  new_counted None docs none = ap (λ ds. length (as_group ds)) none
  new_counted (Some s) [] stands = absurd (none_stands s stands)
  new_counted (Some s) (doc ∷ docs) stands = refl

-- ---- rows of members that give way

abbrev row_of : List Document × List Bool → alive.Segment
row_of p = flagged p.0 p.1

each_zipped : (docs : List (List Document)) (sets : List (List Bool)) → flagged_each docs sets ≡ map row_of (zip docs sets)
each_zipped [] [] = refl
each_zipped [] (flags ∷ sets) = refl
each_zipped (ds ∷ docs) [] = refl
each_zipped (ds ∷ docs) (flags ∷ sets) = ap (λ rows. flagged ds flags ∷ rows) (each_zipped docs sets)

pub each_replaced : (from to : ℕ) (news docs : List (List Document)) (others sets : List (List Bool)) → length news ≡ length others → from ≤ length sets → length sets ≤ length docs
    → flagged_each (replaced from to news docs) (replaced from to others sets) ≡ replaced from to (flagged_each news others) (flagged_each docs sets)
each_replaced from to news docs others sets same l k =
    each_zipped (replaced from to news docs) (replaced from to others sets)
    ∙ ap (map row_of) (zipped_replaced from to news docs others sets same l k)
    ∙ map_replaced row_of from to (zip news others) (zip docs sets)
    ∙ ap₂ (replaced from to) (sym (each_zipped news others)) (sym (each_zipped docs sets))

-- the rows of a range
pub each_within : (from n : ℕ) (docs : List (List Document)) (sets : List (List Bool)) → flagged_each (take n (drop from docs)) (take n (drop from sets)) ≡ take n (drop from (flagged_each docs sets))
each_within from n docs sets =
    each_zipped (take n (drop from docs)) (take n (drop from sets))
    ∙ ap (map row_of) (zipped_take n (drop from docs) (drop from sets) ∙ ap (take n) (zipped_drop from docs sets))
    ∙ sym (take-map row_of n (drop from (zip docs sets)))
    ∙ ap (take n) (sym (drop-map row_of from (zip docs sets)) ∙ ap (drop from) (sym (each_zipped docs sets)))

live_joined : (rows : List alive.Segment) → live rows ≡ flat_map (λ group. group) (live_groups rows)
live_joined [] = refl
live_joined (row ∷ rows) = ap (λ ds. living row ++ ds) (live_joined rows)

-- their living documents are those of the groups of the range
pub live_within : (from to : ℕ) (rows : List alive.Segment) → live (take (to - from) (drop from rows)) ≡ joined_groups from to (live_groups rows)
live_within from to rows =
    live_joined (take (to - from) (drop from rows))
    ∙ ap (flat_map (λ group. group)) (sym (take-map living (to - from) (drop from rows)) ∙ ap (take (to - from)) (sym (drop-map living from rows)))

-- the groups with one in place of a range
pub groups_replaced : (schema : Schema) (analyze : Analyzer) (from to : ℕ) (o : Option code.Segment) (docs : List (List Document)) (sets : List (List Bool)) (groups : List (List Document)) → from ≤ length sets → length sets ≤ length docs → groups ≡ live_groups (flagged_each docs sets)
    → MatchOption o (joined_groups from to groups ≡ []) (StandsFor schema analyze (joined_groups from to groups))
    → merged from to groups ≡ live_groups (flagged_each (replaced from to (as_group (joined_groups from to groups)) docs) (replaced from to (map all_alive (option_to_list o)) sets))
groups_replaced schema analyze from to o docs sets groups l k are of =
    let rows = flagged_each docs sets in
    let joined = joined_groups from to groups in
    let news = map all_alive (option_to_list o) in
    let one = flagged_each (as_group joined) news in
    let whole : joined ≡ live (take (to - from) (drop from rows)) = ap (joined_groups from to) are ∙ sym (live_within from to rows) in
    let new : live_groups one ≡ as_group (live (take (to - from) (drop from rows))) = new_living schema analyze o joined of ∙ ap as_group whole in
    ap (merged from to) are
    ∙ sym (merged_groups from to rows one new)
    ∙ ap live_groups (sym (each_replaced from to (as_group joined) docs news sets (new_counted schema analyze o joined of) l k))

-- ---- flags

pub flagged_both : (segments more : List code.Segment) (sets others : List (List Bool)) → length segments ≡ length sets → AreFlagged segments sets → AreFlagged more others → AreFlagged (segments ++ more) (sets ++ others)
flagged_both [] more [] others e f g = g
flagged_both [] more (flags ∷ sets) others e f g = absurd f
flagged_both (s ∷ segments) more [] others e f g = absurd (omega (arith, e))
flagged_both (s ∷ segments) more (flags ∷ sets) others e f g = (f.0, flagged_both segments more sets others (omega (arith, e)) f.1 g)

pub flagged_take : (n : ℕ) (segments : List code.Segment) (sets : List (List Bool)) → AreFlagged segments sets → AreFlagged (take n segments) (take n sets)
flagged_take zero segments sets f = tt
flagged_take (suc n) [] [] f = tt
flagged_take (suc n) (s ∷ segments) [] f = tt
flagged_take (suc n) [] (flags ∷ sets) f = absurd f
flagged_take (suc n) (s ∷ segments) (flags ∷ sets) f = (f.0, flagged_take n segments sets f.1)

pub flagged_drop : (n : ℕ) (segments : List code.Segment) (sets : List (List Bool)) → AreFlagged segments sets → AreFlagged (drop n segments) (drop n sets)
flagged_drop zero segments sets f = f
flagged_drop (suc n) segments [] f = tt
flagged_drop (suc n) [] (flags ∷ sets) f = absurd f
flagged_drop (suc n) (s ∷ segments) (flags ∷ sets) f = flagged_drop n segments sets f.1

pub flagged_alive : (news : List code.Segment) → AreFlagged news (map all_alive news)
flagged_alive [] = tt
flagged_alive (s ∷ news) = (length-replicate (num_docs_of s) true, flagged_alive news)

pub flagged_replaced : (from to : ℕ) (news segments : List code.Segment) (sets : List (List Bool)) → from ≤ length sets → AreFlagged segments sets → AreFlagged (replaced from to news segments) (replaced from to (map all_alive news) sets)
flagged_replaced from to news segments sets l f =
    let few = flagged_within segments sets f in
    let within : from ≤ length segments = omega (arith, few, l) in
    let one = length-take-le from segments within in
    let other = length-take-le from sets l in
    let count = length-map news all_alive in
    flagged_both (take from segments) (news ++ drop to segments) (take from sets) (map all_alive news ++ drop to sets) (omega (arith, one, other)) (flagged_take from segments sets f)
    (flagged_both news (drop to segments) (map all_alive news) (drop to sets) (omega (arith, count)) (flagged_alive news) (flagged_drop to segments sets f))

-- ---- members

alive_zipped : (news : List code.Segment) → zip (map bytes_of news) (map all_alive news) ≡ map alive_member news
alive_zipped [] = refl
alive_zipped (s ∷ news) = ap (λ ms. alive_member s ∷ ms) (alive_zipped news)

pub members_replaced : (from to : ℕ) (news segments : List code.Segment) (sets : List (List Bool)) → from ≤ length sets → AreFlagged segments sets → members (replaced from to news segments) (replaced from to (map all_alive news) sets) ≡ replaced from to (map alive_member news) (members segments sets)
members_replaced from to news segments sets l f =
    let few = flagged_within segments sets f in
    let bytes = length-map segments bytes_of in
    let one = length-map news bytes_of in
    let other = length-map news all_alive in
    let within : length sets ≤ length (map bytes_of segments) = omega (arith, few, bytes) in
    ap (λ bs. zip bs (replaced from to (map all_alive news) sets)) (map_replaced bytes_of from to news segments)
    ∙ zipped_replaced from to (map bytes_of news) (map bytes_of segments) (map all_alive news) sets (omega (arith, one, other)) l within
    ∙ ap (λ ms. replaced from to ms (members segments sets)) (alive_zipped news)

-- ---- what stands

-- the members of a range stand for its rows
pub stand_for : (schema : Schema) (analyze : Analyzer) (docs : List (List Document)) (segments : List code.Segment) (sets : List (List Bool)) → length sets ≡ length segments → AllZip (StandsFor schema analyze) docs segments → AreFlagged segments sets → merger.StandFor schema analyze (zip segments sets) (flagged_each docs sets)
stand_for schema analyze [] [] [] e h f = tt
stand_for schema analyze [] (t ∷ segments) sets e h f = absurd h
stand_for schema analyze (ds ∷ docs) [] sets e h f = absurd h
stand_for schema analyze [] [] (flags ∷ sets) e h f = absurd f
stand_for schema analyze (ds ∷ docs) (t ∷ segments) [] e h f = absurd (omega (arith, e))
stand_for schema analyze (ds ∷ docs) (t ∷ segments) (flags ∷ sets) e h f =
    let long : length flags ≡ length ds = f.0 ∙ sym (docs_counted schema analyze ds t h.0) in
    (subst (λ d. StandsFor schema analyze d t) (sym (documents_flagged ds flags long)) h.0, sym (flags_flagged ds flags long), stand_for schema analyze docs segments sets (omega (arith, e)) h.1 f.1)

-- and are opened
pub are_opened : (schema : Schema) (segments : List code.Segment) (sets : List (List Bool)) → AllByRecursion (IsOpened schema) segments → AreFlagged segments sets → merger.AreOpened schema (zip segments sets)
are_opened schema [] sets o f = tt
are_opened schema (t ∷ segments) [] o f = tt
are_opened schema (t ∷ segments) (flags ∷ sets) o f = ((o.0, f.0), are_opened schema segments sets o.1 f.1)

module _ {A : Type 0} {a : analyzers.Ghosts A} (analyze : A → Analyzer) (old new : IndexState A a) (alike : IsMadeAlike old new) (c : calls.Configuration) (x : calls.Index) (s : Stands analyze old c x) (p : PreparedMerge) (r : Replaces old p) where
  stands_replaced : MatchOption p.segment (joined_groups p.from p.to x.state.groups ≡ []) (StandsFor old.schema (analyze old.analyzer) (joined_groups p.from p.to x.state.groups))
      → new.segments.items ≡ replaced p.from p.to (new_in p) old.segments.items → new.alive.items ≡ p.alive.items → new.pending ≡ old.pending → new.deletions.items ≡ old.deletions.items → new.status ≡ old.status
      → Stands analyze new c (record { state = states.after_merge p.from p.to x.state; status = x.status })
  stands_replaced of segments alive held dels status =
      let cut = analyze old.analyzer in
      let from = p.from in
      let to = p.to in
      let sets = old.alive.items in
      let joined = joined_groups from to x.state.groups in
      let news = as_group joined in
      let others = map all_alive (new_in p) in
      let docs = replaced from to news s.docs in
      let few = sets_within old.schema cut s.docs old.segments.items sets s.segments old.flagged in
      let long = zip_length (StandsFor old.schema cut) s.docs old.segments.items s.segments in
      let some = r.has_segments in
      let inside = r.within in
      let below : from ≤ length sets = omega (arith, some, inside) in
      let y : calls.Index = record { state = states.after_merge from to x.state; status = x.status } in
      let kept : new.alive.items ≡ replaced from to others sets = alive ∙ r.sets in
      let shown = zip_replaced (StandsFor old.schema cut) from to news s.docs (new_in p) old.segments.items (new_shown old.schema cut p.segment joined of) s.segments in
      let groups = groups_replaced old.schema cut from to p.segment s.docs sets x.state.groups below few s.groups of in
      let count = length-replaced from to (new_in p) old.segments.items (omega (arith, below, few, long)) in
      let counted = length-replaced from to others sets below in
      let one = length-map (new_in p) all_alive in
      stands_with analyze old new alike c x s y docs (subst (AllZip (StandsFor old.schema cut) docs) (sym segments) shown)
      (s.status ∙ ap status_of (sym status)) (groups ∙ ap (λ fs. live_groups (flagged_each docs fs)) (sym kept))
      (λ ready.
      let pending = s.pending ready in
      let committed = pending.committed in
      let same : length (replaced from to (new_in p) old.segments.items) ≡ length (replaced from to others sets) = omega (arith, count, counted, one, committed) in
      pending_kept analyze old new alike c x s held dels (ap length segments ∙ same ∙ sym (ap length kept)) pending)

  -- after a merge the index stands for what is left
  pub merged_stands : (from to : ℕ) → Joins analyze old from to x.state.groups p
      → new.segments.items ≡ replaced p.from p.to (new_in p) old.segments.items → new.alive.items ≡ p.alive.items → new.pending ≡ old.pending → new.deletions.items ≡ old.deletions.items → new.status ≡ old.status
      → Stands analyze new c (record { state = states.after_merge from to x.state; status = x.status })
  merged_stands from to joins segments alive held dels status =
      let cut = analyze old.analyzer in
      let groups = x.state.groups in
      let of = subst (λ i. MatchOption p.segment (joined_groups i p.to groups ≡ []) (StandsFor old.schema cut (joined_groups i p.to groups))) (sym joins.from_is)
      (subst (λ j. MatchOption p.segment (joined_groups from j groups ≡ []) (StandsFor old.schema cut (joined_groups from j groups))) (sym joins.to_is) joins.of) in
      let left = stands_replaced of segments alive held dels status in
      subst (λ i. Stands analyze new c (record { state = states.after_merge i to x.state; status = x.status })) joins.from_is
      (subst (λ j. Stands analyze new c (record { state = states.after_merge p.from j x.state; status = x.status })) joins.to_is left)

-- ---- the body

-- the body of a merge is of the segments that stay and the new one
pub merge_whole : (segments news : List code.Segment) (alive sets : List (List Bool)) (from to count : ℕ) → count ≡ length alive → AreFlagged segments alive → sets ≡ replaced from to (map all_alive news) alive
    → segments_body (merged_parts count from to (map bytes_of news)) sets ≡ segments_body (merged_parts (length (members segments alive)) from to (map (λ m. m.0) (map alive_member news))) (map (λ m. m.1) (replaced from to (map alive_member news) (members segments alive)))
merge_whole segments news alive sets from to count counted flagged are =
    let bytes = map bytes_of segments in
    let before = members segments alive in
    let fresh = map alive_member news in
    let within = flagged_within segments alive flagged in
    let long = length-map segments bytes_of in
    let inside : length alive ≤ length bytes = omega (arith, within, long) in
    let same : length before ≡ length alive = length-zip bytes alive inside in
    let flags : map (λ (q : Member). q.1) (replaced from to fresh before) ≡ sets =
    map_replaced (λ (q : Member). q.1) from to fresh before ∙ ap₂ (replaced from to) (alive_flags news) (zip_flags bytes alive inside) ∙ sym are in
    sym (ap₂ segments_body (ap₂ (λ k bs. merged_parts k from to bs) (same ∙ sym counted) (alive_bytes news)) flags)

-- and makes the members after it
pub merge_body : (schema : Schema) (segments news : List code.Segment) (alive sets : List (List Bool)) (from to count : ℕ) → from < to → to ≤ length alive → length alive < 2 ^ 32 → count ≡ length alive → length news ≤ 1
    → AllByRecursion (IsOpened schema) segments → AllByRecursion (IsOpened schema) news → AreFlagged segments alive → sets ≡ replaced from to (map all_alive news) alive
    → Makes (IsSegment schema) (members segments alive) (replaced from to (map alive_member news) (members segments alive)) (segments_body (merged_parts count from to (map bytes_of news)) sets)
merge_body schema segments news alive sets from to count l m few counted one opened new flagged are =
    let before = members segments alive in
    let fresh = map alive_member news in
    let within = flagged_within segments alive flagged in
    let long = length-map segments bytes_of in
    let same : length before ≡ length alive = length-zip (map bytes_of segments) alive (omega (arith, within, long)) in
    let mapped = length-map news alive_member in
    let short = subst (AllByRecursion (λ b. length b < 2 ^ 64)) (sym (alive_bytes news)) (short_bytes schema news new) in
    let makes = merge_makes schema before fresh from to l (omega (arith, m, same)) (omega (arith, few, same)) (omega (arith, one, mapped)) (are_members schema segments alive opened flagged) (alive_members schema news new) short in
    subst (Makes (IsSegment schema) before (replaced from to fresh before)) (sym (merge_whole segments news alive sets from to count counted flagged are)) makes

-- ---- groups

alive_where : (docs : List Document) (n : ℕ) → n ≡ length docs → docs ≡ items_where_true (replicate n true) docs
alive_where [] zero e = refl
alive_where [] (suc n) e = absurd (omega (arith, e))
alive_where (doc ∷ docs) zero e = absurd (omega (arith, e))
alive_where (doc ∷ docs) (suc n) e = ap (λ ds. doc ∷ ds) (alive_where docs n (omega (arith, e)))

new_groups : (schema : Schema) (analyze : Analyzer) (o : Option code.Segment) (docs : List Document) → MatchOption o (docs ≡ []) (StandsFor schema analyze docs) → AllZip (IsGroup schema analyze) (map alive_member (option_to_list o)) (as_group docs)
new_groups schema analyze None docs none = subst (λ ds. AllZip (IsGroup schema analyze) [] (as_group ds)) (sym none) tt
new_groups schema analyze (Some s) [] stands = absurd (none_stands schema analyze s stands)
new_groups schema analyze (Some s) (doc ∷ docs) stands =
    let count = docs_counted schema analyze (doc ∷ docs) s stands in
    (record { docs = doc ∷ docs; segment = stands.bytes_are; flagged = length-replicate (num_docs_of s) true ∙ sym count; living = alive_where (doc ∷ docs) (num_docs_of s) (sym count) }, tt)

-- the members after a merge are of the groups after it
pub merged_in_groups : {A : Type 0} {a : analyzers.Ghosts A} (analyze : A → Analyzer) (index : IndexState A a) (from to : ℕ) (groups : List (List Document)) (p : PreparedMerge) → Joins analyze index from to groups p
    → AllZip (IsGroup index.schema (analyze index.analyzer)) (members_of index) groups → AllZip (IsGroup index.schema (analyze index.analyzer)) (members_merged index p) (merged from to groups)
merged_in_groups analyze index from to groups p joins are =
    let group = IsGroup index.schema (analyze index.analyzer) in
    let joined = joined_groups from to groups in
    let news = map alive_member (new_in p) in
    let same = zip_replaced group from to news (members_of index) (as_group joined) groups (new_groups index.schema (analyze index.analyzer) p.segment joined joins.of) are in
    subst (λ i. AllZip group (replaced i p.to news (members_of index)) (merged from to groups)) (sym joins.from_is)
    (subst (λ j. AllZip group (replaced from j news (members_of index)) (merged from to groups)) (sym joins.to_is) same)

-- ---- a range

-- the members of a range, by the rows that they stand for
pub record RangeStands {A : Type 0} {a : analyzers.Ghosts A} (analyze : A → Analyzer) (index : IndexState A a) (from to : ℕ) (groups : List (List Document)) : Type 0 where
  pub rows : List alive.Segment
  pub stand : merger.StandFor index.schema (analyze index.analyzer) (zip (take (to - from) (drop from index.segments.items)) (take (to - from) (drop from index.alive.items))) rows
  pub whole : live rows ≡ joined_groups from to groups

pub length-range : {X : Type 0} (from to : ℕ) (xs : List X) → to ≤ length xs → length (take (to - from) (drop from xs)) ≡ to - from
length-range from to xs l =
    let rest = length-drop from xs in
    length-take-le (to - from) (drop from xs) (omega (arith, rest, l))

pub range_stands : {A : Type 0} {a : analyzers.Ghosts A} (analyze : A → Analyzer) (index : IndexState A a) (c : calls.Configuration) (x : calls.Index) (s : Stands analyze index c x) (from to : ℕ) → to ≤ length index.alive.items → RangeStands analyze index from to x.state.groups
range_stands analyze index c x s from to l =
    let cut = analyze index.analyzer in
    let n = to - from in
    let segments = index.segments.items in
    let sets = index.alive.items in
    let within = flagged_within segments sets index.flagged in
    let docs = take n (drop from s.docs) in
    let each : length (take n (drop from sets)) ≡ length (take n (drop from segments)) = length-range from to sets l ∙ sym (length-range from to segments (omega (arith, within, l))) in
    let shown = zip_take (StandsFor index.schema cut) (drop from s.docs) (drop from segments) n (zip_drop (StandsFor index.schema cut) s.docs segments from s.segments) in
    let flags = flagged_take n (drop from segments) (drop from sets) (flagged_drop from segments sets index.flagged) in
    record {
      rows = flagged_each docs (take n (drop from sets));
      stand = stand_for index.schema cut docs (take n (drop from segments)) (take n (drop from sets)) each shown flags;
      whole = ap live (each_within from n s.docs sets) ∙ live_within from to (flagged_each s.docs sets) ∙ ap (joined_groups from to) (sym s.groups);
    }

pub range_opened : {A : Type 0} {a : analyzers.Ghosts A} (index : IndexState A a) (from n : ℕ) → AllByRecursion (IsOpened index.schema) index.segments.items → merger.AreOpened index.schema (zip (take n (drop from index.segments.items)) (take n (drop from index.alive.items)))
range_opened index from n opened =
    let segments = index.segments.items in
    let sets = index.alive.items in
    are_opened index.schema (take n (drop from segments)) (take n (drop from sets)) (all_take (IsOpened index.schema) n (drop from segments) (all_drop (IsOpened index.schema) from segments opened))
    (flagged_take n (drop from segments) (drop from sets) (flagged_drop from segments sets index.flagged))

-- ---- refusals

-- damage is no failure of the device
pub refused_otherwise : (fault : Fault) → (fault ≢ faults.OutOfMemory → fault ≢ faults.Limit → fault ≡ faults.Damaged None) → fault ≢ faults.Device
refused_otherwise fault other is =
    let memory : fault ≢ faults.OutOfMemory = λ e. (let same : faults.OutOfMemory ≡ faults.Device = sym e ∙ is in cc) in
    let limit : fault ≢ faults.Limit = λ e. (let same : faults.Limit ≡ faults.Device = sym e ∙ is in cc) in
    let damaged : faults.Damaged None ≡ faults.Device = sym (other memory limit) ∙ is in cc

-- as many groups as alive sets
pub groups_counted : {A : Type 0} {a : analyzers.Ghosts A} (analyze : A → Analyzer) (index : IndexState A a) (c : calls.Configuration) (x : calls.Index) → Stands analyze index c x → length index.alive.items ≡ length x.state.groups
groups_counted analyze index c x s =
    let sets = index.alive.items in
    let few = sets_within index.schema (analyze index.analyzer) s.docs index.segments.items sets s.segments index.flagged in
    sym (length-each s.docs sets few) ∙ sym (length-map (flagged_each s.docs sets) living) ∙ sym (ap length s.groups)

module _ {A : Type 0} {a : analyzers.Ghosts A} (analyze : A → Analyzer) (index : IndexState A a) (c : calls.Configuration) (x : calls.Index) (s : Stands analyze index c x) (from to : ℕ) (none : calls.status_fault x.status false ≡ None) where
  -- no status refuses it, and its range is tested by how many segments there are
  range_tested : calls.call_fault c x (calls.merge_range from to) ≡ range_fault from to (length index.alive.items)
  range_tested = own_refuses c x (calls.merge_range from to) none ∙ ap (range_fault from to) (sym (groups_counted analyze index c x s))

  -- what tests the range tells what the merge is refused by
  pub range_answered : (count : ℕ) (r : Result ⊤ Fault) → count ≡ length index.alive.items → result_err r ≡ range_fault from to count → calls.call_fault c x (calls.merge_range from to) ≡ result_err r
  range_answered count r counted tested = range_tested ∙ ap (range_fault from to) (sym counted) ∙ sym tested

  -- what a merge leaves that wants memory, or would pass a limit
  pub merge_refused : (fault : Fault) → calls.call_fault c x (calls.merge_range from to) ≡ None → (fault ≢ faults.OutOfMemory → fault ≡ faults.Limit) → calls.Leaves c x (calls.merge_range from to) (Err fault) x
  merge_refused fault taken limit = ⊎_elim
      (λ (memory : fault ≡ faults.OutOfMemory). subst (λ f. calls.Leaves c x (calls.merge_range from to) (Err f) x) (sym memory) (calls.memory_refused none refl))
      (λ (other : fault ≢ faults.OutOfMemory). subst (λ f. calls.Leaves c x (calls.merge_range from to) (Err f) x) (sym (limit other)) (calls.limit_refused taken refl))
      (memory_or_other fault)
