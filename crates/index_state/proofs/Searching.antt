-- What searches over an index see.
use Rattle.std.proofs.Common.{[], Bool, Err, IfOk, List, None, Ok, Result, Some, ap, flat_map, length, subst, sym, ◌∙◌, ◌∷◌, ◌≡◌}
use Rattle.std.proofs.lemmas.List.{length-map, with_items_is}
use Rattle.std.specs.List.{AllZip}
use Rattle.std.specs.Vec.{with_items, vec_len}
use Rattle.std.proofs.Common.{Vec}
use Rattle.common.specs.declared.analyzer.Analyzer as analyzers
use Rattle.definitions.specs.Alive.{Segment, live}
use Rattle.definitions.specs.Analyzers.{Analyzer}
use Rattle.definitions.specs.Calls as calls
use Rattle.definitions.specs.Query.{Query}
use Rattle.definitions.specs.Refusing.{refusal}
use Rattle.definitions.specs.Schema.{Schema}
use Rattle.definitions.specs.Settings.{similarity_of}
use Rattle.definitions.specs.State as states
use Rattle.definitions.specs.Values.{Document}
use Rattle.definitions.specs.declared.fault.Fault.{Fault}
use Rattle.segment.specs.Opened.{StandsFor, bytes_of}
use Rattle.segment.specs.declared.segment.Segment as code
use Rattle.segment_definitions.specs.Segments.{IsSegmentOf}
use Rattle.segment_search.proofs.RowsRead.{docs_counted, documents_flagged, flags_flagged}
use Rattle.segment_search.specs.Hits.{KeepsSegments}
use Rattle.index_state.specs.DecodedBlocks.{HasRows}
use Rattle.index_state.specs.Flags.{AreFlagged, flagged_each, members}
use Rattle.index_state.specs.Standing.{Stands}
use Rattle.index_state.specs.declared.index_state.IndexState.{IndexState}
use Rattle.segment_definitions.proofs.Merges.{live_joined as live_in_groups}

-- what follows of two things that hold of an answer
pub ok_both : {T E : Type 0} (r : Result T E) (P Q R : T → Type 0) → ((x : T) → P x → Q x → R x) → IfOk r P → IfOk r Q → IfOk r R
ok_both (Ok x) P Q R f p q = f x p q
ok_both (Err e) P Q R f p q = tt

-- segments that are read are as many
pub segments_counted : (old new : List code.Segment) → KeepsSegments old new → length new ≡ length old
segments_counted old new kept = sym (length-map new bytes_of) ∙ ap length kept.bytes ∙ length-map old bytes_of

-- and stand where they stood
pub segments_held : {Z : Type 0} (v : Vec code.Segment Z) (old new : List code.Segment) → length old ≡ vec_len v → KeepsSegments old new → (with_items v new).items ≡ new
segments_held v old new long kept = with_items_is v new (segments_counted old new kept ∙ long)

module _ {A : Type 0} {a : analyzers.Ghosts A} (analyze : A → Analyzer) (index : IndexState A a) (c : calls.Configuration) (x : calls.Index) (s : Stands analyze index c x) where
  -- the living documents of its segments are those that are committed
  pub live_committed : live (flagged_each s.docs index.alive.items) ≡ states.committed x.state
  live_committed = live_in_groups (flagged_each s.docs index.alive.items) ∙ ap (flat_map (λ group. group)) (sym s.groups)

  module _ (q : Query) where
    -- a query that is accepted, or refused, is so by what the index is made of
    pub query_taken : refusal index.schema (similarity_of index.settings).weight q ≡ None → refusal c.schema c.similarity.weight q ≡ None
    query_taken none = subst (λ (m : calls.Configuration). refusal m.schema m.similarity.weight q ≡ None) (sym s.made) none

    pub query_refused : (fault : Fault) → refusal index.schema (similarity_of index.settings).weight q ≡ Some fault → refusal c.schema c.similarity.weight q ≡ Some fault
    query_refused fault some = subst (λ (m : calls.Configuration). refusal m.schema m.similarity.weight q ≡ Some fault) (sym s.made) some

-- ---- segments with their flags

-- the bytes of the first segments, each with its flags, are of the rows of their documents
pub members_rows : (schema : Schema) (analyze : Analyzer) (docs : List (List Document)) (segments : List code.Segment) (sets : List (List Bool)) → AllZip (StandsFor schema analyze) docs segments → AreFlagged segments sets → AllZip (HasRows schema analyze) (flagged_each docs sets) (members segments sets)
members_rows schema analyze docs [] [] h f = tt
members_rows schema analyze docs (s ∷ segments) [] h f = tt
members_rows schema analyze docs [] (flags ∷ sets) h f = absurd f
members_rows schema analyze [] (s ∷ segments) (flags ∷ sets) h f = absurd h
members_rows schema analyze (ds ∷ docs) (s ∷ segments) (flags ∷ sets) h f =
    let long = f.0 ∙ sym (docs_counted schema analyze ds s h.0) in
    ((subst (λ xs. IsSegmentOf schema analyze xs (bytes_of s)) (sym (documents_flagged ds flags long)) h.0.bytes_are, flags_flagged ds flags long), members_rows schema analyze docs segments sets h.1 f.1)
