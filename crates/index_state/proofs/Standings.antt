-- What an index in memory stands for, as calls are made.
use Rattle.std.proofs.Common.{[], ◌*◌, ◌++◌, ◌+◌, ◌<◌, ◌^◌, ◌∙◌, ◌∷◌, ◌≡◌, ◌≢◌, ◌≤◌, ◌⊎◌, Bool, List, None, Ok, ap, ap₂, append_assoc, arith, drop, false, length, length-append, map, refl, subst, sym, ⊎_elim, ℕ}
use Rattle.std.proofs.lemmas.List.{drop-append-le, drop_all, map-append}
use Rattle.std.specs.List.{AllByRecursion, AllZip}
use Rattle.std.specs.Result.{result_err}
use Rattle.common.specs.declared.analyzer.Analyzer as analyzers
use Rattle.definitions.specs.Alive.{live_groups}
use Rattle.definitions.specs.Analyzers.{Analyzer}
use Rattle.definitions.specs.Calls as calls
use Rattle.definitions.specs.Schema.{Schema}
use Rattle.definitions.specs.Settings.{Settings}
use Rattle.definitions.specs.State as states
use Rattle.definitions.specs.State.{Pending}
use Rattle.definitions.specs.Step.{configuration_of}
use Rattle.definitions.specs.Values.{Document}
use Rattle.document_indexer.specs.Indexed.{IsWithinLimits}
use Rattle.segment.specs.Opened.{IsOpened, StandsFor}
use Rattle.segment.specs.declared.segment.Segment as code
use Rattle.segment_definitions.specs.Slots.{slot}
use Rattle.segment_definitions.specs.Waiting.{Waits}
use Rattle.index_state.proofs.EachFlagged.{each_more}
use Rattle.segment_search.proofs.Flagging.{flagged_more, flagged_within}
use Rattle.segment_search.proofs.RowsRead.{docs_counted}
use Rattle.index_state.proofs.Groups.{HaveFlags}
use Rattle.index_state.proofs.OpenDocs.{open_last}
use Rattle.index_state.proofs.Outcomes.{closed_is_not_ready, own_refuses, writer_is_not_ready}
use Rattle.index_state.proofs.PendingDocs.{given_ok}
use Rattle.definitions.proofs.Lists.{all_push as all_more, zip_length}
use Rattle.index_state.proofs.Waitings.{added_closed, added_open, deleted_more}
use Rattle.index_state.specs.Deletions.{IsSmall, numbered}
use Rattle.index_state.specs.Flags.{AreFlagged, flagged_each}
use Rattle.index_state.specs.Given.{IsGiven}
use Rattle.index_state.specs.Limits.{OneMorePasses, TermsPass}
use Rattle.index_state.specs.Pending.{Holds, HoldsLast, HoldsSome, open_docs}
use Rattle.index_state.specs.Standing.{AddPasses, IsMadeAlike, IsPending, IsWaiting, Stands, status_of}
use Rattle.index_state.specs.declared.deletions.Deletion.{Deletion}
use Rattle.index_state.specs.declared.index_state.IndexState.{IndexState}
use Rattle.index_state.specs.declared.pending_segments.PendingSegments.{PendingSegments}
use Rattle.index_state.specs.declared.status.Status.{Status}
use Rattle.index_state.specs.declared.status.Status.TheVariants as statuses

-- ---- segments that stand for documents

-- each is opened
pub opened_each : (schema : Schema) (analyze : Analyzer) (docs : List (List Document)) (segments : List code.Segment) → AllZip (StandsFor schema analyze) docs segments → AllByRecursion (IsOpened schema) segments
opened_each schema analyze [] [] h = tt
opened_each schema analyze [] (s ∷ segments) h = absurd h
opened_each schema analyze (ds ∷ docs) [] h = absurd h
opened_each schema analyze (ds ∷ docs) (s ∷ segments) h = (h.0.opened, opened_each schema analyze docs segments h.1)

pub have_flags : (schema : Schema) (analyze : Analyzer) (docs : List (List Document)) (segments : List code.Segment) (sets : List (List Bool)) → AllZip (StandsFor schema analyze) docs segments → AreFlagged segments sets → HaveFlags docs sets
have_flags schema analyze docs segments [] h f = tt
have_flags schema analyze [] [] (flags ∷ sets) h f = absurd f
have_flags schema analyze [] (s ∷ segments) (flags ∷ sets) h f = absurd h
have_flags schema analyze (ds ∷ docs) [] (flags ∷ sets) h f = absurd f
have_flags schema analyze (ds ∷ docs) (s ∷ segments) (flags ∷ sets) h f = (f.0 ∙ sym (docs_counted schema analyze ds s h.0), have_flags schema analyze docs segments sets h.1 f.1)

-- no more sets than lists of documents
pub sets_within : (schema : Schema) (analyze : Analyzer) (docs : List (List Document)) (segments : List code.Segment) (sets : List (List Bool)) → AllZip (StandsFor schema analyze) docs segments → AreFlagged segments sets → length sets ≤ length docs
sets_within schema analyze docs segments sets h f =
    let same = zip_length (StandsFor schema analyze) docs segments h in
    let few = flagged_within segments sets f in
    omega (arith, same, few)

-- with segments behind them the sets are of the same ones
pub flagged_behind : (segments more new : List code.Segment) (sets : List (List Bool)) → new ≡ segments ++ more → AreFlagged segments sets → AreFlagged new sets
flagged_behind segments more new sets e f = subst (λ ss. AreFlagged ss sets) (sym e) (flagged_more segments more sets f)

-- ---- statuses

-- a status that all calls are taken in
pub ready_status : (st : Status) → status_of st ≡ calls.ready → st ≡ statuses.Ready
ready_status statuses.Ready e = refl
ready_status statuses.WriterClosed e = absurd (writer_is_not_ready e)
ready_status statuses.Closed e = absurd (closed_is_not_ready e)

-- ---- what is pending

-- what holds these documents holds some
pub holds_some : (schema : Schema) (analyze : Analyzer) (block_size n : ℕ) (pending : PendingSegments) (full : List (List Document)) (last : List Document) → HoldsLast schema analyze block_size n pending full last → HoldsSome schema analyze block_size pending
holds_some schema analyze block_size n pending full last held = ⊎_elim (λ less. (full, last, less.1)) (λ more. (full ++ last ∷ [], [], more.1)) held

-- ---- made of the same

pub alike_then : {A : Type 0} {a : analyzers.Ghosts A} (one two three : IndexState A a) → IsMadeAlike one two → IsMadeAlike two three → IsMadeAlike one three
alike_then one two three first second = record {
  analyzer = second.analyzer ∙ first.analyzer;
  schema = second.schema ∙ first.schema;
  settings = second.settings ∙ first.settings;
}

module _ {A : Type 0} {a : analyzers.Ghosts A} (analyze : A → Analyzer) (old new : IndexState A a) (alike : IsMadeAlike old new) where
  -- what holds of what the index was made of holds of it still
  pub same_made : (P : Schema → A → Settings → Type 0) → P old.schema old.analyzer old.settings → P new.schema new.analyzer new.settings
  same_made P p = subst (λ s. P new.schema new.analyzer s) (sym alike.settings) (subst (λ a. P new.schema a old.settings) (sym alike.analyzer) (subst (λ s. P s old.analyzer old.settings) (sym alike.schema) p))

  -- what is pending, of documents that are held
  pub pending_with : (pending : List Pending) (full : List (List Document)) (last : List Document) → IsWaiting old.settings.docs_per_segment pending full last new.deletions.items → Holds old.schema (analyze old.analyzer) old.settings.block_size new.pending full last → length new.segments.items ≡ length new.alive.items → IsPending analyze new pending
  pending_with pending full last waits holds committed = record {
    full = full;
    last = last;
    waits = same_made (λ schema analyzer settings. IsWaiting settings.docs_per_segment pending full last new.deletions.items) waits;
    holds = same_made (λ schema analyzer settings. Holds schema (analyze analyzer) settings.block_size new.pending full last) holds;
    committed = committed;
  }

  module _ (c : calls.Configuration) (x : calls.Index) (s : Stands analyze old c x) where
    -- with segments of these documents, which stand for these groups, and what is pending
    pub stands_with : (y : calls.Index) (docs : List (List Document)) → AllZip (StandsFor old.schema (analyze old.analyzer)) docs new.segments.items → y.status ≡ status_of new.status → y.state.groups ≡ live_groups (flagged_each docs new.alive.items) → (y.status ≡ calls.ready → IsPending analyze new y.state.pending) → Stands analyze new c y
    stands_with y docs segments status groups pending = record {
      made = same_made (λ schema analyzer settings. c ≡ configuration_of schema (analyze analyzer) settings) s.made;
      status = status;
      sized = same_made (λ schema analyzer settings. 0 < settings.docs_per_segment) s.sized;
      docs = docs;
      segments = same_made (λ schema analyzer settings. AllZip (StandsFor schema (analyze analyzer)) docs new.segments.items) segments;
      groups = groups;
      pending = pending;
    }

    -- the same is pending, beside as many segments as sets
    pub pending_kept : new.pending ≡ old.pending → new.deletions.items ≡ old.deletions.items → length new.segments.items ≡ length new.alive.items → IsPending analyze old x.state.pending → IsPending analyze new x.state.pending
    pending_kept held dels committed p =
        pending_with x.state.pending p.full p.last (subst (λ ds. IsWaiting old.settings.docs_per_segment x.state.pending p.full p.last ds) (sym dels) p.waits)
        (subst (λ h. Holds old.schema (analyze old.analyzer) old.settings.block_size h p.full p.last) (sym held) p.holds) committed

    -- the same segments, and the same is pending
    pub kept_stands : new.status ≡ old.status → new.alive.items ≡ old.alive.items → new.segments.items ≡ old.segments.items → new.pending ≡ old.pending → new.deletions.items ≡ old.deletions.items → Stands analyze new c x
    kept_stands status alive segments held dels =
        stands_with x s.docs (subst (AllZip (StandsFor old.schema (analyze old.analyzer)) s.docs) (sym segments) s.segments)
        (s.status ∙ ap status_of (sym status)) (s.groups ∙ ap (λ sets. live_groups (flagged_each s.docs sets)) (sym alive))
        (λ ready. (let p = s.pending ready in pending_kept held dels (ap length segments ∙ p.committed ∙ sym (ap length alive)) p))

    -- a status in which no more changes are taken, with the same sets
    pub stands_stopped : (status : calls.Status) → status ≢ calls.ready → status ≡ status_of new.status → new.alive.items ≡ old.alive.items → (docs : List (List Document)) → AllZip (StandsFor old.schema (analyze old.analyzer)) docs new.segments.items → x.state.groups ≡ live_groups (flagged_each docs old.alive.items) → Stands analyze new c (record { state = x.state; status = status })
    stands_stopped status other is alive docs segments groups =
        stands_with (record { state = x.state; status = status }) docs segments is (groups ∙ ap (λ sets. live_groups (flagged_each docs sets)) (sym alive)) (λ ready. absurd (other ready))

-- ---- an add

module _ {A : Type 0} {a : analyzers.Ghosts A} (analyze : A → Analyzer) (old : IndexState A a) (c : calls.Configuration) (x : calls.Index) (s : Stands analyze old c x) (doc : Document) (given : IsGiven old.schema doc) where
  made_given : calls.document_given c.schema doc ≡ Ok doc
  made_given = ap (λ (k : calls.Configuration). calls.document_given k.schema doc) s.made ∙ given_ok old.schema doc given

  -- no test refuses it
  pub add_taken : calls.status_fault x.status false ≡ None → calls.call_fault c x (calls.add_document doc) ≡ None
  add_taken ready = own_refuses c x (calls.add_document doc) ready ∙ ap result_err made_given

  -- the document waits
  pub add_waits : calls.after c x.state (calls.add_document doc) ≡ states.after_add doc x.state
  add_waits = ap (λ r. calls.after_document r x.state) made_given

  module _ (new : IndexState A a) (alike : IsMadeAlike old new) (status : new.status ≡ old.status) (alive : new.alive.items ≡ old.alive.items) (dels : new.deletions.items ≡ old.deletions.items) where
    -- in the segment that isn't full, or it fills that
    pub added_stands : (p : IsPending analyze old x.state.pending) → new.segments.items ≡ old.segments.items → HoldsLast old.schema (analyze old.analyzer) old.settings.block_size old.settings.docs_per_segment new.pending p.full (p.last ++ doc ∷ []) → Stands analyze new c (record { state = calls.after c x.state (calls.add_document doc); status = x.status })
    added_stands p segments held =
        let n = old.settings.docs_per_segment in
        let y : calls.Index = record { state = states.after_add doc x.state; status = x.status } in
        let numbers = map (numbered n) old.deletions.items in
        let pending = y.state.pending in
        let committed = ap length segments ∙ p.committed ∙ sym (ap length alive) in
        let open_waits : (length (p.last ++ doc ∷ []) < n) → IsWaiting n pending p.full (p.last ++ doc ∷ []) old.deletions.items = λ less. record { waits = added_open n x.state.pending p.full p.last numbers p.waits.waits doc less; small = p.waits.small } in
        let full_waits : (n ≤ length (p.last ++ doc ∷ [])) → IsWaiting n pending (p.full ++ (p.last ++ doc ∷ []) ∷ []) [] old.deletions.items = λ more. record { waits = added_closed n x.state.pending p.full p.last numbers p.waits.waits doc more; small = p.waits.small } in
        let waiting : IsPending analyze new pending = ⊎_elim
        (λ less. pending_with analyze old new alike pending p.full (p.last ++ doc ∷ []) (subst (λ ds. IsWaiting n pending p.full (p.last ++ doc ∷ []) ds) (sym dels) (open_waits less.0)) less.1 committed)
        (λ more. pending_with analyze old new alike pending (p.full ++ (p.last ++ doc ∷ []) ∷ []) [] (subst (λ ds. IsWaiting n pending (p.full ++ (p.last ++ doc ∷ []) ∷ []) [] ds) (sym dels) (full_waits more.0)) more.1 committed)
        held in
        subst (λ (t : states.State). Stands analyze new c (record { state = t; status = x.status })) (sym add_waits)
        (stands_with analyze old new alike c x s y s.docs (subst (λ ss. AllZip (StandsFor old.schema (analyze old.analyzer)) s.docs ss) (sym segments) s.segments)
        (s.status ∙ ap status_of (sym status)) (s.groups ∙ ap (λ sets. live_groups (flagged_each s.docs sets)) (sym alive)) (λ _. waiting))

-- a limit that an index of these documents meets is one that an add meets
pub add_passes : {A : Type 0} {a : analyzers.Ghosts A} (analyze : A → Analyzer) (old : IndexState A a) (c : calls.Configuration) (x : calls.Index) (s : Stands analyze old c x) (p : IsPending analyze old x.state.pending) (doc : Document)
    → (2 ^ 32 ≤ old.settings.block_size + length (slot old.schema doc) + 8) ⊎ OneMorePasses old.schema (analyze old.analyzer) old.settings.docs_per_segment p.last doc → AddPasses c x.state old doc
add_passes analyze old c x s p doc passes =
    let last_are = open_last old.settings.docs_per_segment x.state.pending p.full p.last (map (numbered old.settings.docs_per_segment) old.deletions.items) p.waits.waits in
    let long = 2 ^ 32 ≤ old.settings.block_size + length (slot old.schema doc) + 8 in
    subst (λ (m : calls.Configuration). long ⊎ OneMorePasses m.schema m.analyze m.docs_per_segment (open_docs m.docs_per_segment x.state.pending) doc) (sym s.made)
    (subst (λ ds. long ⊎ OneMorePasses old.schema (analyze old.analyzer) old.settings.docs_per_segment ds doc) (sym last_are) passes)

-- one that an add takes is within the limits
pub add_within : {A : Type 0} {a : analyzers.Ghosts A} (analyze : A → Analyzer) (old : IndexState A a) (c : calls.Configuration) (x : calls.Index) (s : Stands analyze old c x) (p : IsPending analyze old x.state.pending) (doc : Document)
    → IsWithinLimits old.schema (analyze old.analyzer) p.last doc → IsWithinLimits c.schema c.analyze (open_docs c.docs_per_segment x.state.pending) doc
add_within analyze old c x s p doc within =
    let last_are = open_last old.settings.docs_per_segment x.state.pending p.full p.last (map (numbered old.settings.docs_per_segment) old.deletions.items) p.waits.waits in
    subst (λ (m : calls.Configuration). IsWithinLimits m.schema m.analyze (open_docs m.docs_per_segment x.state.pending) doc) (sym s.made)
    (subst (λ ds. IsWithinLimits old.schema (analyze old.analyzer) ds doc) (sym last_are) within)

-- documents that are too much for the terms of a segment are those of the one that isn't full
pub terms_pass : {A : Type 0} {a : analyzers.Ghosts A} (analyze : A → Analyzer) (old : IndexState A a) (c : calls.Configuration) (x : calls.Index) (s : Stands analyze old c x) (p : IsPending analyze old x.state.pending)
    → TermsPass old.schema (analyze old.analyzer) p.last → TermsPass c.schema c.analyze (open_docs c.docs_per_segment x.state.pending)
terms_pass analyze old c x s p passes =
    let last_are = open_last old.settings.docs_per_segment x.state.pending p.full p.last (map (numbered old.settings.docs_per_segment) old.deletions.items) p.waits.waits in
    subst (λ (m : calls.Configuration). TermsPass m.schema m.analyze (open_docs m.docs_per_segment x.state.pending)) (sym s.made)
    (subst (λ ds. TermsPass old.schema (analyze old.analyzer) ds) (sym last_are) passes)

-- ---- a deletion

-- a deletion more waits
pub deleted_stands : {A : Type 0} {a : analyzers.Ghosts A} (analyze : A → Analyzer) (old new : IndexState A a) (alike : IsMadeAlike old new) (c : calls.Configuration) (x : calls.Index) (s : Stands analyze old c x) (p : IsPending analyze old x.state.pending) (d : Deletion)
    → new.status ≡ old.status → new.alive.items ≡ old.alive.items → new.segments.items ≡ old.segments.items → new.pending ≡ old.pending → new.deletions.items ≡ old.deletions.items ++ d ∷ []
    → d.segments ≡ length p.full → d.docs ≡ length p.last → (t : List ℕ) → d.term ≡ t
    → Stands analyze new c (record { state = calls.after c x.state (calls.delete_term t); status = x.status })
deleted_stands analyze old new alike c x s p d status alive segments held dels before docs t named =
    let n = old.settings.docs_per_segment in
    let w = p.waits in
    let y : calls.Index = record { state = states.after_delete d.term x.state; status = x.status } in
    let number : n * length p.full + length p.last ≡ n * d.segments + d.docs = ap₂ (λ (a b : ℕ). n * a + b) (sym before) (sym docs) in
    let more = ap (λ k. map (numbered n) old.deletions.items ++ (d.term, k) ∷ []) number ∙ sym (map-append (numbered n) old.deletions.items (d ∷ [])) in
    let short = w.waits.short in
    let waits = subst (Waits n y.state.pending p.full p.last) more (deleted_more n x.state.pending p.full p.last (map (numbered n) old.deletions.items) w.waits d.term) in
    let one : IsWaiting n y.state.pending p.full p.last (old.deletions.items ++ d ∷ []) = record { waits = waits; small = all_more (IsSmall n) old.deletions.items d w.small (omega (arith, short, docs)) } in
    let waiting : IsPending analyze new y.state.pending = pending_with analyze old new alike y.state.pending p.full p.last (subst (λ ds. IsWaiting n y.state.pending p.full p.last ds) (sym dels) one)
    (subst (λ h. Holds old.schema (analyze old.analyzer) old.settings.block_size h p.full p.last) (sym held) p.holds) (ap length segments ∙ p.committed ∙ sym (ap length alive)) in
    subst (λ u. Stands analyze new c (record { state = calls.after c x.state (calls.delete_term u); status = x.status })) named
    (stands_with analyze old new alike c x s y s.docs (subst (λ ss. AllZip (StandsFor old.schema (analyze old.analyzer)) s.docs ss) (sym segments) s.segments)
    (s.status ∙ ap status_of (sym status)) (s.groups ∙ ap (λ sets. live_groups (flagged_each s.docs sets)) (sym alive)) (λ _. waiting))

-- ---- all documents of a commit

-- What segments are of once what is pending is closed: the documents of committed and of full segments, and those of the
-- one that isn't full.
pub record AllDocs {A : Type 0} {a : analyzers.Ghosts A} (index : IndexState A a) (state : states.State) : Type 0 where
  pub docs : List (List Document)
  pub last : List Document
  pub few : length index.alive.items ≤ length docs
  pub groups : state.groups ≡ live_groups (flagged_each docs index.alive.items)
  pub waiting : IsWaiting index.settings.docs_per_segment state.pending (drop (length index.alive.items) docs) last index.deletions.items

-- segments behind the committed ones change no group
pub groups_more : {A : Type 0} {a : analyzers.Ghosts A} (analyze : A → Analyzer) (old : IndexState A a) (c : calls.Configuration) (x : calls.Index) (s : Stands analyze old c x) (more : List (List Document)) → length old.alive.items ≤ length s.docs → x.state.groups ≡ live_groups (flagged_each (s.docs ++ more) old.alive.items)
groups_more analyze old c x s more few = s.groups ∙ ap live_groups (sym (each_more s.docs more old.alive.items few))

pub all_docs : {A : Type 0} {a : analyzers.Ghosts A} (analyze : A → Analyzer) (old : IndexState A a) (c : calls.Configuration) (x : calls.Index) (s : Stands analyze old c x) (p : IsPending analyze old x.state.pending) → AllDocs old x.state
all_docs analyze old c x s p =
    let sets = old.alive.items in
    let each : length s.docs ≡ length sets = zip_length (StandsFor old.schema (analyze old.analyzer)) s.docs old.segments.items s.segments ∙ p.committed in
    let few : length sets ≤ length s.docs = omega (arith, each) in
    let behind : drop (length sets) (s.docs ++ p.full) ≡ p.full = drop-append-le (length sets) s.docs p.full few ∙ ap (λ ds. ds ++ p.full) (drop_all (length sets) s.docs (omega (arith, each))) in
    let both = length-append s.docs p.full in
    record {
      docs = s.docs ++ p.full;
      last = p.last;
      few = omega (arith, both, few);
      groups = groups_more analyze old c x s p.full few;
      waiting = subst (λ full. IsWaiting old.settings.docs_per_segment x.state.pending full p.last old.deletions.items) (sym behind) p.waits;
    }

-- segments that were opened behind the committed ones are of all documents
pub all_opened_for : {A : Type 0} {a : analyzers.Ghosts A} (analyze : A → Analyzer) (old : IndexState A a) (c : calls.Configuration) (x : calls.Index) (s : Stands analyze old c x) (p : IsPending analyze old x.state.pending) (segments : List code.Segment)
    → AllZip (StandsFor old.schema (analyze old.analyzer)) (s.docs ++ (p.full ++ states.as_group p.last)) segments
    → AllZip (StandsFor old.schema (analyze old.analyzer)) ((all_docs analyze old c x s p).docs ++ states.as_group (all_docs analyze old c x s p).last) segments
unfolding all_docs
all_opened_for analyze old c x s p segments h = subst (λ ds. AllZip (StandsFor old.schema (analyze old.analyzer)) ds segments) (sym (append_assoc s.docs p.full (states.as_group p.last))) h

-- the documents of all of them, one after another
pub all_docs_are : {A : Type 0} {a : analyzers.Ghosts A} (analyze : A → Analyzer) (old : IndexState A a) (c : calls.Configuration) (x : calls.Index) (s : Stands analyze old c x) (p : IsPending analyze old x.state.pending)
    → (all_docs analyze old c x s p).docs ++ states.as_group (all_docs analyze old c x s p).last ≡ s.docs ++ (p.full ++ states.as_group p.last)
unfolding all_docs
all_docs_are analyze old c x s p = append_assoc s.docs p.full (states.as_group p.last)
