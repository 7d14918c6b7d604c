-- What holds of any index, whatever documents its segments are of.
use Rattle.std.proofs.Common.{[], ◌+◌, ◌∙◌, ◌∷◌, ◌≡◌, ◌≢◌, ◌⊎◌, Bool, Err, List, None, Ok, OnErr, OnOk, Option, Result, ap, arith, false, fold, inl, inr, length, map, refl, subst, sum_by, sym, ℕ}
use Rattle.std.proofs.lemmas.List.{length-map}
use Rattle.std.specs.Bool.{⊤}
use Rattle.std.specs.Result.{IsErrAnd, result_err}
use Rattle.common.specs.BitSets.{count_set}
use Rattle.common.specs.declared.analyzer.Analyzer as analyzers
use Rattle.definitions.specs.Analyzers.{Analyzer}
use Rattle.definitions.specs.Calls as calls
use Rattle.definitions.specs.Query.{Query}
use Rattle.definitions.specs.Refusing.{refusal}
use Rattle.definitions.specs.Settings.{similarity_of}
use Rattle.definitions.specs.declared.fault.Fault.{Fault}
use Rattle.definitions.specs.declared.fault.Fault.TheVariants as faults
use Rattle.segment.specs.Opened.{bytes_of}
use Rattle.segment.specs.declared.segment.Segment as code
use Rattle.segment_definitions.specs.ListBodies.{Member}
use Rattle.segment_search.proofs.Flagging.{flagged_within}
use Rattle.index_state.proofs.BodyMade.{length-zip}
use Rattle.index_state.proofs.Outcomes.{own_refuses}
use Rattle.index_state.proofs.Standings.{alike_then}
use Rattle.index_state.specs.Flags.{AreFlagged, members}
use Rattle.index_state.specs.Merges.{range_fault}
use Rattle.index_state.specs.Standing.{IsShadow, IsStopped, living_in}
use Rattle.index_state.specs.declared.index_state.IndexState.{IndexState}

-- ---- members

-- one for each alive set
pub members_counted : (segments : List code.Segment) (sets : List (List Bool)) → AreFlagged segments sets → length (members segments sets) ≡ length sets
members_counted segments sets f =
    let few = flagged_within segments sets f in
    let long = length-map segments bytes_of in
    length-zip (map bytes_of segments) sets (omega (arith, few, long))

living_from : (n : ℕ) (segments : List code.Segment) (sets : List (List Bool)) → AreFlagged segments sets → fold (λ a (m : Member). a + count_set m.1) n (members segments sets) ≡ fold (λ a flags. a + count_set flags) n sets
living_from n [] [] f = refl
living_from n (s ∷ segments) [] f = refl
living_from n [] (flags ∷ sets) f = absurd f
living_from n (s ∷ segments) (flags ∷ sets) f = living_from (n + count_set flags) segments sets f.1

-- their documents that are alive, by the alive sets
pub members_living : (segments : List code.Segment) (sets : List (List Bool)) → AreFlagged segments sets → living_in (members segments sets) ≡ sum_by count_set sets
members_living segments sets f = living_from 0 segments sets f

-- ---- refusals

-- what holds holds of an error
pub on_err : {T : Type 0} (r : Result T Fault) (P : Type 0) → P → OnErr r P
on_err (Ok u) P p = tt
on_err (Err e) P p = p

-- an error isn't Ok
pub not_ok : {T : Type 0} (r : Result T Fault) (fault : Fault) (P : Type 0) → IsErrAnd r (λ e. e ≡ fault) → OnOk r P
not_ok (Ok u) fault P is = absurd is
not_ok (Err e) fault P is = tt

-- what a status refuses by is neither memory that ran out nor a limit
pub no_want : (fault : Fault) → (fault ≡ faults.WriterClosed) ⊎ (fault ≡ faults.Closed) → (fault ≡ faults.OutOfMemory) ⊎ (fault ≡ faults.Limit) → ⊥
no_want fault (inl is) (inl want) = let e : faults.WriterClosed ≡ faults.OutOfMemory = sym is ∙ want in cc
no_want fault (inl is) (inr want) = let e : faults.WriterClosed ≡ faults.Limit = sym is ∙ want in cc
no_want fault (inr is) (inl want) = let e : faults.Closed ≡ faults.OutOfMemory = sym is ∙ want in cc
no_want fault (inr is) (inr want) = let e : faults.Closed ≡ faults.Limit = sym is ∙ want in cc

-- no failure of the device is among these
pub no_device : (fault : Fault) → (fault ≡ faults.OutOfMemory) ⊎ (fault ≡ faults.Limit) ⊎ (fault ≡ faults.WriterClosed) ⊎ (fault ≡ faults.Closed) → fault ≢ faults.Device
no_device fault (inl is) device = let e : faults.OutOfMemory ≡ faults.Device = sym is ∙ device in cc
no_device fault (inr (inl is)) device = let e : faults.Limit ≡ faults.Device = sym is ∙ device in cc
no_device fault (inr (inr (inl is))) device = let e : faults.WriterClosed ≡ faults.Device = sym is ∙ device in cc
no_device fault (inr (inr (inr is))) device = let e : faults.Closed ≡ faults.Device = sym is ∙ device in cc

-- an index that was stopped is stopped again, maybe in another status
pub stopped_then : {A : Type 0} {a : analyzers.Ghosts A} (first second third : calls.Status) (one two three : IndexState A a) → IsStopped first one two → IsStopped second two three → second ≡ third → IsStopped third one three
stopped_then first second third one two three before after is = record {
  made = alike_then one two three before.made after.made;
  members = after.members ∙ before.members;
  stopped = after.stopped ∙ is;
}

-- ---- by a shadow

module _ {A : Type 0} {a : analyzers.Ghosts A} (analyze : A → Analyzer) (index : IndexState A a) (c : calls.Configuration) (x : calls.Index) (s : IsShadow analyze index c x) where
  -- what is refused, or accepted, of what the index is made of is so of its configuration
  pub query_by : (q : Query) (o : Option Fault) → refusal index.schema (similarity_of index.settings).weight q ≡ o → refusal c.schema c.similarity.weight q ≡ o
  query_by q o is = subst (λ (m : calls.Configuration). refusal m.schema m.similarity.weight q ≡ o) (sym s.made) is

  -- what tests a range by the number of segments tells what the merge is refused by
  pub range_by : (from to count : ℕ) (r : Result ⊤ Fault) → calls.status_fault x.status false ≡ None → count ≡ length index.alive.items → result_err r ≡ range_fault from to count → calls.call_fault c x (calls.merge_range from to) ≡ result_err r
  range_by from to count r none counted tested =
      let groups : length x.state.groups ≡ count = s.counted ∙ members_counted index.segments.items index.alive.items index.flagged ∙ sym counted in
      own_refuses c x (calls.merge_range from to) none ∙ ap (range_fault from to) groups ∙ sym tested
