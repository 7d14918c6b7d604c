-- Calls alone: the state that they lead to, and what is left where the last one is cut off.
use Rattle.std.proofs.Common.{[], Err, List, None, Ok, Option, Result, Some, ap, arith, false, inl, inr, refl, subst, sym, true≢false, ◌++◌, ◌-◌, ◌<◌, ◌^◌, ◌∙◌, ◌∷◌, ◌≡◌, ◌≤◌, ◌⊎◌, ⊎_elim, ℕ, ℤ}
use Rattle.std.specs.Prelude.{IsErrOf}
use Rattle.std.proofs.lemmas.List.{append-nil}
use Rattle.std.specs.List.{AllByRecursion}
use Rattle.common.specs.declared.analyzer.Analyzer as analyzers
use Rattle.common.specs.declared.device.Device as devices
use Rattle.definitions.proofs.CallAnswers.{left_answered, left_state}
use Rattle.definitions.specs.Calls as calls
use Rattle.definitions.specs.State.{State}
use Rattle.definitions.specs.Values.{Document}
use Rattle.definitions.specs.declared.fault.Fault.{Fault}
use Rattle.definitions.specs.declared.fault.Fault.TheVariants as faults
use Rattle.definitions.specs.Stored.{Named}
use Rattle.histories.specs.Calls.{done, hits, number, unless_refused}
use Rattle.engine.specs.Indexes.{IndexStands, device_of}
use Rattle.engine.specs.declared.index.Index.{Index}
use Rattle.histories.proofs.Devices.{other_kept}
use Rattle.histories.specs.Events.{Event, IsSmooth, MayLead, Outcome, Standing, all_called, called, cut_off, opened, other_after, other_within, standing_of, state_after}
use Rattle.histories.specs.Leading.{LeadsTo}

abbrev groups_in : calls.Index → List (List Document)
groups_in x = x.state.groups

-- indexes that calls lead to stand for the state after these
pub calls_lead : {D A : Type 0} (d : devices.Ghosts D) (a : analyzers.Ghosts A) (c : calls.Configuration) (s : State) (x : calls.Index) (first last : Index D A d a) (cs : List (calls.Call × Outcome)) → x.state ≡ s → IndexStands a.analyze first c x → LeadsTo d a first (all_called cs) last
    → (y : calls.Index) × (y.state ≡ state_after c s (all_called cs)) × IndexStands a.analyze last c y
calls_lead d a c s x first last [] same stands leads = (x, same, subst (λ index. IndexStands a.analyze index c x) (sym leads) stands)
calls_lead d a c s x first last ((call, Ok answer) ∷ cs) same stands (mid, did, rest) =
    let told = did.stands c x stands in
    let moved = ap (λ (z : calls.Index). z.state) (left_answered c x call told.1 refl).1 ∙ ap (λ (t : State). calls.after c t call) same in
    calls_lead d a c (calls.after c s call) told.0 mid last cs moved told.3 rest
calls_lead d a c s x first last ((call, Err fault) ∷ cs) same stands (mid, did, rest) =
    let told = did.stands c x stands in
    calls_lead d a c s told.0 mid last cs (left_state c x call fault told.1 refl ∙ same) told.3 rest

-- without crashes and failures of the device the file has what is committed
pub smooth_leads : (c : calls.Configuration) (s t : Standing) (events more : List Event) → s.other ≡ s.index.state.groups → AllByRecursion IsSmooth events → MayLead c s (events ++ more) t
    → (r : Standing) × (r.index.state ≡ state_after c s.index.state events) × (r.other ≡ r.index.state.groups) × MayLead c r more t
smooth_leads c s t [] more same smooth leads = (s, refl, same, leads)
smooth_leads c s t (called call (Ok answer) ∷ events) more same smooth (y, leaves, told, rest) =
    let is = (left_answered c s.index call leaves refl).1 in
    let on = smooth_leads c (record { index = y; other = (calls.after c s.index.state call).groups }) t events more (sym (ap groups_in is)) smooth.1 rest in
    (on.0, on.1 ∙ ap (λ (z : calls.Index). state_after c z.state events) is, on.2, on.3)
smooth_leads c s t (called call (Err fault) ∷ events) more same smooth (y, leaves, told, rest) =
    let state = left_state c s.index call fault leaves refl in
    let other = other_kept c s call fault (λ device. smooth.0 (ap Err device)) in
    let on = smooth_leads c (record { index = y; other = other_after c s call (Err fault) }) t events more (other ∙ (same ∙ sym (ap (λ (z : State). z.groups) state))) smooth.1 rest in
    (on.0, on.1 ∙ ap (λ (z : State). state_after c z events) state, on.2, on.3)
smooth_leads c s t (cut_off call ∷ events) more same smooth leads = absurd smooth.0
smooth_leads c s t (opened ∷ events) more same smooth (inl rest) = smooth_leads c (standing_of s.index.state.groups) t events more refl smooth.1 rest
smooth_leads c s t (opened ∷ events) more same smooth (inr rest) =
    smooth_leads c (standing_of s.index.state.groups) t events more refl smooth.1 (subst (λ groups. MayLead c (standing_of groups) (events ++ more) t) same rest)

pub smooth_ends : (c : calls.Configuration) (s t : Standing) (events : List Event) → s.other ≡ s.index.state.groups → AllByRecursion IsSmooth events → MayLead c s events t → t.index.state ≡ state_after c s.index.state events
smooth_ends c s t events same smooth leads =
    let at = smooth_leads c s t events [] same smooth (subst (λ es. MayLead c s es t) (sym (append-nil events)) leads) in
    ap (λ (z : Standing). z.index.state) at.3 ∙ at.1

-- a call that is cut off leaves the groups before it, or those after it
one_of_two : (o : Option Fault) (after other : List (List Document)) → (unless_refused o after other ≡ other) ⊎ (unless_refused o after other ≡ after)
one_of_two None after other = inr refl
one_of_two (Some fault) after other = inl refl

pub cut_leads : (c : calls.Configuration) (r t : Standing) (call : calls.Call) → r.other ≡ r.index.state.groups → MayLead c r (cut_off call ∷ []) t
    → (t ≡ standing_of r.index.state.groups) ⊎ (t ≡ standing_of (calls.after c r.index.state call).groups)
cut_leads c r t call same (inl is) = inl is
cut_leads c r t call same (inr is) = go (one_of_two (calls.call_fault c r.index call) (calls.after c r.index.state call).groups r.other)
  where
    go : (other_within c r call ≡ r.other) ⊎ (other_within c r call ≡ (calls.after c r.index.state call).groups) → (t ≡ standing_of r.index.state.groups) ⊎ (t ≡ standing_of (calls.after c r.index.state call).groups)
    go (inl old) = inl (is ∙ ap standing_of (old ∙ same))
    go (inr new) = inr (is ∙ ap standing_of new)

-- ---- an acknowledged commit

document_groups : (r : Result Document Fault) (s : State) → (calls.after_document r s).groups ≡ s.groups
document_groups (Ok doc) s = refl
document_groups (Err fault) s = refl

-- calls that are no commit and no merge leave the groups
same_groups : (c : calls.Configuration) (s : State) (call : calls.Call) → calls.is_commit call ≡ false → calls.is_merge call ≡ false → (calls.after c s call).groups ≡ s.groups
same_groups c s (calls.add_json text) commit merge = document_groups (calls.document_json c.schema text) s
same_groups c s (calls.add_value d) commit merge = document_groups (calls.document_value c.schema d) s
same_groups c s (calls.add_document doc) commit merge = document_groups (calls.document_given c.schema doc) s
same_groups c s (calls.delete_term t) commit merge = refl
same_groups c s calls.commit_pending commit merge = absurd (true≢false commit)
same_groups c s (calls.merge_range from to) commit merge = absurd (true≢false merge)
same_groups c s (calls.search_best q k) commit merge = refl
same_groups c s (calls.count_all q) commit merge = refl

-- a crash of such a call leaves what the last commit installed
pub commit_outlives : (c : calls.Configuration) (s t : Standing) (call : calls.Call) → calls.is_commit call ≡ false → calls.is_merge call ≡ false → MayLead c s (called calls.commit_pending (Ok done) ∷ cut_off call ∷ []) t
    → t ≡ standing_of (calls.after c s.index.state calls.commit_pending).groups
commit_outlives c s t call commit merge (y, leaves, told, rest) =
    let is = (left_answered c s.index calls.commit_pending leaves refl).1 in
    let groups = (calls.after c s.index.state calls.commit_pending).groups in
    let kept : y.state.groups ≡ groups = ap groups_in is in
    go kept (cut_leads c (record { index = y; other = groups }) t call (sym kept) rest)
  where
    go : y.state.groups ≡ (calls.after c s.index.state calls.commit_pending).groups → (t ≡ standing_of y.state.groups) ⊎ (t ≡ standing_of (calls.after c y.state call).groups) → t ≡ standing_of (calls.after c s.index.state calls.commit_pending).groups
    go kept (inl old) = old ∙ ap standing_of kept
    go kept (inr new) = new ∙ ap standing_of (same_groups c y.state call commit merge ∙ kept)

-- ---- answers

pub same_hits : (one other : List (ℤ × Named)) → hits one ≡ hits other → one ≡ other
same_hits one other e = cc

pub same_number : (m n : ℕ) → number m ≡ number n → m ≡ n
same_number m n e = cc

-- ---- a device that did not fail

-- calls over it are told nothing of it, and it fails no less
pub told_no_failure : {D A : Type 0} (d : devices.Ghosts D) (a : analyzers.Ghosts A) (c : calls.Configuration) (x : calls.Index) (first last : Index D A d a) (cs : List (calls.Call × Outcome)) → IndexStands a.analyze first c x → LeadsTo d a first (all_called cs) last
    → (d.failed (device_of first) ≤ d.failed (device_of last)) × (d.failed (device_of last) ≤ d.failed (device_of first) → d.failed (device_of first) < 2 ^ 64 - 1 → AllByRecursion IsSmooth (all_called cs))
told_no_failure d a c x first last [] stands leads = let same = ap (λ index. d.failed (device_of index)) leads in (omega (arith, same), λ no few. tt)
told_no_failure d a c x first last ((call, outcome) ∷ cs) stands (mid, did, rest) =
    let told = did.stands c x stands in
    let cause = did.cause c x stands in
    let later = cause.later in
    let on = told_no_failure d a c told.0 mid last cs told.3 rest in
    let after = on.0 in (
      omega (arith, later, after),
      λ no few. (
        λ device. ⊎_elim (λ rose. absurd (omega (arith, rose, after, no))) (λ most. absurd (omega (arith, most, few))) (cause.cause (failed_so outcome device)),
        on.1 (omega (arith, no, later)) (omega (arith, few, no, after)),
      ),
    )
  where
    failed_so : (r : Outcome) → r ≡ Err faults.Device → IsErrOf r faults.Device
    failed_so r is = subst (λ q. IsErrOf q faults.Device) (sym is) refl
