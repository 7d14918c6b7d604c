-- What a line asks of what stands.
use Rattle.std.proofs.Common.{[], Bool, Err, IfErr, IsTrue, List, None, Ok, OnOk, Option, Result, Some, refl, subst, sym, true≢false, ◌≡◌, ◌≢◌, ℕ}
use Rattle.common.specs.declared.analyzer.Analyzer as analyzers
use Rattle.common.specs.declared.device.Device as devices
use Rattle.definitions.specs.Analyzers.{Analyzer}
use Rattle.definitions.specs.Moments.{LeavesOnly}
use Rattle.definitions.specs.Requests as requests
use Rattle.engine.specs.Files.{IsOldOrSame, LeavesNone, is_first}
use Rattle.engine.specs.Indexes.{device_after}
use Rattle.engine.specs.declared.index.Index.{Index}
use Rattle.engine.specs.declared.refused_opening.Refused.{Refused}
use Rattle.index_file.specs.Kept.{IsKept, LeavesNow}
use Rattle.index.specs.Asking.{AsksIndex, AsksOf, Creates, CreatesOf, IsUnready, Opens, OpensOf, nothing, of_index, to_create, to_open}
use Rattle.index.specs.Sessions.{device_on, honest_on, stage_after}
use Rattle.index.specs.declared.stage.Stage.{Stage}
use Rattle.index.specs.declared.stage.Stage.TheVariants.{Standing}
use Rattle.layouts.specs.RecordFiles.{IsFresh}
use Rattle.serde_json.specs.Data as json

module _ {D A : Type 0} {d : devices.Ghosts D} {an : analyzers.Ghosts A} (knows : A → List ℕ → Bool) (analyze : A → Analyzer) where
  -- nothing was asked of what stands
  pub same_asks : (o : Option (Stage D A d an)) (asked : Option requests.Request) → IsTrue (honest_on o) → AsksOf knows analyze o o asked
  same_asks None asked honest = absurd (true≢false (sym honest))
  same_asks (Some stage) asked honest = nothing asked refl

  -- something was asked of the index
  pub index_asks : (old new : Index D A d an) (before after : Option (Stage D A d an)) (r : requests.Request) → before ≡ Some (Standing old) → after ≡ Some (Standing new) → AsksIndex analyze old new r → AsksOf knows analyze before after (Some r)
  index_asks old new before after r was is asks =
      subst (λ o. AsksOf knows analyze o after (Some r)) (sym was) (subst (λ o. AsksOf knows analyze (Some (Standing old)) o (Some r)) (sym is) (of_index old new r refl refl asks))

  -- an index was to be made, or opened
  pub create_asks : (before after : Option (Stage D A d an)) (schema : json.Data) (settings : Option json.Data) → ((old : Stage D A d an) → before ≡ Some old → IsUnready knows analyze old) → CreatesOf before after → AsksOf knows analyze before after (Some (requests.create_index schema settings))
  create_asks None after schema settings unready creates = absurd creates
  create_asks (Some old) None schema settings unready creates = absurd creates
  create_asks (Some old) (Some new) schema settings unready creates = to_create schema settings (unready old refl) creates

  pub open_asks : (before after : Option (Stage D A d an)) → ((old : Stage D A d an) → before ≡ Some old → IsUnready knows analyze old) → OpensOf before after → AsksOf knows analyze before after (Some requests.open_index)
  open_asks None after unready opens = absurd opens
  open_asks (Some old) None unready opens = absurd opens
  open_asks (Some old) (Some new) unready opens = to_open (unready old refl) opens

-- the device of what stands after an outcome
pub device_stays : {D A : Type 0} {d : devices.Ghosts D} {an : analyzers.Ghosts A} (outcome : Result (Index D A d an) (Refused D A)) → device_on (stage_after outcome) ≡ device_after outcome
device_stays (Ok index) = refl
device_stays (Err refused) = refl

-- and of a create
pub creates_of : {D A : Type 0} {d : devices.Ghosts D} {an : analyzers.Ghosts A} (old : Stage D A d an) (device : D) (outcome : Result (Index D A d an) (Refused D A)) → device ≡ device_on old
    → (IsTrue (d.honest device) → OnOk outcome (d.content device ≡ []))
    → (IsTrue (d.honest device) → d.content device ≢ [] → IfErr outcome (λ r. IsKept d.moment d.left_since d.content d.unsynced device r.device))
    → (IsTrue (d.honest device) → LeavesNow d.content d.unsynced device (IsFresh is_first) → LeavesOnly d.moment d.left_since device (device_after outcome) (IsFresh is_first))
    → ((cut : Analyzer) → IsTrue (d.honest device) → LeavesNow d.content d.unsynced device (LeavesNone cut) → LeavesOnly d.moment d.left_since device (device_after outcome) (LeavesNone cut)) → Creates old (stage_after outcome)
creates_of {D = D} {A = A} {d = d} {an = an} old device outcome same empty stays fresh none = record {
  stays =
      subst (λ (e : D). IsTrue (d.honest e) → d.content e ≢ [] → IsKept d.moment d.left_since d.content d.unsynced e (device_on (stage_after outcome))) same (kept outcome empty stays);
  fresh =
      subst (λ (e : D). IsTrue (d.honest e) → LeavesNow d.content d.unsynced e (IsFresh is_first) → LeavesOnly d.moment d.left_since e (device_on (stage_after outcome)) (IsFresh is_first)) same
      (λ h now. subst (λ (e : D). LeavesOnly d.moment d.left_since device e (IsFresh is_first)) (sym (device_stays outcome)) (fresh h now));
  none =
      λ cut.
      subst (λ (e : D). IsTrue (d.honest e) → LeavesNow d.content d.unsynced e (LeavesNone cut) → LeavesOnly d.moment d.left_since e (device_on (stage_after outcome)) (LeavesNone cut)) same
      (λ h now. subst (λ (e : D). LeavesOnly d.moment d.left_since device e (LeavesNone cut)) (sym (device_stays outcome)) (none cut h now));
}
  where
    kept : (o : Result (Index D A d an) (Refused D A)) → (IsTrue (d.honest device) → OnOk o (d.content device ≡ [])) → (IsTrue (d.honest device) → d.content device ≢ [] → IfErr o (λ r. IsKept d.moment d.left_since d.content d.unsynced device r.device))
        → IsTrue (d.honest device) → d.content device ≢ [] → IsKept d.moment d.left_since d.content d.unsynced device (device_on (stage_after o))
    kept (Ok index) empty stays h some = absurd (some (empty h))
    kept (Err r) empty stays h some = stays h some

-- and of an opening
pub opens_of : {D A : Type 0} {d : devices.Ghosts D} {an : analyzers.Ghosts A} (old : Stage D A d an) (device : D) (outcome : Result (Index D A d an) (Refused D A)) → device ≡ device_on old
    → (IsTrue (d.honest device) → LeavesOnly d.moment d.left_since device (device_after outcome) (IsOldOrSame d.content d.unsynced device)) → Opens old (stage_after outcome)
opens_of {D = D} {d = d} old device outcome same opens =
    subst (λ (e : D). IsTrue (d.honest e) → LeavesOnly d.moment d.left_since e (device_on (stage_after outcome)) (IsOldOrSame d.content d.unsynced e)) same
    (λ h. subst (λ (e : D). LeavesOnly d.moment d.left_since device e (IsOldOrSame d.content d.unsynced device)) (sym (device_stays outcome)) (opens h))
