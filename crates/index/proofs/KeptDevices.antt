-- When the device of a session is as it was.
use Rattle.std.proofs.Common.{Err, IfErr, IfOk, IsTrue, List, None, Ok, OnOk, Option, Result, Some, refl, subst, sym, true, true≢false, ◌≡◌, ◌≢◌, ℕ}
use Rattle.std.specs.Bool.{⊤}
use Rattle.std.specs.Cow.{cow_str_bytes}
use Rattle.std.specs.declared.borrow.CowStr.{CowStr}
use Rattle.common.specs.declared.analyzer.Analyzer as analyzers
use Rattle.common.specs.declared.device.Device as devices
use Rattle.definitions.specs.Disk.{IsImage}
use Rattle.definitions.specs.Requests.{Request}
use Rattle.definitions.specs.declared.fault.Fault.{Fault}
use Rattle.definitions.specs.declared.fault.Fault.TheVariants as faults
use Rattle.engine.specs.Indexes.{KeepsFile, device_of}
use Rattle.engine.specs.declared.index.Index.{Index}
use Rattle.index.specs.Replying.{GoesOn, IsUnwritten, change_text, may_write}
use Rattle.index.specs.Sessions.{KeepsDevice, device_on, honest_on}
use Rattle.index.specs.declared.stage.Stage.{Stage}
use Rattle.index.specs.declared.stage.Stage.TheVariants.{Standing}
use Rattle.index.proofs.Answering.{going_on}
use Rattle.index_file.proofs.Openings.{same_device}
use Rattle.index_file.specs.Kept.{IsKept}

-- where the reply doesn't tell that a change was done, what its errors but `Device` keep is kept
pub unwritten_change : {Z : Type 0} (asked : Option Request) (change : Result ⊤ Fault) (result : Result (CowStr Z) Fault) (P : Type 0) → may_write asked ≡ true → IfOk result (λ text. cow_str_bytes text ≡ change_text change) → OnOk result (GoesOn change)
    → IfErr result (λ e. change ≡ Err e) → IfErr change (λ fault. fault ≢ faults.Device → P) → IsUnwritten asked result → P
unwritten_change asked change (Err e) P writes told on same kept unwritten = (subst (λ (ch : Result ⊤ Fault). IfErr ch (λ fault. fault ≢ faults.Device → P)) same kept) unwritten
unwritten_change asked (Ok u) (Ok text) P writes told on same kept unwritten = absurd (unwritten writes told)
unwritten_change asked (Err fault) (Ok text) P writes told on same kept unwritten = kept (going_on fault faults.Device on refl)

-- likewise of a commit or a merge
pub unwritten_file : {D A Z : Type 0} {d : devices.Ghosts D} {an : analyzers.Ghosts A} (old new : Index D A d an) (asked : Option Request) (change : Result ⊤ Fault) (result : Result (CowStr Z) Fault) → may_write asked ≡ true → IfOk result (λ text. cow_str_bytes text ≡ change_text change) → OnOk result (GoesOn change)
    → IfErr result (λ e. change ≡ Err e) → IfErr change (λ fault. fault ≢ faults.Device → KeepsFile old new) → IsUnwritten asked result → KeepsFile old new
unwritten_file old new asked change result writes told on same kept unwritten = unwritten_change asked change result (KeepsFile old new) writes told on same kept unwritten

-- a device of which no call was made
still : {D : Type 0} (d : devices.Ghosts D) → ((device : D) (image : List ℕ) → IsTrue (d.honest device) → d.left_since device (d.moment device) image → IsImage (d.content device) (d.unsynced device) image) → (device : D) → IsTrue (d.honest device) → IsKept d.moment d.left_since d.content d.unsynced device device
still d only_now device honest = same_device d.moment d.left_since d.content d.unsynced device (λ image left. only_now device image honest left)

module _ {D A : Type 0} {d : devices.Ghosts D} {an : analyzers.Ghosts A} (only_now : (device : D) (image : List ℕ) → IsTrue (d.honest device) → d.left_since device (d.moment device) image → IsImage (d.content device) (d.unsynced device) image) where
  pub same_kept : (o : Option (Stage D A d an)) → IsTrue (honest_on o) → KeepsDevice o o
  same_kept None honest = absurd (true≢false (sym honest))
  same_kept (Some stage) honest = still d only_now (device_on stage) honest

  -- the index has its device
  pub index_kept : (old new : Index D A d an) (before after : Option (Stage D A d an)) → before ≡ Some (Standing old) → after ≡ Some (Standing new) → device_of new ≡ device_of old → IsTrue (honest_on before) → KeepsDevice before after
  index_kept old new before after was is same honest =
      subst (λ o. KeepsDevice o after) (sym was) (subst (λ o. KeepsDevice (Some (Standing old)) o) (sym is)
      (subst (λ e. IsKept d.moment d.left_since d.content d.unsynced (device_of old) e) (sym same) (still d only_now (device_of old) (subst (λ o. IsTrue (honest_on o)) was honest))))
