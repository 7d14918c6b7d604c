-- The disk that calls make, one call further.
use Rattle.std.proofs.Common.{[], ◌++◌, ◌+◌, ◌<◌, ◌∙◌, ◌≡◌, ◌∷◌, List, ap, get_or, length, subst, sym, take, ℕ}
use Rattle.std.proofs.lemmas.List.Sums.{fold_more, fold_push}
use Rattle.definitions.specs.Disk.{IsImage}
use Rattle.definitions.proofs.CallImages.{cut-remains, settled-remains, write-remains}
use Rattle.common.specs.Calls.{Disk, IsWithin, after_call, disk_after}
use Rattle.common.specs.declared.memory_device.Call.{Call}
use Rattle.common.specs.declared.memory_device.Call.TheVariants.{Cut, Sync, Write}

-- one call more is made on the disk that those before it made
pub disk_after_push : (calls new : List Call) (call : Call) → new ≡ calls ++ call ∷ [] → disk_after new ≡ after_call (disk_after calls) call
disk_after_push calls new call more = ap disk_after more ∙ fold_push after_call _ calls call

-- the disk after the calls up to one is that call made on the disk before it
pub disk_after_more : (calls : List Call) (i : ℕ) (call : Call) → i < length calls → get_or calls i call ≡ call → disk_after (take (i + 1) calls) ≡ after_call (disk_after (take i calls)) call
disk_after_more calls i call below is = fold_more after_call _ calls i call below ∙ ap (after_call (disk_after (take i calls))) is

-- what a read gives after a call is an image, where it is bytes
call-remains : (was : Disk) (call : Call) → IsWithin (length was.content) call → IsImage was.content was.unsynced was.content → ((i : ℕ) → get_or (after_call was call).content i 0 < 256)
    → IsImage (after_call was call).content (after_call was call).unsynced (after_call was call).content
call-remains was (Write at bytes) within remains are = write-remains at bytes.items was.content was.unsynced within remains are
call-remains was (Cut len) within remains are = cut-remains len was.content was.unsynced within remains are
call-remains was Sync within remains are = settled-remains was.content are

-- likewise of the bytes that a device has before and after the call
pub remains_after_call : (was : Disk) (call : Call) (old new : List ℕ) (now : Disk) → was.content ≡ old → IsWithin (length old) call → IsImage old was.unsynced old → now ≡ after_call was call → new ≡ (after_call was call).content
    → ((i : ℕ) → get_or new i 0 < 256) → IsImage new now.unsynced new
remains_after_call was call old new now same within remains made is are =
    let within' : IsWithin (length was.content) call = subst (λ (l : List ℕ). IsWithin (length l) call) (sym same) within in
    let remains' : IsImage was.content was.unsynced was.content = subst (λ (l : List ℕ). IsImage l was.unsynced l) (sym same) remains in
    let are' : (i : ℕ) → get_or (after_call was call).content i 0 < 256 = subst (λ (l : List ℕ). (i : ℕ) → get_or l i 0 < 256) is are in
    let done = call-remains was call within' remains' are' in
    subst (λ (l : List ℕ). IsImage l now.unsynced l) (sym is) (subst (λ (d : Disk). IsImage (after_call was call).content d.unsynced (after_call was call).content) (sym made) done)
