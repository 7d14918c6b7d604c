-- What a crash now leaves of a device, a device that was read alone, and what a crash leaves beside that.
use Rattle.std.specs.Prelude.{[], ◌∷◌, ◌≡◌, ◌⊎◌, List, ℕ}
use Rattle.definitions.specs.Disk.{IsImage, Unsynced}
use Rattle.definitions.specs.Moments.{LeavesOnly}
use Rattle.layouts.specs.RecordFiles.{IsFile, IsNoIndex}

-- a crash now leaves only images that have P
abbrev pub LeavesNow : {D : Type 0} → (D → List ℕ) → (D → Unsynced) → D → (List ℕ → Type 0) → Type 0
LeavesNow content unsynced device P =
    (image : List ℕ) → IsImage (content device) (unsynced device) image → P image

-- its content is as before, and a crash leaves what it might have left before
pub record IsKept {D : Type 0} (moment : D → ℕ) (left_since : D → ℕ → List ℕ → Type 0) (content : D → List ℕ)
    (unsynced : D → Unsynced) (old new : D) : Type 0 where
  pub content_kept : content new ≡ content old
  pub unsynced_kept : unsynced new ≡ unsynced old
  pub images_kept : LeavesOnly moment left_since old new (IsImage (content old) (unsynced old))

-- ---- beside what a crash might have left before

-- or a file of these bodies
abbrev pub IsOldOrOf : {D : Type 0} → (D → List ℕ) → (D → Unsynced) → D → List (List ℕ) → List ℕ → Type 0
IsOldOrOf content unsynced old bodies image = IsImage (content old) (unsynced old) image ⊎ IsFile bodies image

-- or no index
abbrev pub IsOldOrNone : {D : Type 0} → (D → List ℕ) → (D → Unsynced) → D → List ℕ → Type 0
IsOldOrNone content unsynced old image = IsImage (content old) (unsynced old) image ⊎ IsNoIndex image

-- or no index, or a file of this one body
abbrev pub IsOldOrFirst : {D : Type 0} → (D → List ℕ) → (D → Unsynced) → D → List ℕ → List ℕ → Type 0
IsOldOrFirst content unsynced old body image = IsOldOrNone content unsynced old image ⊎ IsFile (body ∷ []) image
