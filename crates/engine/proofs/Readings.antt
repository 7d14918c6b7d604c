-- A device that is read alone.
use Rattle.std.proofs.Common.{List, subst, ◌≡◌, ℕ}
use Rattle.definitions.proofs.CallRuns.{goes_on, started}
use Rattle.definitions.specs.Disk.{IsImage, Unsynced}
use Rattle.definitions.specs.Moments.{Elapses}
use Rattle.index_file.specs.Kept.{IsKept}

pub read_kept : {D : Type 0} (moment : D → ℕ) (left_since : D → ℕ → List ℕ → Type 0) (content : D → List ℕ) (unsynced : D → Unsynced) (old new : D)
    → ((image : List ℕ) → left_since old (moment old) image → IsImage (content old) (unsynced old) image) → content new ≡ content old → unsynced new ≡ unsynced old
    → Elapses (moment old) (moment new) (left_since old) (left_since new) (IsImage (content new) (unsynced new)) → IsKept moment left_since content unsynced old new
read_kept moment left_since content unsynced old new only_now same still time = record {
  content_kept = same;
  unsynced_kept = still;
  images_kept = goes_on moment left_since old old new (IsImage (content old) (unsynced old)) (IsImage (content new) (unsynced new)) (started moment left_since old (IsImage (content old) (unsynced old)) only_now) time
      (λ image is. subst (λ (u : Unsynced). IsImage (content old) u image) still (subst (λ (l : List ℕ). IsImage l (unsynced new) image) same is));
}
