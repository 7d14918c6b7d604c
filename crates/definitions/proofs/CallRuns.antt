-- How what a crash may have left goes on, from one call of a device to the next.
use Rattle.std.proofs.Common.{◌≡◌, ◌≤◌, List, arith, inl, inr, length, refl, take, ℕ, ⊎_elim}
use Rattle.definitions.specs.Disk.{IsEither, IsImage, IsPartly, Unsynced, overwritten, settled, shortened, written}
use Rattle.definitions.specs.Moments.{Elapses, LeavesOnly}
use Rattle.definitions.proofs.CallImages.{kept_is_partly, cut-images, sync-images, write-images}

module _ {D : Type 0} (moment : D → ℕ) (left_since : D → ℕ → List ℕ → Type 0) where
  -- before the first call
  pub started : (device : D) (P : List ℕ → Type 0) → ((image : List ℕ) → left_since device (moment device) image → P image) → LeavesOnly moment left_since device device P
  started device P here = record { later = omega arith; each_image = here; before = λ t image le left. inl left }

  -- one call more, after which a crash leaves what has P
  pub goes_on : (old mid new : D) (P may_leave : List ℕ → Type 0) → LeavesOnly moment left_since old mid P → Elapses (moment mid) (moment new) (left_since mid) (left_since new) may_leave
      → ((image : List ℕ) → may_leave image → P image) → LeavesOnly moment left_since old new P
  goes_on old mid new P may_leave so_far time here = record {
    later = omega (arith, so_far.later, time.later);
    each_image = λ image left. ⊎_elim (so_far.each_image image) (here image) (time.nothing_else (moment old) image so_far.later left);
    before = λ t image le left. ⊎_elim (so_far.before t image le) (λ now. inr (here image now)) (time.nothing_else t image (omega (arith, le, so_far.later)) left);
  }

  -- one run after another
  pub joined : (old mid new : D) (P : List ℕ → Type 0) → LeavesOnly moment left_since old mid P → LeavesOnly moment left_since mid new P → LeavesOnly moment left_since old new P
  joined old mid new P first second = record {
    later = omega (arith, first.later, second.later);
    each_image = λ image left. ⊎_elim (first.each_image image) (λ now. now) (second.before (moment old) image first.later left);
    before = λ t image le left. ⊎_elim (first.before t image le) (λ now. inr now) (second.before t image (omega (arith, le, first.later)) left);
  }

  -- what has P has Q
  pub weaker : (old new : D) (P Q : List ℕ → Type 0) → LeavesOnly moment left_since old new P → ((image : List ℕ) → P image → Q image) → LeavesOnly moment left_since old new Q
  weaker old new P Q run has = record {
    later = run.later;
    each_image = λ image left. has image (run.each_image image left);
    before = λ t image le left. ⊎_elim (λ past. inl past) (λ now. inr (has image now)) (run.before t image le left);
  }

  module _ (content : D → List ℕ) (unsynced : D → Unsynced) where
    -- what a crash may leave now
    abbrev IsNow : D → List ℕ → Type 0
    IsNow device image = IsImage (content device) (unsynced device) image

    -- while a write is made, done or failed
    pub while_writing : (old new : D) (at : ℕ) (bytes : List ℕ) → at ≤ length (content old) → IsNow old (content old) → ((image : List ℕ) → left_since old (moment old) image → IsNow old image)
        → IsPartly (content old) (overwritten at bytes (content old)) (content new) → IsEither (unsynced old) (written at (length bytes) (unsynced old)) (unsynced new)
        → Elapses (moment old) (moment new) (left_since old) (left_since new) (IsNow new)
        → LeavesOnly moment left_since old new (IsImage (overwritten at bytes (content old)) (written at (length bytes) (unsynced old)))
    while_writing old new at bytes inside remains only_now partly either time =
        let P = IsImage (overwritten at bytes (content old)) (written at (length bytes) (unsynced old)) in
        let kept = write-images at bytes (content old) (content old) (unsynced old) (unsynced old) inside remains (kept_is_partly (content old) (overwritten at bytes (content old)) (content old) refl) (inl refl) in
        goes_on old old new P (IsNow new) (started old P (λ image left. kept image (only_now image left))) time
        (write-images at bytes (content old) (content new) (unsynced old) (unsynced new) inside remains partly either)

    -- while a cut is made, done or failed
    pub while_cutting : (old new : D) (len : ℕ) → len ≤ length (content old) → ((image : List ℕ) → left_since old (moment old) image → IsNow old image)
        → IsPartly (content old) (take len (content old)) (content new) → IsEither (unsynced old) (shortened len (unsynced old)) (unsynced new)
        → Elapses (moment old) (moment new) (left_since old) (left_since new) (IsNow new)
        → LeavesOnly moment left_since old new (IsImage (take len (content old)) (shortened len (unsynced old)))
    while_cutting old new len inside only_now partly either time =
        let P = IsImage (take len (content old)) (shortened len (unsynced old)) in
        let kept = cut-images len (content old) (content old) (unsynced old) (unsynced old) inside (kept_is_partly (content old) (take len (content old)) (content old) refl) (inl refl) in
        goes_on old old new P (IsNow new) (started old P (λ image left. kept image (only_now image left))) time
        (cut-images len (content old) (content new) (unsynced old) (unsynced new) inside partly either)

    -- and on while a sync is made, done or failed
    pub while_syncing : (old mid new : D) (P : List ℕ → Type 0) → LeavesOnly moment left_since old mid P → ((image : List ℕ) → IsNow mid image → P image) → IsNow mid (content mid)
        → content new ≡ content mid → IsEither (unsynced mid) (settled (length (content mid))) (unsynced new)
        → Elapses (moment mid) (moment new) (left_since mid) (left_since new) (IsNow new)
        → LeavesOnly moment left_since old new P
    while_syncing old mid new P so_far here remains same either time =
        goes_on old mid new P (IsNow new) so_far time
        (λ image is. here image (sync-images (content mid) (content new) (unsynced mid) (unsynced new) remains same either image is))
