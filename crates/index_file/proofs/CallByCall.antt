-- What a crash may leave while a file is settled, appended to and created, from call to call.
use Rattle.std.proofs.Common.{[], List, inl, inr, length, subst, take, ◌++◌, ◌+◌, ◌^◌, ◌∙◌, ◌∷◌, ◌≡◌, ◌≤◌, ℕ}
use Rattle.definitions.specs.Disk.{IsImage, Unsynced, overwritten, settled, shortened, written}
use Rattle.definitions.specs.Moments.{Elapses, LeavesOnly}
use Rattle.definitions.proofs.CallRuns.{joined, started, weaker, while_syncing}
use Rattle.layouts.specs.RecordFiles.{EndsAt, IsAtRest, IsFile, IsOneOf}
use Rattle.layouts.proofs.FilesOfRecords.{empty_is_no_index}
use Rattle.index_file.specs.Frames.{frame_bytes}
use Rattle.index_file.specs.Kept.{IsOldOrFirst, IsOldOrNone}
use Rattle.index_file.proofs.Images.{cut_files, frame_images, framed_content, gate_images, rest_images, short_body}

module _ {D : Type 0} (moment : D → ℕ) (left_since : D → ℕ → List ℕ → Type 0) (content : D → List ℕ) (unsynced : D → Unsynced) where
  -- a sync, and then a cut behind the closed gate that is synced
  pub settling : (old mid new : D) (gate : ℕ) (bodies : List (List ℕ)) (P : List ℕ → Type 0) → EndsAt (content old) gate bodies → IsImage (content old) (unsynced old) (content old)
      → ((image : List ℕ) → left_since old (moment old) image → IsImage (content old) (unsynced old) image) → ((image : List ℕ) → IsImage (content old) (unsynced old) image → P image)
      → content mid ≡ content old → unsynced mid ≡ settled (length (content old)) → Elapses (moment old) (moment mid) (left_since old) (left_since mid) (IsImage (content mid) (unsynced mid))
      → LeavesOnly moment left_since mid new (IsImage (take (gate + 1) (content mid)) (shortened (gate + 1) (unsynced mid))) → ((image : List ℕ) → IsFile bodies image → P image) → LeavesOnly moment left_since old new P
  settling old mid new gate bodies P ends remains only_now here same synced time cut files =
      joined moment left_since old mid new P
      (while_syncing moment left_since content unsynced old old mid P (started moment left_since old P (λ image left. here image (only_now image left))) here remains same (inr synced) time)
      (weaker moment left_since mid new (IsImage (take (gate + 1) (content mid)) (shortened (gate + 1) (unsynced mid))) P cut
      (λ image is. files image (cut_files bodies (content old) image gate ends
      (subst (λ (u : Unsynced). IsImage (take (gate + 1) (content old)) (shortened (gate + 1) u) image) synced (subst (λ (l : List ℕ). IsImage (take (gate + 1) l) (shortened (gate + 1) (unsynced mid)) image) same is)))))

  -- a frame behind the closed gate
  pub framing : (old new : D) (gate : ℕ) (frame body : List ℕ) (bodies : List (List ℕ)) → IsAtRest (content old) gate bodies → unsynced old ≡ settled (length (content old))
      → LeavesOnly moment left_since old new (IsImage (overwritten (gate + 1) frame (content old)) (written (gate + 1) (length frame) (unsynced old))) → LeavesOnly moment left_since old new (IsOneOf bodies (bodies ++ body ∷ []))
  framing old new gate frame body bodies rest synced run =
      weaker moment left_since old new (IsImage (overwritten (gate + 1) frame (content old)) (written (gate + 1) (length frame) (unsynced old))) (IsOneOf bodies (bodies ++ body ∷ [])) run
      (λ image is. inl (frame_images bodies (content old) frame image gate rest (subst (λ (u : Unsynced). IsImage (overwritten (gate + 1) frame (content old)) (written (gate + 1) (length frame) u) image) synced is)))

  -- and then the gate
  pub gating : (old mid new : D) (gate : ℕ) (frame body : List ℕ) (bodies : List (List ℕ)) → IsAtRest (content old) gate bodies → gate + 1 + length frame ≤ 2 ^ 63 → frame ≡ frame_bytes body
      → content mid ≡ overwritten (gate + 1) frame (content old) → unsynced mid ≡ settled (length (content mid))
      → LeavesOnly moment left_since old mid (IsOneOf bodies (bodies ++ body ∷ [])) → LeavesOnly moment left_since mid new (IsImage (overwritten gate (165 ∷ []) (content mid)) (written gate 1 (unsynced mid)))
      → LeavesOnly moment left_since old new (IsOneOf bodies (bodies ++ body ∷ []))
  gating old mid new gate frame body bodies rest room framed same synced first second =
      let is_at : content mid ≡ content old ++ frame = same ∙ framed_content (content old) frame (gate + 1) rest.length_is in
      joined moment left_since old mid new (IsOneOf bodies (bodies ++ body ∷ [])) first
      (weaker moment left_since mid new (IsImage (overwritten gate (165 ∷ []) (content mid)) (written gate 1 (unsynced mid))) (IsOneOf bodies (bodies ++ body ∷ [])) second
      (λ image is. gate_images bodies body (content old) frame image gate rest (short_body gate frame body room framed) framed
      (subst (λ (l : List ℕ). IsImage (overwritten gate (165 ∷ []) l) (written gate 1 (settled (length l))) image) is_at
      (subst (λ (u : Unsynced). IsImage (overwritten gate (165 ∷ []) (content mid)) (written gate 1 u) image) synced is))))

  -- nothing was done to a file at rest
  pub resting : (old : D) (gate : ℕ) (bodies others : List (List ℕ)) → IsAtRest (content old) gate bodies → unsynced old ≡ settled (length (content old)) → ((image : List ℕ) → left_since old (moment old) image → IsImage (content old) (unsynced old) image)
      → LeavesOnly moment left_since old old (IsOneOf bodies others)
  resting old gate bodies others rest synced only_now =
      started moment left_since old (IsOneOf bodies others)
      (λ image left. inl (rest_images bodies (content old) image gate rest (subst (λ (u : Unsynced). IsImage (content old) u image) synced (only_now image left))))

  -- the first gate, and then the first record
  pub creating : (old mid new : D) (body : List ℕ) → LeavesOnly moment left_since old mid (IsOldOrNone content unsynced old) → LeavesOnly moment left_since mid new (IsOneOf [] (body ∷ [])) → LeavesOnly moment left_since old new (IsOldOrFirst content unsynced old body)
  creating old mid new body first second =
      let P : List ℕ → Type 0 = IsOldOrFirst content unsynced old body in
      joined moment left_since old mid new P (weaker moment left_since old mid (IsOldOrNone content unsynced old) P first (λ image is. inl is))
      (weaker moment left_since mid new (IsOneOf [] (body ∷ [])) P second
      (λ image is. elim is [
        | inl none ↦ inl (inr (empty_is_no_index image none))
        | inr one ↦ inr one
      ]))
