-- What an opening answers, from what was read and settled.
use Rattle.std.proofs.Common.{Err, IfErr, IfOk, Ok, List, Result, refl, ℕ}
use Rattle.definitions.proofs.CallRuns.{started}
use Rattle.definitions.specs.Disk.{IsImage, Unsynced}
use Rattle.index_file.specs.Kept.{IsKept}

-- from two things that hold of an answer
pub ok_two : {T E : Type 0} (r : Result T E) (P Q R : T → Type 0) → IfOk r P → IfOk r Q → ((x : T) → P x → Q x → R x) → IfOk r R
ok_two (Ok x) P Q R p q f = f x p q
ok_two (Err e) P Q R p q f = tt

-- from three
pub ok_three : {T E : Type 0} (r : Result T E) (P Q R S : T → Type 0) → IfOk r P → IfOk r Q → IfOk r R → ((x : T) → P x → Q x → R x → S x) → IfOk r S
ok_three (Ok x) P Q R S p q s f = f x p q s
ok_three (Err e) P Q R S p q s f = tt

-- what holds of an answer under a premise holds of it
pub ok_under : {T E H : Type 0} (r : Result T E) (P : H → T → Type 0) → ((h : H) → IfOk r (P h)) → IfOk r (λ x. (h : H) → P h x)
ok_under (Ok x) P f = f
ok_under (Err e) P f = tt

-- and of an error
pub err_map : {T E : Type 0} (r : Result T E) (P Q : E → Type 0) → IfErr r P → ((x : E) → P x → Q x) → IfErr r Q
err_map (Ok x) P Q p f = tt
err_map (Err e) P Q p f = f e p

-- a device of which no call was made
pub same_device : {D : Type 0} (moment : D → ℕ) (left_since : D → ℕ → List ℕ → Type 0) (content : D → List ℕ) (unsynced : D → Unsynced) (device : D)
    → ((image : List ℕ) → left_since device (moment device) image → IsImage (content device) (unsynced device) image) → IsKept moment left_since content unsynced device device
same_device moment left_since content unsynced device only_now = record {
  content_kept = refl;
  unsynced_kept = refl;
  images_kept = started moment left_since device (IsImage (content device) (unsynced device)) only_now;
}

-- what holds of an error twice
pub err_both : {T E : Type 0} (r : Result T E) (P Q : E → Type 0) → IfErr r P → IfErr r Q → IfErr r (λ e. P e × Q e)
err_both (Ok x) P Q p q = tt
err_both (Err e) P Q p q = (p, q)
