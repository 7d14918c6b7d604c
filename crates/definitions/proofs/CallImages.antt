-- What a crash may leave after a call of a device, whatever the call answered.
use Rattle.std.proofs.Common.{◌++◌, ◌+◌, ◌-◌, ◌<◌, ◌∙◌, ◌≡◌, ◌≤◌, ◌∷◌, ◌⊎◌, Err, List, OnErr, OnOk, Ok, Result, ap, arith, drop, get_or, inl, inr, length, length-append, length-drop, length-take, max, refl, subst, sym, take, ℕ}
use Rattle.std.proofs.lemmas.Bool.{cases_lt}
use Rattle.std.proofs.lemmas.List.{ext_get_or, get_or-append_right, get_or-drop, get_or-take, get_or_append_left, get_or_past, length-take-le}
use Rattle.definitions.specs.Disk.{IsEither, IsImage, IsInRange, IsPartly, Unsynced, overwritten, settled, shortened, written}

-- after a sync a crash leaves what a read gives
pub settled-image : (content image : List ℕ) → IsImage content (settled (length content)) image → image ≡ content
settled-image content image is =
    let same : length image ≡ length content = omega (arith, is.no_shorter, is.no_longer) in
    ext_get_or 0 image content same (λ i below. is.stays i (omega (arith, same)) (λ none. none))

-- what a read gives after a sync is an image, where it is bytes
pub settled-remains : (content : List ℕ) → ((i : ℕ) → get_or content i 0 < 256) → IsImage content (settled (length content)) content
settled-remains content bytes = record { no_shorter = omega arith; no_longer = omega arith; bytes = bytes; stays = λ i below out. refl }

-- what was asked is one of what a failed call may leave
pub done_is_partly : (old asked new : List ℕ) → new ≡ asked → IsPartly old asked new
done_is_partly old asked new is =
    let same : length new ≡ length asked = ap length is in
    record {
      no_shorter = omega (arith, same);
      no_longer = omega (arith, same);
      bytes = λ i below. inr (omega (arith, same), ap (λ (l : List ℕ). get_or l i 0) is);
    }

-- and so is what was there
pub kept_is_partly : (old asked new : List ℕ) → new ≡ old → IsPartly old asked new
kept_is_partly old asked new is =
    let same : length new ≡ length old = ap length is in
    record {
      no_shorter = omega (arith, same);
      no_longer = omega (arith, same);
      bytes = λ i below. inl (omega (arith, same), ap (λ (l : List ℕ). get_or l i 0) is);
    }

-- a sync leaves no more than before, or all on the disk
pub IsSynced-any : {T E : Type 0} (result : Result T E) (len : ℕ) (u v : Unsynced) → OnOk result (v ≡ settled len) → OnErr result (v ≡ u) → IsEither u (settled len) v
IsSynced-any (Ok x) len u v done failed = inr done
IsSynced-any (Err e) len u v done failed = inl failed

pub length-overwritten : (at : ℕ) (bytes content : List ℕ) → at ≤ length content → length (overwritten at bytes content) ≡ max (length content) (at + length bytes)
length-overwritten at bytes content inside =
    let front = length-take at content in
    let joined = length-append (take at content ++ bytes) (drop (at + length bytes) content) in
    omega (arith, front, joined, length-append (take at content) bytes, length-drop (at + length bytes) content)

-- outside of the range that was written, bytes are as before
pub overwritten-outside : (at : ℕ) (bytes content : List ℕ) (i : ℕ) → at ≤ length content → (i < at) ⊎ (at + length bytes ≤ i) → get_or (overwritten at bytes content) i 0 ≡ get_or content i 0
overwritten-outside at bytes content i inside (inl below) =
    let front : length (take at content) ≡ at = length-take-le at content inside in
    let long : length (take at content ++ bytes) ≡ at + length bytes = omega (arith, length-append (take at content) bytes, front) in
    let first : i < length (take at content ++ bytes) = omega (arith, long) in
    let second : i < length (take at content) = omega (arith, front) in
    get_or_append_left (take at content ++ bytes) (drop (at + length bytes) content) 0 i first
    ∙ get_or_append_left (take at content) bytes 0 i second
    ∙ get_or-take at content i 0 below
overwritten-outside at bytes content i inside (inr past) =
    let front : length (take at content) ≡ at = length-take-le at content inside in
    let long : length (take at content ++ bytes) ≡ at + length bytes = omega (arith, length-append (take at content) bytes, front) in
    let place : at + length bytes + (i - (at + length bytes)) ≡ i = omega arith in
    get_or-append_right (take at content ++ bytes) (drop (at + length bytes) content) (at + length bytes) i 0 long past
    ∙ get_or-drop (at + length bytes) content (i - (at + length bytes)) 0
    ∙ ap (λ (k : ℕ). get_or content k 0) place

-- a place in no range, where a range was added, is outside of that one
outside : (at len i : ℕ) (ranges : List (ℕ × ℕ)) → ¬ IsInRange ((at, at + len) ∷ ranges) i → (i < at) ⊎ (at + len ≤ i)
outside at len i ranges out = elim (cases_lt i at) [
  | inl below ↦ inl below
  | inr from ↦ elim (cases_lt i (at + len)) [
    | inl within ↦ absurd (out (inl (from, within)))
    | inr past ↦ inr past
  ]
]

-- where a write of n bytes left a byte as before or as asked, outside of its range it is as before
partly-outside : (at : ℕ) (bytes old new : List ℕ) (i : ℕ) → at ≤ length old → IsPartly old (overwritten at bytes old) new → i < length old → (i < at) ⊎ (at + length bytes ≤ i) → get_or new i 0 ≡ get_or old i 0
partly-outside at bytes old new i inside partly below apart =
    let long = length-overwritten at bytes old inside in
    elim (partly.bytes i (omega (arith, long, partly.no_shorter))) [
      | inl kept ↦ kept.1
      | inr asked ↦ asked.1 ∙ overwritten-outside at bytes old i inside apart
    ]

-- each image after a write, done or failed, is one of the write done
pub write-images : (at : ℕ) (bytes old new : List ℕ) (u v : Unsynced) → at ≤ length old → IsImage old u old → IsPartly old (overwritten at bytes old) new → IsEither u (written at (length bytes) u) v
    → (image : List ℕ) → IsImage new v image → IsImage (overwritten at bytes old) (written at (length bytes) u) image
write-images at bytes old new u v inside remains partly (inl same) image is =
    let is' = subst (λ (w : Unsynced). IsImage new w image) same is in
    record {
      no_shorter = is'.no_shorter;
      no_longer = omega (arith, is'.no_longer);
      bytes = is'.bytes;
      stays = λ i below out.
          let apart = outside at (length bytes) i u.ranges out in
          is'.stays i below (λ within. out (inr within))
          ∙ partly-outside at bytes old new i inside partly (omega (arith, remains.no_shorter)) apart
          ∙ sym (overwritten-outside at bytes old i inside apart);
    }
write-images at bytes old new u v inside remains partly (inr same) image is =
    let is' = subst (λ (w : Unsynced). IsImage new w image) same is in
    record {
      no_shorter = is'.no_shorter;
      no_longer = is'.no_longer;
      bytes = is'.bytes;
      stays = λ i below out.
          let apart = outside at (length bytes) i u.ranges out in
          is'.stays i below out
          ∙ partly-outside at bytes old new i inside partly (omega (arith, remains.no_shorter)) apart
          ∙ sym (overwritten-outside at bytes old i inside apart);
    }

-- where a cut left a byte as before or as asked, below the cut it is as before
partly-front : (len : ℕ) (old new : List ℕ) (i : ℕ) → len ≤ length old → IsPartly old (take len old) new → i < len → get_or new i 0 ≡ get_or (take len old) i 0
partly-front len old new i inside partly below =
    let long = length-take len old in
    elim (partly.bytes i (omega (arith, long, partly.no_shorter))) [
      | inl kept ↦ kept.1 ∙ sym (get_or-take len old i 0 below)
      | inr asked ↦ asked.1
    ]

-- each image after a cut, done or failed, is one of the cut done
pub cut-images : (len : ℕ) (old new : List ℕ) (u v : Unsynced) → len ≤ length old → IsPartly old (take len old) new → IsEither u (shortened len u) v
    → (image : List ℕ) → IsImage new v image → IsImage (take len old) (shortened len u) image
cut-images len old new u v inside partly (inl same) image is =
    let is' = subst (λ (w : Unsynced). IsImage new w image) same is in
    record {
      no_shorter = omega (arith, is'.no_shorter);
      no_longer = is'.no_longer;
      bytes = is'.bytes;
      stays = λ i below out. is'.stays i (omega arith) out ∙ partly-front len old new i inside partly (omega arith);
    }
cut-images len old new u v inside partly (inr same) image is =
    let is' = subst (λ (w : Unsynced). IsImage new w image) same is in
    record {
      no_shorter = is'.no_shorter;
      no_longer = is'.no_longer;
      bytes = is'.bytes;
      stays = λ i below out. is'.stays i below out ∙ partly-front len old new i inside partly (omega arith);
    }

-- each image after a sync, done or failed, is one of those before
pub sync-images : (old new : List ℕ) (u v : Unsynced) → IsImage old u old → new ≡ old → IsEither u (settled (length old)) v → (image : List ℕ) → IsImage new v image → IsImage old u image
sync-images old new u v remains kept (inl same) image is =
    subst (λ (l : List ℕ). IsImage l u image) kept (subst (λ (w : Unsynced). IsImage new w image) same is)
sync-images old new u v remains kept (inr same) image is =
    let is' = subst (λ (l : List ℕ). IsImage l (settled (length old)) image) kept (subst (λ (w : Unsynced). IsImage new w image) same is) in
    subst (λ (l : List ℕ). IsImage old u l) (sym (settled-image old image is')) remains

-- in the range that was written, bytes are those written
overwritten-within : (at : ℕ) (bytes content : List ℕ) (i : ℕ) → at ≤ length content → at ≤ i → i < at + length bytes → get_or (overwritten at bytes content) i 0 ≡ get_or bytes (i - at) 0
overwritten-within at bytes content i inside from below =
    let front : length (take at content) ≡ at = length-take-le at content inside in
    let long : length (take at content ++ bytes) ≡ at + length bytes = omega (arith, length-append (take at content) bytes, front) in
    let first : i < length (take at content ++ bytes) = omega (arith, long) in
    get_or_append_left (take at content ++ bytes) (drop (at + length bytes) content) 0 i first
    ∙ get_or-append_right (take at content) bytes at i 0 front from

-- what a read gives after a write is an image, where it is bytes
pub write-remains : (at : ℕ) (bytes content : List ℕ) (u : Unsynced) → at ≤ length content → IsImage content u content → ((i : ℕ) → get_or (overwritten at bytes content) i 0 < 256)
    → IsImage (overwritten at bytes content) (written at (length bytes) u) (overwritten at bytes content)
write-remains at bytes content u inside remains are =
    let long = length-overwritten at bytes content inside in
    record {
      no_shorter = omega (arith, long, remains.no_shorter);
      no_longer = omega (arith, long, remains.no_longer);
      bytes = are;
      stays = λ i below out. refl;
    }

-- and after a cut
pub cut-remains : (len : ℕ) (content : List ℕ) (u : Unsynced) → len ≤ length content → IsImage content u content → ((i : ℕ) → get_or (take len content) i 0 < 256)
    → IsImage (take len content) (shortened len u) (take len content)
cut-remains len content u inside remains are =
    let long = length-take len content in
    record {
      no_shorter = omega (arith, long);
      no_longer = omega (arith, long, remains.no_longer);
      bytes = are;
      stays = λ i below out. refl;
    }

-- a content written over with bytes is bytes
pub overwritten-bytes : (at : ℕ) (bytes content : List ℕ) → at ≤ length content → ((i : ℕ) → get_or content i 0 < 256) → ((i : ℕ) → get_or bytes i 0 < 256) → (i : ℕ) → get_or (overwritten at bytes content) i 0 < 256
overwritten-bytes at bytes content inside were are i = elim (cases_lt i at) [
  | inl below ↦ subst (λ (n : ℕ). n < 256) (sym (overwritten-outside at bytes content i inside (inl below))) (were i)
  | inr from ↦ elim (cases_lt i (at + length bytes)) [
    | inl within ↦ subst (λ (n : ℕ). n < 256) (sym (overwritten-within at bytes content i inside from within)) (are (i - at))
    | inr past ↦ subst (λ (n : ℕ). n < 256) (sym (overwritten-outside at bytes content i inside (inr past))) (were i)
  ]
]

-- and so is one that was cut
pub cut-bytes : (len : ℕ) (content : List ℕ) → ((i : ℕ) → get_or content i 0 < 256) → (i : ℕ) → get_or (take len content) i 0 < 256
cut-bytes len content were i = elim (cases_lt i len) [
  | inl below ↦ subst (λ (n : ℕ). n < 256) (sym (get_or-take len content i 0 below)) (were i)
  | inr past ↦ let none : get_or (take len content) i 0 ≡ 0 = get_or_past (take len content) i 0 (omega (arith, length-take len content)) in omega (arith, none)
]
