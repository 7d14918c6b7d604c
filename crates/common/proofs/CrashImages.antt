-- What a crash leaves where one byte stands wherever any may.
use Rattle.std.proofs.Common.{[], ◌++◌, ◌+◌, ◌<◌, ◌≡◌, ◌∷◌, ◌≤◌, ◌∙◌, List, ap, arith, get_or, inl, inr, length, length-append, subst, sym, ℕ}
use Rattle.std.proofs.lemmas.Bool.{cases_lt}
use Rattle.std.proofs.lemmas.List.{get_or_append_left, get_or_past, get_or_push}
use Rattle.definitions.specs.Disk.{IsImage, Unsynced}
use Rattle.common.specs.Calls.{IsFilled, MayHoldAny}

-- bytes with one more are bytes
pub bytes_more : (image new : List ℕ) (byte : ℕ) → new ≡ image ++ byte ∷ [] → byte < 256 → ((i : ℕ) → get_or image i 0 < 256) → (i : ℕ) → get_or new i 0 < 256
bytes_more image new byte is small bytes i = elim (cases_lt i (length image)) [
  | inl before ↦
      let e : get_or new i 0 ≡ get_or image i 0 = ap (λ l. get_or l i 0) is ∙ get_or_append_left image (byte ∷ []) 0 i before in
      let b = bytes i in
      omega (arith, e, b)
  | inr past ↦ elim (cases_lt (length image) i) [
    | inl beyond ↦
        let long = ap length is ∙ length-append image (byte ∷ []) in
        let e : get_or new i 0 ≡ 0 = get_or_past new i 0 (omega (arith, long)) in
        omega (arith, e)
    | inr here ↦
        let e : get_or new i 0 ≡ byte = ap (λ l. get_or l i 0) is ∙ get_or_push image byte 0 i (omega arith) in
        omega (arith, e)
  ]
]

module _ (content : List ℕ) (u : Unsynced) (fill len : ℕ) where
  -- one byte more
  pub filled_more : (image new : List ℕ) (byte : ℕ) → IsFilled content u fill len image → new ≡ image ++ byte ∷ [] → (MayHoldAny u len → byte ≡ fill) → (¬ MayHoldAny u len → byte ≡ get_or content len 0)
      → IsFilled content u fill (len + 1) new
  filled_more image new byte was is any else = record {
    long = long;
    filled = λ i below may. elim (cases_lt i len) [
      | inl before ↦ old i before ∙ was.filled i before may
      | inr past ↦ let here : i ≡ len = omega arith in at_end i here ∙ any (subst (λ (n : ℕ). MayHoldAny u n) here may)
    ];
    kept = λ i below not. elim (cases_lt i len) [
      | inl before ↦ old i before ∙ was.kept i before not
      | inr past ↦ let here : i ≡ len = omega arith in at_end i here ∙ else (subst (λ (n : ℕ). ¬ MayHoldAny u n) here not) ∙ ap (λ n. get_or content n 0) (sym here)
    ];
  }
    where
      long : length new ≡ len + 1
      long = let e = ap length is ∙ length-append image (byte ∷ []) in omega (arith, e, was.long)

      old : (i : ℕ) → i < len → get_or new i 0 ≡ get_or image i 0
      old i below = ap (λ l. get_or l i 0) is ∙ get_or_append_left image (byte ∷ []) 0 i (omega (arith, was.long))

      at_end : (i : ℕ) → i ≡ len → get_or new i 0 ≡ byte
      at_end i here = ap (λ l. get_or l i 0) is ∙ get_or_push image byte 0 i (was.long ∙ sym here)

  -- between the least and the greatest length it is an image
  pub filled_is_image : (image : List ℕ) → u.least ≤ len → len ≤ u.greatest → ((i : ℕ) → get_or image i 0 < 256) → IsFilled content u fill len image → IsImage content u image
  filled_is_image image least greatest bytes filled = record {
    no_shorter = omega (arith, filled.long);
    no_longer = omega (arith, filled.long);
    bytes = bytes;
    stays = λ i below apart. filled.kept i (omega arith) (λ may. elim may [
      | inl past ↦ absurd (omega arith)
      | inr inside ↦ absurd (apart inside)
    ]);
  }
