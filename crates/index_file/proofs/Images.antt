-- What a crash may leave of a file of records, in each step.
use Rattle.std.proofs.Common.{[], List, ap, ap₂, append-nil, append_assoc, arith, drop, get_or, inl, inr, length, length-append, length-drop, refl, subst, suc, sym, take, ◌++◌, ◌+◌, ◌-◌, ◌<◌, ◌^◌, ◌∙◌, ◌∷◌, ◌≡◌, ◌≢◌, ◌≤◌, ◌⊎◌, ℕ}
use Rattle.std.proofs.lemmas.Bool.{cases_lt}
use Rattle.std.proofs.lemmas.List.{drop_at, ext_get_or, get_or-append_right, get_or-drop, get_or-take, get_or_append_left, take_all, take_at}
use Rattle.std.proofs.Math.Seq.{drop-cons}
use Rattle.definitions.specs.Disk.{IsImage, IsInRange, overwritten, settled, shortened, written}
use Rattle.definitions.proofs.CallImages.{overwritten-outside, settled-image}
use Rattle.layouts.specs.RecordFiles.{AreShort, EndsAt, IsAtRest, IsFile, IsOneOf, records, sized_body}
use Rattle.layouts.proofs.FilesOfRecords.{IsFlat, ends_at_rest, file_of, flat, gate_inside, records_more, same_file, same_front, short_more}
use Rattle.index_file.specs.Frames.{frame_bytes}

-- ---- a frame behind the closed gate

-- no index below a range is in it
below_range : (from to i : ℕ) → i < from → ¬ IsInRange ((from, to) ∷ []) i
below_range from to i below (inl within) = omega arith
below_range from to i below (inr none) = none

above_range : (from to i : ℕ) → to ≤ i → ¬ IsInRange ((from, to) ∷ []) i
above_range from to i above (inl within) = omega arith
above_range from to i above (inr none) = none

-- while a frame is written, the file is as before
pub frame_images : (bodies : List (List ℕ)) (content frame image : List ℕ) (gate : ℕ) → IsAtRest content gate bodies → IsImage (overwritten (gate + 1) frame content) (written (gate + 1) (length frame) (settled (length content))) image → IsFile bodies image
frame_images bodies content frame image gate rest is =
    let long : length content ≡ gate + 1 = rest.length_is in
    let no_shorter : length content ≤ length image = is.no_shorter in
    same_file bodies content image gate (ends_at_rest bodies content gate rest) (omega arith)
    (λ i below. is.stays i (omega arith) (below_range (gate + 1) (gate + 1 + length frame) i below) ∙ overwritten-outside (gate + 1) frame content i (omega arith) (inl below))

-- a frame at the end
pub framed_content : (content frame : List ℕ) (at : ℕ) → length content ≡ at → overwritten at frame content ≡ content ++ frame
framed_content content frame at long =
    let front : take at content ≡ content = take_all at content (omega arith) in
    let none : drop (at + length frame) content ≡ [] = none_after content (at + length frame) (omega arith) in
    ap₂ (λ (x y : List ℕ). x ++ frame ++ y) front none ∙ append-nil (content ++ frame)
  where
    none_after : (l : List ℕ) (n : ℕ) → length l ≤ n → drop n l ≡ []
    none_after l n past = ext_get_or 0 (drop n l) [] (omega (arith, length-drop n l)) (λ i below. absurd (omega (arith, length-drop n l)))

-- ---- the gate before a frame

-- a content at rest is its records and its closed gate
at_rest_bytes : (bodies : List (List ℕ)) (content : List ℕ) (gate : ℕ) (rest : IsAtRest content gate bodies) → content ≡ records bodies ++ (flat rest.file).gate ∷ []
at_rest_bytes bodies content gate rest =
    let f : IsFlat bodies content = flat rest.file in
    let long : length f.rest ≡ 0 = omega (arith, rest.length_is, rest.place, ap length f.whole, length-append (records bodies) (f.gate ∷ f.rest)) in
    f.whole ∙ ap (λ (l : List ℕ). records bodies ++ f.gate ∷ l) (none f.rest long)
  where
    none : (l : List ℕ) → length l ≡ 0 → l ≡ []
    none [] e = refl
    none (x ∷ l) e = absurd (omega arith)

-- what has the records, any gate and the frame
pub record IsGated (bodies : List (List ℕ)) (frame image : List ℕ) : Type 0 where
  pub gate : ℕ
  pub whole : image ≡ records bodies ++ gate ∷ frame

-- bytes that are alike but at the gate
pub gated : (bodies : List (List ℕ)) (content frame image : List ℕ) (gate : ℕ) → IsAtRest content gate bodies → length image ≡ length (content ++ frame) → ((i : ℕ) → i < length (content ++ frame) → (i < gate) ⊎ (gate + 1 ≤ i) → get_or image i 0 ≡ get_or (content ++ frame) i 0)
    → IsGated bodies frame image
gated bodies content frame image gate rest long same =
    let front = records bodies in
    let offset : gate ≡ length front = rest.place in
    let whole : length content ≡ gate + 1 = rest.length_is in
    let all : length (content ++ frame) ≡ gate + 1 + length frame = omega (arith, length-append content frame) in
    let bytes : content ≡ front ++ (flat rest.file).gate ∷ [] = at_rest_bytes bodies content gate rest in
    let first : (i : ℕ) → i < length front → get_or image i 0 ≡ get_or front i 0 =
    λ i below. same i (omega arith) (inl (omega arith)) ∙ get_or_append_left content frame 0 i (omega arith) ∙ ap (λ (l : List ℕ). get_or l i 0) bytes ∙ get_or_append_left front ((flat rest.file).gate ∷ []) 0 i below in
    let split : image ≡ front ++ drop (length front) image = same_front front image (omega arith) first in
    let next : drop (length front) image ≡ get_or image (length front) 0 ∷ drop (suc (length front)) image = drop-cons image (length front) 0 (omega arith) in
    let left : length (drop (suc (length front)) image) ≡ length frame = omega (arith, length-drop (suc (length front)) image) in
    let after : drop (suc (length front)) image ≡ frame =
    ext_get_or 0 (drop (suc (length front)) image) frame left
    (λ i below.
    let index : suc (length front) + i - (gate + 1) ≡ i = omega arith in
    get_or-drop (suc (length front)) image i 0 ∙ same (suc (length front) + i) (omega arith) (inr (omega arith))
    ∙ get_or-append_right content frame (gate + 1) (suc (length front) + i) 0 whole (omega arith)
    ∙ ap (λ (n : ℕ). get_or frame n 0) index) in
    record {
      gate = get_or image (length front) 0;
      whole = split ∙ ap (λ (l : List ℕ). front ++ l) (next ∙ ap (λ (l : List ℕ). get_or image (length front) 0 ∷ l) after);
    }

-- the records with one more, and a closed gate
opened_bytes : (bodies : List (List ℕ)) (body : List ℕ) → records bodies ++ 165 ∷ frame_bytes body ≡ records (bodies ++ body ∷ []) ++ 0 ∷ []
opened_bytes bodies body =
    sym (append_assoc (records bodies) (165 ∷ sized_body body) (0 ∷ [])) ∙ ap (λ (l : List ℕ). l ++ 0 ∷ []) (sym (records_more bodies body))

-- with an open gate there is one body more, and with another gate there isn't
gated_file : (bodies : List (List ℕ)) (body frame image : List ℕ) → AreShort bodies → length body < 2 ^ 64 → frame ≡ frame_bytes body → IsGated bodies frame image → IsOneOf bodies (bodies ++ body ∷ []) image
gated_file bodies body frame image short few framed is = go (cases_eq is.gate 165)
  where
    cases_eq : (n m : ℕ) → (n ≡ m) ⊎ (n ≢ m)
    cases_eq n m = elim (cases_lt n m) [
      | inl below ↦ inr (λ e. omega arith)
      | inr from ↦ elim (cases_lt m n) [
        | inl above ↦ inr (λ e. omega arith)
        | inr to ↦ inl (omega arith)
      ]
    ]

    go : (is.gate ≡ 165) ⊎ (is.gate ≢ 165) → IsOneOf bodies (bodies ++ body ∷ []) image
    go (inl same) =
        let bytes : image ≡ records (bodies ++ body ∷ []) ++ 0 ∷ [] = is.whole ∙ ap₂ (λ (n : ℕ) (l : List ℕ). records bodies ++ n ∷ l) same framed ∙ opened_bytes bodies body in
        inr (subst (λ (l : List ℕ). IsFile (bodies ++ body ∷ []) l) (sym bytes) (file_of (bodies ++ body ∷ []) 0 [] (λ e. omega arith) (short_more bodies body short few)))
    go (inr other) = inl (subst (λ (l : List ℕ). IsFile bodies l) (sym is.whole) (file_of bodies is.gate frame other short))

-- while the gate is opened, the file has the old bodies or one more
pub gate_images : (bodies : List (List ℕ)) (body content frame image : List ℕ) (gate : ℕ) → IsAtRest content gate bodies → length body < 2 ^ 64 → frame ≡ frame_bytes body
    → IsImage (overwritten gate (165 ∷ []) (content ++ frame)) (written gate 1 (settled (length (content ++ frame)))) image → IsOneOf bodies (bodies ++ body ∷ []) image
gate_images bodies body content frame image gate rest few framed is =
    let whole : length content ≡ gate + 1 = rest.length_is in
    let all : length (content ++ frame) ≡ gate + 1 + length frame = omega (arith, length-append content frame) in
    let no_shorter : length (content ++ frame) ≤ length image = is.no_shorter in
    let no_longer = is.no_longer in
    let long : length image ≡ length (content ++ frame) = omega arith in
    gated_file bodies body frame image (flat rest.file).short few framed
    (gated bodies content frame image gate rest long (λ i below apart. is.stays i below (out i apart) ∙ overwritten-outside gate (165 ∷ []) (content ++ frame) i (omega arith) apart))
  where
    out : (i : ℕ) → (i < gate) ⊎ (gate + 1 ≤ i) → ¬ IsInRange ((gate, gate + 1) ∷ []) i
    out i (inl below) = below_range gate (gate + 1) i below
    out i (inr above) = above_range gate (gate + 1) i above

-- the gate is open
pub gate_opened : (bodies : List (List ℕ)) (body content frame : List ℕ) (gate : ℕ) → IsAtRest content gate bodies → length body < 2 ^ 64 → frame ≡ frame_bytes body
    → IsAtRest (overwritten gate (165 ∷ []) (content ++ frame)) (gate + length frame) (bodies ++ body ∷ [])
gate_opened bodies body content frame gate rest few framed =
    let front = records bodies in
    let offset : gate ≡ length front = rest.place in
    let old = (flat rest.file).gate in
    let bytes : content ++ frame ≡ front ++ old ∷ frame = ap (λ (l : List ℕ). l ++ frame) (at_rest_bytes bodies content gate rest) ∙ append_assoc front (old ∷ []) frame in
    let before : take gate (content ++ frame) ≡ front = ap (λ (l : List ℕ). take gate l) bytes ∙ take_at front (old ∷ frame) gate (sym offset) in
    let after : drop (gate + 1) (content ++ frame) ≡ frame = drop_at content frame (gate + 1) rest.length_is in
    let whole : overwritten gate (165 ∷ []) (content ++ frame) ≡ records (bodies ++ body ∷ []) ++ 0 ∷ [] =
    ap₂ (λ (x y : List ℕ). x ++ (165 ∷ []) ++ y) before after ∙ append_assoc front (165 ∷ []) frame ∙ ap (λ (l : List ℕ). front ++ 165 ∷ l) framed ∙ opened_bytes bodies body in
    let long : length (records (bodies ++ body ∷ [])) ≡ gate + length frame = omega (arith, ap length (records_more bodies body), ap length framed, length-append front (165 ∷ sized_body body), length-append body (0 ∷ [])) in
    record {
      file = subst (λ (l : List ℕ). IsFile (bodies ++ body ∷ []) l) (sym whole) (file_of (bodies ++ body ∷ []) 0 [] (λ e. omega arith) (short_more bodies body (flat rest.file).short few));
      place = sym long;
      length_is = ap length whole ∙ length-append (records (bodies ++ body ∷ [])) (0 ∷ []) ∙ ap (λ (n : ℕ). n + 1) long;
    }

-- ---- a cut behind the closed gate

pub cut_files : (bodies : List (List ℕ)) (content image : List ℕ) (gate : ℕ) → EndsAt content gate bodies → IsImage (take (gate + 1) content) (shortened (gate + 1) (settled (length content))) image → IsFile bodies image
cut_files bodies content image gate ends is =
    let inside = gate_inside bodies content gate ends in
    let no_shorter = is.no_shorter in
    same_file bodies content image gate ends (omega arith) (λ i below. is.stays i (omega arith) (λ none. none) ∙ get_or-take (gate + 1) content i 0 below)

-- ---- what a crash leaves of a file at rest

pub rest_images : (bodies : List (List ℕ)) (content image : List ℕ) (gate : ℕ) → IsAtRest content gate bodies → IsImage content (settled (length content)) image → IsFile bodies image
rest_images bodies content image gate rest is = subst (λ (l : List ℕ). IsFile bodies l) (sym (settled-image content image is)) rest.file

-- a body behind a gate is short
pub short_body : (gate : ℕ) (frame body : List ℕ) → gate + 1 + length frame ≤ 2 ^ 63 → frame ≡ frame_bytes body → length body < 2 ^ 64
short_body gate frame body room framed = omega (arith, ap length framed, length-append body (0 ∷ []))

-- one closed gate is a file of no body
pub gate_at_rest : IsAtRest (0 ∷ []) 0 []
gate_at_rest = record { file = IsFile.ends 0 [] (λ e. omega arith); place = refl; length_is = refl }
