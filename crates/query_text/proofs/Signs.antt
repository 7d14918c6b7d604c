-- What a text is read as, one byte after the other.
use Rattle.std.proofs.Common.{[], ◌++◌, ◌+◌, ◌-◌, ◌<◌, ◌∙◌, ◌∷◌, ◌≡◌, ◌≤◌, List, ap, append_assoc, arith, drop, false, if◌then◌else◌, length, length-drop, nat_le, sym, take, take_all, true, ℕ}
use Rattle.std.proofs.lemmas.Bool.Decides.{nat_tests}
use Rattle.std.proofs.lemmas.List.{drop_more}
use Rattle.query_text.specs.TypedMarks.{sign_of, signs_from}

-- the signs from a byte on, by whether it belongs to one that is read
signs_at : (text : List ℕ) (o n : ℕ) → o < length text → signs_from o n (drop o text) ≡ if nat_le n o then (o, (sign_of (drop o text)).0) ∷ signs_from (o + 1) (o + (sign_of (drop o text)).1) (drop (o + 1) text) else signs_from (o + 1) n (drop (o + 1) text)
signs_at text o n inside =
    let cut = drop_more text o 0 inside in
    ap (signs_from o n) cut
    ∙ ap (λ (left : List ℕ). if nat_le n o then (o, (sign_of left).0) ∷ signs_from (o + 1) (o + (sign_of left).1) (drop (o + 1) text) else signs_from (o + 1) n (drop (o + 1) text)) (sym cut)

-- one more sign
one_sign : (text : List ℕ) (signs : List (ℕ × ℕ)) (o n : ℕ) → o < length text → n ≤ o → (signs ++ (o, (sign_of (drop o text)).0) ∷ []) ++ signs_from (o + 1) (o + (sign_of (drop o text)).1) (drop (o + 1) text) ≡ signs ++ signs_from o n (drop o text)
one_sign text signs o n inside past =
    let more = (o, (sign_of (drop o text)).0) ∷ signs_from (o + 1) (o + (sign_of (drop o text)).1) (drop (o + 1) text) in
    let read : nat_le n o ≡ true = grind (arith, nat_tests) in
    append_assoc signs ((o, (sign_of (drop o text)).0) ∷ []) (signs_from (o + 1) (o + (sign_of (drop o text)).1) (drop (o + 1) text))
    ∙ ap (λ (left : List (ℕ × ℕ)). signs ++ left) (sym (signs_at text o n inside ∙ ap (λ t. if t then more else signs_from (o + 1) n (drop (o + 1) text)) read))

-- what is read so far with one more, where the list and the next offset are named
pub one_more : (text : List ℕ) (signs pushed longer : List (ℕ × ℕ)) (o n next : ℕ) (sign : ℕ × ℕ) → o < length text → n ≤ o → sign ≡ sign_of (take (length text - o) (drop o text)) → pushed ≡ signs ++ (o, sign.0) ∷ [] → longer ≡ pushed → next ≡ o + sign.1 → longer ++ signs_from (o + 1) next (drop (o + 1) text) ≡ signs ++ signs_from o n (drop o text)
one_more text signs pushed longer o n next sign inside past from made same behind =
    let is = from ∙ ap sign_of (take_all (length text - o) (drop o text) (omega (arith, length-drop o text))) in
    ap (λ (read : List (ℕ × ℕ)). read ++ signs_from (o + 1) next (drop (o + 1) text)) (same ∙ made ∙ ap (λ (s : ℕ × ℕ). signs ++ (o, s.0) ∷ []) is)
    ∙ ap (λ (m : ℕ). (signs ++ (o, (sign_of (drop o text)).0) ∷ []) ++ signs_from (o + 1) m (drop (o + 1) text)) (behind ∙ ap (λ (s : ℕ × ℕ). o + s.1) is)
    ∙ one_sign text signs o n inside past

-- a byte that belongs to one before
pub no_sign : (text : List ℕ) (o n : ℕ) → o < length text → o < n → signs_from (o + 1) n (drop (o + 1) text) ≡ signs_from o n (drop o text)
no_sign text o n inside below =
    let more = (o, (sign_of (drop o text)).0) ∷ signs_from (o + 1) (o + (sign_of (drop o text)).1) (drop (o + 1) text) in
    let read : nat_le n o ≡ false = grind (arith, nat_tests) in
    sym (signs_at text o n inside ∙ ap (λ t. if t then more else signs_from (o + 1) n (drop (o + 1) text)) read)
