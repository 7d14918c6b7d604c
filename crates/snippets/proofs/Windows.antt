-- The longest passages that begin with a piece show as many words as any that begins there.
use Rattle.std.proofs.Common.{[], ◌<◌, ◌∙◌, get_or, map, is_some, ◌+◌, ◌-◌, ◌||◌, ◌∷◌, ◌≡◌, ◌≤◌, Bool, List, None, Option, Some, ap, arith, drop, false, if◌then◌else◌, le-leb, le_refl, le_trans, length, max, nat_le, refl, subst, suc, sym, take, true, true≢false, zero, zero-le, ℕ}
use Rattle.definitions.proofs.Lists.{le_of}
use Rattle.std.proofs.lemmas.List.{take-map}
use Rattle.snippets.specs.Passages.{Piece, has, is_number, max_passage_len, most, reach, shown, size, window}
use Rattle.snippets.specs.Views.{piece_of}
use Rattle.snippets.specs.declared.passages.Piece as code

-- one more before two lists, of which the second passes where the first does
or_more : (a b c : Bool) → (a || b) ≡ true → (b ≡ true → c ≡ true) → (a || c) ≡ true
or_more true b c h f = refl
or_more false b c h f = f h

-- what the first pieces that have room show, as many as have room show
has_more : (k m room : ℕ) (qs : List Piece) → size (take m qs) ≤ room → has k (take m qs) ≡ true → has k (take (reach room qs) qs) ≡ true
has_more k zero room qs fits h = absurd (true≢false (sym h))
has_more k (suc m) room [] fits h = absurd (true≢false (sym h))
has_more k (suc m) room (q ∷ qs) fits h =
    let first : length q.text + size (take m qs) ≤ room = fits in
    let short : length q.text ≤ room = omega (arith, first) in
    let rest : size (take m qs) ≤ room - length q.text = omega (arith, first) in
    subst (λ (b : Bool). has k (take (if b then suc (reach (room - length q.text) qs) else 0) (q ∷ qs)) ≡ true) (sym (le-leb (length q.text) room short)) (or_more (is_number k q.found) (has k (take m qs)) (has k (take (reach (room - length q.text) qs) qs)) h (λ h'. has_more k m (room - length q.text) qs rest h'))

-- a number with one more where a test holds, beside one with one more where another holds
one_more : (a b : Bool) (m n : ℕ) → (a ≡ true → b ≡ true) → m ≤ n → (if a then suc m else m) ≤ (if b then suc n else n)
one_more true true m n f h = omega (arith, h)
one_more true false m n f h = absurd (true≢false (sym (f refl)))
one_more false true m n f h = omega (arith, h)
one_more false false m n f h = h

-- pieces that have each word that others have show as many
shown_more : (ps qs : List Piece) → ((k : ℕ) → has k ps ≡ true → has k qs ≡ true) → (n : ℕ) → shown n ps ≤ shown n qs
shown_more ps qs f zero = le_refl 0
shown_more ps qs f (suc n) = one_more (has n ps) (has n qs) (shown n ps) (shown n qs) (f n) (shown_more ps qs f n)

-- no piece shows nothing
pub none_shown : (n : ℕ) → shown n [] ≡ 0
none_shown zero = refl
none_shown (suc n) = none_shown n

-- the first pieces that are a passage show no more than the longest
widest : (n m : ℕ) (qs : List Piece) → size (take m qs) ≤ max_passage_len → shown n (take m qs) ≤ shown n (window qs)
widest n m qs fits = shown_more (take m qs) (window qs) (λ k h. has_more k m max_passage_len qs fits h) n

-- pieces up to where they reach have room
reach_fits : (room : ℕ) (qs : List Piece) → size (take (reach room qs) qs) ≤ room
reach_fits room [] = omega arith
reach_fits room (q ∷ qs) = elim (nat_le (length q.text) room) as (λ (b : Bool). nat_le (length q.text) room ≡ b → size (take (if b then suc (reach (room - length q.text) qs) else 0) (q ∷ qs)) ≤ room) [
  | true ↦ (λ e. let short : length q.text ≤ room = le_of (length q.text) room e in let rest : size (take (reach (room - length q.text) qs) qs) ≤ room - length q.text = reach_fits (room - length q.text) qs in let all : length q.text + size (take (reach (room - length q.text) qs) qs) ≤ room = omega (arith, short, rest) in all)
  | false ↦ (λ e. zero-le)
] refl

-- the longest passage is a passage
pub window_fits : (qs : List Piece) → size (window qs) ≤ max_passage_len
window_fits qs = reach_fits max_passage_len qs

-- the most of some numbers is none below the first, nor below the most of the others
max_first : (a b : ℕ) → a ≤ max a b
max_first a b = omega arith

max_second : (a b : ℕ) → b ≤ max a b
max_second a b = omega arith

-- no longest passage shows more than the most
pub most_from : (n i : ℕ) (ps : List Piece) → shown n (window (drop i ps)) ≤ most n ps
most_from n zero [] = let none : shown n [] ≡ 0 = none_shown n in omega (arith, none)
most_from n (suc i) [] = let none : shown n [] ≡ 0 = none_shown n in omega (arith, none)
most_from n zero (p ∷ ps) = max_first (shown n (window (p ∷ ps))) (most n ps)
most_from n (suc i) (p ∷ ps) = le_trans (most_from n i ps) (max_second (shown n (window (p ∷ ps))) (most n ps))

-- no passage does
pub most_of_any : (n i m : ℕ) (ps : List Piece) → size (take m (drop i ps)) ≤ max_passage_len → shown n (take m (drop i ps)) ≤ most n ps
most_of_any n i m ps fits = le_trans (widest n m (drop i ps) fits) (most_from n i ps)

-- a piece without a word has none of any number
numberless : (k : ℕ) (o : Option ℕ) (rest : Bool) → o ≡ None → (is_number k o || rest) ≡ true → rest ≡ true
numberless k None rest e h = h
numberless k (Some j) rest e h = cc

-- a passage that begins with a piece without a word shows no more than those that begin behind it
unmarked_first : (n : ℕ) (p : Piece) (ps : List Piece) → p.found ≡ None → shown n (window (p ∷ ps)) ≤ most n ps
unmarked_first n p ps e = elim (nat_le (length p.text) max_passage_len) as (λ (b : Bool). shown n (take (if b then suc (reach (max_passage_len - length p.text) ps) else 0) (p ∷ ps)) ≤ most n ps) [
  | true ↦ (
      let count : ℕ = reach (max_passage_len - length p.text) ps in
      let fits : size (take count ps) ≤ max_passage_len - length p.text = reach_fits (max_passage_len - length p.text) ps in
      let fewer : size (take count ps) ≤ max_passage_len = omega (arith, fits) in
      le_trans (shown_more (p ∷ take count ps) (window ps) (λ k h. has_more k count max_passage_len ps fewer (numberless k p.found (has k (take count ps)) e h)) n) (most_from n 0 ps))
  | false ↦ (let none : shown n [] ≡ 0 = none_shown n in omega (arith, none))
]

-- it doesn't change the most
pub unmarked_most : (n : ℕ) (p : Piece) (ps : List Piece) → p.found ≡ None → most n (p ∷ ps) ≡ most n ps
unmarked_most n p ps e = let less : shown n (window (p ∷ ps)) ≤ most n ps = unmarked_first n p ps e in let is : most n (p ∷ ps) ≡ max (shown n (window (p ∷ ps))) (most n ps) = refl in omega (arith, less, is)

-- ---- pieces of the code

-- behind all pieces nothing is shown
pub none_left : (n : ℕ) (ps : List code.Piece) → shown n (window (map piece_of (drop (length ps) ps))) ≡ 0
none_left n [] = none_shown n
none_left n (p ∷ ps) = none_left n ps

-- the first pieces, as the definitions have them
pub first_pieces : (n m : ℕ) (ps : List code.Piece) → n ≡ m → map piece_of (take n ps) ≡ take m (map piece_of ps)
first_pieces n m ps e = sym (take-map piece_of n ps) ∙ ap (λ k. take k (map piece_of ps)) e

-- the most from a piece on
pub most_more : (n i j : ℕ) (ps : List code.Piece) → j ≡ suc i → i < length ps → most n (map piece_of (drop i ps)) ≡ max (shown n (window (map piece_of (drop i ps)))) (most n (map piece_of (drop j ps)))
most_more n i j ps e lt = subst (λ k. most n (map piece_of (drop i ps)) ≡ max (shown n (window (map piece_of (drop i ps)))) (most n (map piece_of (drop k ps)))) (sym e) (go i ps lt)
  where
    go : (i : ℕ) (ps : List code.Piece) → i < length ps → most n (map piece_of (drop i ps)) ≡ max (shown n (window (map piece_of (drop i ps)))) (most n (map piece_of (drop (suc i) ps)))
    go i [] lt = absurd (omega (arith, lt))
    go zero (p ∷ ps) lt = refl
    go (suc i) (p ∷ ps) lt = go i ps (omega (arith, lt))

-- a piece that has no word has none
none_found : (o : Option ℕ) → is_some o ≡ false → o ≡ None
none_found None e = refl
none_found (Some x) e = cc

-- the most from a piece without a word on
pub most_same : (n i j : ℕ) (ps : List code.Piece) (d : code.Piece) → j ≡ suc i → i < length ps → is_some (get_or ps i d).found ≡ false → most n (map piece_of (drop i ps)) ≡ most n (map piece_of (drop j ps))
most_same n i j ps d e lt none = subst (λ k. most n (map piece_of (drop i ps)) ≡ most n (map piece_of (drop k ps))) (sym e) (go i ps lt none)
  where
    go : (i : ℕ) (ps : List code.Piece) → i < length ps → is_some (get_or ps i d).found ≡ false → most n (map piece_of (drop i ps)) ≡ most n (map piece_of (drop (suc i) ps))
    go i [] lt none = absurd (omega (arith, lt))
    go zero (p ∷ ps) lt none = unmarked_most n (piece_of p) (map piece_of ps) (none_found p.found none)
    go (suc i) (p ∷ ps) lt none = go i ps (omega (arith, lt)) none
