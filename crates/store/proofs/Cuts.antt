-- Documents and where they start: the starts of a block are those of its documents, and of no others.
use Rattle.std.proofs.Common.{ℕ, zero, suc, List, [], ◌∷◌, ◌++◌, ◌≡◌, ◌≤◌, ◌<◌, ◌+◌, ◌-◌, ◌*◌, ◌^◌, ◌&&◌, true, nat_eq, nat_le, refl, sym, ap, ap₂, ◌∙◌, subst, arith, append_assoc, append-nil, length, take, drop, get_or, flat_map, length-append}
use Rattle.std.proofs.lemmas.Bool.Decides.{nat_tests}
use Rattle.std.proofs.lemmas.List.{get_or-append-add, length-drop, length-take-le, take-append-drop}
use Rattle.std.proofs.lemmas.Nat.{from_le_bytes-to_le_bytes_4, le_bytes_4}
use Rattle.std.proofs.Math.Seq.{drop-append_seam, take-append_seam, drop-append-add}
use Rattle.std.specs.Int.{from_le_bytes, w32}
use Rattle.std.specs.List.{concat, slice_range}
use Rattle.definitions.proofs.Lists.{both_true as both}
use Rattle.definitions.specs.NumberCodes.{AreBytes, u32_bytes}
use Rattle.layouts.specs.Stores.{starts}
use Rattle.store.specs.Reading.{are_starts, ascend, number_at, numbers}
use Rattle.store.specs.Writing.{cut}

-- ---- lists

-- parts of equal length are equal
pub append_same : {A : Type 0} (a b c d : List A) → a ++ b ≡ c ++ d → length a ≡ length c → (a ≡ c) × (b ≡ d)
append_same a b c d e same =
    (sym (take-append_seam a b) ∙ ap₂ (λ n xs. take n xs) same e ∙ take-append_seam c d, sym (drop-append_seam a b) ∙ ap₂ (λ n xs. drop n xs) same e ∙ drop-append_seam c d)

-- each is a number of 32 bits
abbrev pub AreSmall : List ℕ → Type 0
AreSmall ns = (i : ℕ) → get_or ns i 0 < 2 ^ 32

-- ---- numbers of 32 bits

-- numbers that were put are read
pub numbers_back : (ns : List ℕ) → AreSmall ns → numbers (flat_map u32_bytes ns) ≡ ns
numbers_back [] small = refl
numbers_back (n ∷ ns) small = ap₂ (λ m ms. m ∷ ms) (from_le_bytes-to_le_bytes_4 n (small 0)) (numbers_back ns (λ i. small (suc i)))

-- numbers that are read were put
pub numbers_put : (n : ℕ) (bs : List ℕ) → length bs ≡ 4 * n → AreBytes bs → (flat_map u32_bytes (numbers bs) ≡ bs) × (length (numbers bs) ≡ n) × AreSmall (numbers bs)
numbers_put n [] long bytes = (refl, omega arith, λ i. omega arith)
numbers_put n (a ∷ []) long bytes = absurd (omega arith)
numbers_put n (a ∷ b ∷ []) long bytes = absurd (omega arith)
numbers_put n (a ∷ b ∷ c ∷ []) long bytes = absurd (omega arith)
numbers_put zero (a ∷ b ∷ c ∷ d ∷ bs) long bytes = absurd (omega arith)
numbers_put (suc n) (a ∷ b ∷ c ∷ d ∷ bs) long bytes =
    let rest = numbers_put n bs (omega arith) (λ i. bytes (suc (suc (suc (suc i))))) in
    let four : AreBytes (a ∷ b ∷ c ∷ d ∷ []) = first_four in
    let value : ℕ = from_le_bytes w32 (a ∷ b ∷ c ∷ d ∷ []) in
    let spelled : u32_bytes value ≡ a ∷ b ∷ c ∷ d ∷ [] = le_bytes_4 (a ∷ b ∷ c ∷ d ∷ []) value refl four refl in
    let below : value < 2 ^ 32 = omega (arith, four 0, four 1, four 2, four 3) in
    (ap₂ (λ xs ys. xs ++ ys) spelled rest.0, ap suc rest.1, small value below (numbers bs) rest.2)
  where
    first_four : AreBytes (a ∷ b ∷ c ∷ d ∷ [])
    first_four zero = bytes 0
    first_four (suc zero) = bytes 1
    first_four (suc (suc zero)) = bytes 2
    first_four (suc (suc (suc zero))) = bytes 3
    first_four (suc (suc (suc (suc i)))) = omega arith

    small : (m : ℕ) → m < 2 ^ 32 → (ms : List ℕ) → AreSmall ms → AreSmall (m ∷ ms)
    small m below ms others zero = below
    small m below ms others (suc i) = others i

-- the bytes of numbers
pub length_numbers : (ns : List ℕ) → length (flat_map u32_bytes ns) ≡ 4 * length ns
length_numbers [] = refl
length_numbers (n ∷ ns) = omega (arith, length_numbers ns)

-- a number that stands past others
pub number_past : (xs ys : List ℕ) (k : ℕ) → number_at (xs ++ ys) (length xs + k) ≡ number_at ys k
number_past xs ys k =
    let shift : (j : ℕ) → get_or (xs ++ ys) (length xs + k + j) 0 ≡ get_or ys (k + j) 0 = λ j. ap (λ n. get_or (xs ++ ys) n 0) (omega arith) ∙ get_or-append-add xs ys (k + j) 0 in
    ap₂ (λ a b. from_le_bytes w32 (a ∷ b)) (get_or-append-add xs ys k 0) (ap₂ (λ a b. a ∷ b) (shift 1) (ap₂ (λ a b. a ∷ b ∷ []) (shift 2) (shift 3)))

-- the number that was put at an offset is read there
pub number_among : (ns after : List ℕ) (j : ℕ) → AreSmall ns → j < length ns → number_at (flat_map u32_bytes ns ++ after) (4 * j) ≡ get_or ns j 0
number_among [] after j small below = absurd (omega arith)
number_among (n ∷ ns) after zero small below = from_le_bytes-to_le_bytes_4 n (small 0)
number_among (n ∷ ns) after (suc j) small below =
    let at : 4 * suc j ≡ length (u32_bytes n) + 4 * j = omega arith in
    let apart : flat_map u32_bytes (n ∷ ns) ++ after ≡ u32_bytes n ++ (flat_map u32_bytes ns ++ after) = append_assoc (u32_bytes n) (flat_map u32_bytes ns) after in
    ap₂ number_at apart at ∙ number_past (u32_bytes n) (flat_map u32_bytes ns ++ after) (4 * j) ∙ number_among ns after j (λ i. small (suc i)) (omega arith)

-- ---- starts

pub length_starts : (docs : List (List ℕ)) (at : ℕ) → length (starts at docs) ≡ length docs
length_starts [] at = refl
length_starts (doc ∷ docs) at = ap suc (length_starts docs (at + length doc))

ascend_le : (ss : List ℕ) (end at : ℕ) → ascend end at ss ≡ true → at ≤ end
ascend_le [] end at up = (let e : at ≤ end = grind (arith, nat_tests) in e)
ascend_le (s ∷ ss) end at up =
    let parts = both (nat_le at s) (ascend end s ss) up in
    let first = parts.0 in
    let e : at ≤ s = grind (arith, nat_tests) in
    let later = ascend_le ss end s parts.1 in
    omega arith

-- the starts of documents don't fall
ascend_starts : (docs : List (List ℕ)) (end at s : ℕ) → at ≤ s → end ≡ s + length (concat docs) → ascend end at (starts s docs) ≡ true
ascend_starts [] end at s low e = (let h : at ≤ end = omega arith in let t : nat_le at end ≡ true = grind (arith, nat_tests) in t)
ascend_starts (doc ∷ docs) end at s low e =
    let t : nat_le at s ≡ true = grind (arith, nat_tests) in
    let long : length (doc ++ concat docs) ≡ length doc + length (concat docs) = length-append doc (concat docs) in
    ap₂ (λ x y. x && y) t (ascend_starts docs end s (s + length doc) (omega arith) (omega arith))

pub are_starts_of : (docs : List (List ℕ)) → are_starts (length (concat docs)) (starts 0 docs) ≡ true
are_starts_of [] = refl
are_starts_of (doc ∷ docs) = ascend_starts docs (length (doc ++ concat docs)) 0 (0 + length doc) (omega arith) (omega (arith, length-append doc (concat docs)))

-- they are the bytes, and start there
pub record IsCut (s : ℕ) (ss bs : List ℕ) : Type 0 where
  pub whole : concat (cut (s ∷ ss) bs) ≡ bs
  pub starts_are : starts s (cut (s ∷ ss) bs) ≡ s ∷ ss

is_cut : (ss : List ℕ) (s : ℕ) (bs : List ℕ) → ascend (s + length bs) s ss ≡ true → IsCut s ss bs
is_cut [] s bs up = record { whole = append-nil bs; starts_are = refl }
is_cut (t ∷ ss) s bs up =
    let parts = both (nat_le s t) (ascend (s + length bs) t ss) up in
    let first = parts.0 in
    let low : s ≤ t = grind (arith, nat_tests) in
    let high : t ≤ s + length bs = ascend_le ss (s + length bs) t parts.1 in
    let fits : t - s ≤ length bs = omega arith in
    let left : t + length (drop (t - s) bs) ≡ s + length bs = omega (arith, length-drop (t - s) bs) in
    let rest = is_cut ss t (drop (t - s) bs) (subst (λ e. ascend e t ss ≡ true) (sym left) parts.1) in
    let next : s + length (take (t - s) bs) ≡ t = omega (arith, length-take-le (t - s) bs fits) in
    record {
      whole = ap (λ xs. take (t - s) bs ++ xs) rest.whole ∙ take-append-drop (t - s) bs;
      starts_are = ap (λ xs. s ∷ xs) (ap (λ at. starts at (cut (t ∷ ss) (drop (t - s) bs))) next ∙ rest.starts_are);
    }

-- offsets at which documents start are those of some documents
pub cut_at_starts : (ss bs : List ℕ) → are_starts (length bs) ss ≡ true → (docs : List (List ℕ)) × (concat docs ≡ bs) × (starts 0 docs ≡ ss)
cut_at_starts [] [] up = ([], refl, refl)
cut_at_starts [] (b ∷ bs) up = (let e : suc (length bs) ≡ 0 = grind (arith, nat_tests) in absurd (omega arith))
cut_at_starts (s ∷ ss) bs up =
    let parts = both (nat_eq s 0) (ascend (length bs) 0 ss) up in
    let first = parts.0 in
    let zeroth : s ≡ 0 = grind (arith, nat_tests) in
    let made = is_cut ss 0 bs (subst (λ e. ascend e 0 ss ≡ true) (sym (omega arith)) parts.1) in
    (cut (0 ∷ ss) bs, made.whole, made.starts_are ∙ ap (λ n. n ∷ ss) (sym zeroth))

-- ---- one document

-- a document stands from its start to the next one, the last to the end of all
abbrev pub end_of : List (List ℕ) → ℕ → ℕ
end_of docs j = length (concat (take (suc j) docs))

pub start_at : (docs : List (List ℕ)) (s j : ℕ) → j < length docs → get_or (starts s docs) j 0 ≡ s + length (concat (take j docs))
start_at [] s j below = absurd (omega arith)
start_at (doc ∷ docs) s zero below = omega arith
start_at (doc ∷ docs) s (suc j) below = start_at docs (s + length doc) j (omega arith) ∙ (let long : length (doc ++ concat (take j docs)) ≡ length doc + length (concat (take j docs)) = length-append doc (concat (take j docs)) in omega arith)

pub document_at : (docs : List (List ℕ)) (j : ℕ) (after : List ℕ) → j < length docs → slice_range (concat docs ++ after) (length (concat (take j docs))) (length (concat (take (suc j) docs))) ≡ get_or docs j []
document_at [] j after below = absurd (omega arith)
document_at (doc ∷ docs) zero after below =
    let same : doc ++ [] ≡ doc = append-nil doc in
    ap (λ n. take n ((doc ++ concat docs) ++ after)) (let e : length (doc ++ []) - 0 ≡ length doc = omega (arith, ap length same) in e) ∙ ap (λ xs. take (length doc) xs) (append_assoc doc (concat docs) after) ∙ take-append_seam doc (concat docs ++ after)
document_at (doc ∷ docs) (suc j) after below =
    let a : ℕ = length (concat (take j docs)) in
    let b : ℕ = length (concat (take (suc j) docs)) in
    let start : length (doc ++ concat (take j docs)) ≡ length doc + a = length-append doc (concat (take j docs)) in
    let end : length (doc ++ concat (take (suc j) docs)) ≡ length doc + b = length-append doc (concat (take (suc j) docs)) in
    let size : length doc + b - (length doc + a) ≡ b - a = omega arith in
    ap₂ (λ m n. take (n - m) (drop m ((doc ++ concat docs) ++ after))) start end
    ∙ ap₂ (λ n xs. take n (drop (length doc + a) xs)) size (append_assoc doc (concat docs) after)
    ∙ ap (take (b - a)) (drop-append-add doc (concat docs ++ after) a)
    ∙ document_at docs j after (omega arith)
