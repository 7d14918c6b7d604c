-- Short keys as numbers, and back.
use Rattle.std.proofs.Common.{[], ◌%◌, ◌*◌, ◌++◌, ◌+◌, ◌-◌, ◌/◌, ◌<◌, ◌^◌, ◌∙◌, ◌∷◌, ◌≡◌, ◌≤◌, List, add-mul, ap, ap₂, arith, drop, get_or, length, mul_assoc, mul_comm, one-mul, refl, replicate, subst, suc, sym, take, zero, ℕ}
use Rattle.std.specs.Int.{byte_at, bytes_high_first, to_be_bytes, w128}
use Rattle.std.specs.List.{AllByRecursion}
use Rattle.std.proofs.Math.Nat.{div-div-eq-div-mul, div-lt_iff_lt-mul, pow-suc}
use Rattle.std.proofs.lemmas.Nat.{mod-mul-add, pow-add}
use Rattle.std.proofs.Math.Seq.{take-append_seam}
use Rattle.std.proofs.lemmas.List.{append_assoc, drop-drop, length-append, length-drop, take-append-drop, take_rest}
use Rattle.definitions.proofs.Lists.{base_pos as pow_pos, byte_is}
use Rattle.postings_writer.specs.PackedKeys.{IsShort, key_of, masked, packed, padded, unmasked, unpacked, worth}

-- ---- bytes of a number

-- the number in front of bytes
front : (n : ℕ) (bs : List ℕ) → AllByRecursion (λ b. b < 256) bs → worth n bs / 256 ^ length bs ≡ n
front n [] all = omega arith
front n (b ∷ bs) all =
    let p = 256 ^ length bs in
    let w = worth (n * 256 + b) bs in
    let here : w / p ≡ n * 256 + b = front (n * 256 + b) bs all.1 in
    let small = all.0 in
    let both : w / (p * 256) ≡ w / p / 256 = sym (div-div-eq-div-mul w p 256) in
    ap (λ q. w / q) (pow-suc 256 (length bs)) ∙ both ∙ ap (λ m. m / 256) here ∙ omega (arith, small)

-- bytes are read back
pub bytes_back : (n : ℕ) (bs : List ℕ) → AllByRecursion (λ b. b < 256) bs → bytes_high_first (length bs) (worth n bs) ≡ bs
bytes_back n [] all = refl
bytes_back n (b ∷ bs) all =
    let w = worth (n * 256 + b) bs in
    let small = all.0 in
    let first : byte_at (length bs) w ≡ b = byte_is (length bs) w ∙ ap (λ m. m % 256) (front (n * 256 + b) bs all.1) ∙ omega (arith, small) in
    ap₂ (λ x xs. x ∷ xs) first (bytes_back (n * 256 + b) bs all.1)

-- ---- a short key is read back

all_append : (xs ys : List ℕ) → AllByRecursion (λ b. b < 256) xs → AllByRecursion (λ b. b < 256) ys → AllByRecursion (λ b. b < 256) (xs ++ ys)
all_append [] ys some more = more
all_append (x ∷ xs) ys some more = (some.0, all_append xs ys some.1 more)

all_zeros : (k : ℕ) → AllByRecursion (λ b. b < 256) (replicate k 0)
all_zeros zero = tt
all_zeros (suc k) = (omega arith, all_zeros k)

padded_bytes : (key : List ℕ) → IsShort key → AllByRecursion (λ b. b < 256) (padded key)
padded_bytes key short = (let few : length key ≤ 15 = short.short in all_append key _ short.bytes (all_append (replicate (15 - length key) 0) (length key ∷ []) (all_zeros (15 - length key)) (omega arith, tt)))

length_zeros : (k : ℕ) → length {A = ℕ} (replicate k 0) ≡ k
length_zeros zero = refl
length_zeros (suc k) = (let later : length {A = ℕ} (replicate k 0) ≡ k = length_zeros k in omega (arith, later))

length_padded : (key : List ℕ) → IsShort key → length (padded key) ≡ 16
length_padded key short =
    let few : length key ≤ 15 = short.short in
    let a = length-append key (replicate (15 - length key) 0 ++ length key ∷ []) in
    let b = length-append (replicate (15 - length key) 0) (length key ∷ []) in
    let c : length {A = ℕ} (replicate (15 - length key) 0) ≡ 15 - length key = length_zeros (15 - length key) in
    omega arith

pub packed_bytes : (key : List ℕ) → IsShort key → to_be_bytes w128 (packed key) ≡ padded key
packed_bytes key short = subst (λ k. bytes_high_first k (packed key) ≡ padded key) (length_padded key short) (bytes_back 0 (padded key) (padded_bytes key short))

-- what stands behind `n`
at_end : (xs ys : List ℕ) (x : ℕ) (n : ℕ) → length xs ≡ n → get_or (xs ++ x ∷ ys) n 0 ≡ x
at_end [] ys x zero is = refl
at_end [] ys x (suc n) is = cc
at_end (y ∷ xs) ys x zero is = cc
at_end (y ∷ xs) ys x (suc n) is = at_end xs ys x n (omega (arith, is))

last_of : (key : List ℕ) → IsShort key → get_or (padded key) 15 0 ≡ length key
last_of key short =
    let few : length key ≤ 15 = short.short in
    let zeros = replicate (15 - length key) 0 in
    let a = length-append key zeros in
    let c : length {A = ℕ} (replicate (15 - length key) 0) ≡ 15 - length key = length_zeros (15 - length key) in
    subst (λ (bs : List ℕ). get_or bs 15 0 ≡ length key) (append_assoc key zeros (length key ∷ [])) (at_end (key ++ zeros) [] (length key) 15 (omega arith))

pub key_back : (key : List ℕ) → IsShort key → key_of (padded key) ≡ key
key_back key short =
    ap (λ n. take n (padded key)) (last_of key short) ∙ take-append_seam key (replicate (15 - length key) 0 ++ length key ∷ [])

pub unpacked_packed : (key : List ℕ) → IsShort key → key_of (to_be_bytes w128 (packed key)) ≡ key
unpacked_packed key short = ap key_of (packed_bytes key short) ∙ key_back key short

-- ---- numbers of keys

-- the lowest bytes, as the highest of eight
pub lowest : (k n : ℕ) → k < 8 → n * 2 ^ (8 * (7 - k)) % 18446744073709551616 * 256 % 18446744073709551616 ≡ n % 256 ^ k * 256 ^ (8 - k)
lowest zero n below = omega arith
lowest (suc zero) n below = omega arith
lowest (suc (suc zero)) n below = omega arith
lowest (suc (suc (suc zero))) n below = omega arith
lowest (suc (suc (suc (suc zero)))) n below = omega arith
lowest (suc (suc (suc (suc (suc zero))))) n below = omega arith
lowest (suc (suc (suc (suc (suc (suc zero)))))) n below = omega arith
lowest (suc (suc (suc (suc (suc (suc (suc zero))))))) n below = omega arith
lowest (suc (suc (suc (suc (suc (suc (suc (suc k)))))))) n below = absurd (omega arith)

-- bytes behind others
worth_append : (n : ℕ) (xs ys : List ℕ) → worth n (xs ++ ys) ≡ worth (worth n xs) ys
worth_append n [] ys = refl
worth_append n (x ∷ xs) ys = worth_append (n * 256 + x) xs ys

worth_add : (n : ℕ) (bs : List ℕ) → worth n bs ≡ n * 256 ^ length bs + worth 0 bs
worth_add n [] = omega arith
worth_add n (b ∷ bs) =
    let p = 256 ^ length bs in
    let here : worth (n * 256 + b) bs ≡ (n * 256 + b) * p + worth 0 bs = worth_add (n * 256 + b) bs in
    let there : worth (0 * 256 + b) bs ≡ (0 * 256 + b) * p + worth 0 bs = worth_add (0 * 256 + b) bs in
    let power : 256 ^ suc (length bs) ≡ p * 256 = pow-suc 256 (length bs) in
    let spread : (n * 256 + b) * p ≡ n * (p * 256) + b * p = spread_out n b p in
    let alone : (0 * 256 + b) * p ≡ b * p = ap (λ m. m * p) (zero_plus b) in
    here ∙ ap (λ m. m + worth 0 bs) spread ∙ assoc (n * (p * 256)) (b * p) (worth 0 bs) ∙ ap₂ (λ q w. n * q + w) (sym power) (ap (λ m. m + worth 0 bs) (sym alone) ∙ sym there)
  where
    spread_out : (n b p : ℕ) → (n * 256 + b) * p ≡ n * (p * 256) + b * p
    spread_out n b p = add-mul (n * 256) b p ∙ ap (λ m. m + b * p) (mul_assoc n 256 p ∙ ap (λ q. n * q) (mul_comm 256 p))

    zero_plus : (m : ℕ) → 0 * 256 + m ≡ m
    zero_plus m = omega arith

    assoc : (x y z : ℕ) → x + y + z ≡ x + (y + z)
    assoc x y z = omega arith

worth_zeros : (n k : ℕ) → worth n (replicate k 0) ≡ n * 256 ^ k
worth_zeros n zero = omega arith
worth_zeros n (suc k) = worth_zeros (n * 256 + 0) k ∙ shifted n (256 ^ k) ∙ ap (λ q. n * q) (sym (pow-suc 256 k))
  where
    plus_zero : (m : ℕ) → m + 0 ≡ m
    plus_zero m = omega arith

    shifted : (n p : ℕ) → (n * 256 + 0) * p ≡ n * (p * 256)
    shifted n p = ap (λ m. m * p) (plus_zero (n * 256)) ∙ mul_assoc n 256 p ∙ ap (λ q. n * q) (mul_comm 256 p)

-- bytes alone are below the power of their number
worth_below : (bs : List ℕ) → AllByRecursion (λ b. b < 256) bs → worth 0 bs < 256 ^ length bs
worth_below bs all =
    let none : worth 0 bs / 256 ^ length bs < 1 = (let is = front 0 bs all in omega arith) in
    let below = (div-lt_iff_lt-mul (pow_pos (length bs))).0 none in
    subst (λ m. worth 0 bs < m) (one-mul (256 ^ length bs)) below

-- and are what is left of a number when what stands before them is taken away
worth_rest : (n : ℕ) (bs : List ℕ) → AllByRecursion (λ b. b < 256) bs → worth n bs % 256 ^ length bs ≡ worth 0 bs
worth_rest n bs all = ap (λ w. w % 256 ^ length bs) (worth_add n bs) ∙ mod-mul-add n (256 ^ length bs) (worth 0 bs) (worth_below bs all)

-- ---- short keys in two parts

-- a number of two parts
two_parts : (k t : ℕ) (xs ys : List ℕ) → length ys + k ≡ t → (worth 0 xs * 256 ^ length ys + worth 0 ys) * 256 ^ k ≡ worth 0 xs * 256 ^ t + worth 0 ys * 256 ^ k
two_parts k t xs ys is =
    add-mul (worth 0 xs * 256 ^ length ys) (worth 0 ys) (256 ^ k)
    ∙ ap (λ m. m + worth 0 ys * 256 ^ k) (mul_assoc (worth 0 xs) (256 ^ length ys) (256 ^ k) ∙ ap (λ m. worth 0 xs * m) (sym (pow-add 256 (length ys) k) ∙ ap (λ m. 256 ^ m) is))

-- behind eight bytes, a key's rest, zeros and its length
packed_long : (xs ys : List ℕ) → length xs ≡ 8 → length ys ≤ 7 → packed (xs ++ ys) ≡ worth 0 xs * 256 ^ 8 + worth 0 ys * 256 ^ (8 - length ys) + length (xs ++ ys)
packed_long xs ys eight few =
    let len = length-append xs ys in
    let k = 15 - length (xs ++ ys) in
    let n = worth (worth 0 xs) ys in
    let room : suc k ≡ 8 - length ys = omega arith in
    let back : length ys + suc k ≡ 8 = omega arith in
    let split : packed (xs ++ ys) ≡ worth (worth n (replicate k 0)) (length (xs ++ ys) ∷ []) = worth_append 0 (xs ++ ys) (replicate k 0 ++ length (xs ++ ys) ∷ []) ∙ worth_append (worth 0 (xs ++ ys)) (replicate k 0) (length (xs ++ ys) ∷ []) ∙ ap (λ m. worth (worth m (replicate k 0)) (length (xs ++ ys) ∷ [])) (worth_append 0 xs ys) in
    let zeros : worth n (replicate k 0) * 256 ≡ n * 256 ^ suc k = ap (λ m. m * 256) (worth_zeros n k) ∙ mul_assoc n (256 ^ k) 256 ∙ ap (λ q. n * q) (sym (pow-suc 256 k)) in
    split ∙ ap (λ m. m + length (xs ++ ys)) (zeros ∙ ap (λ m. m * 256 ^ suc k) (worth_add (worth 0 xs) ys) ∙ two_parts (suc k) 8 xs ys back ∙ ap (λ j. worth 0 xs * 256 ^ 8 + worth 0 ys * 256 ^ j) room)

-- of a key of fewer than eight bytes
packed_short : (key : List ℕ) → length key ≤ 7 → packed key ≡ worth 0 key * 256 ^ (8 - length key) * 256 ^ 8 + length key
packed_short key few =
    let k = 15 - length key in
    let room : suc k ≡ (8 - length key) + 8 = omega arith in
    let zeros : worth (worth 0 key) (replicate k 0) * 256 ≡ worth 0 key * 256 ^ suc k = ap (λ m. m * 256) (worth_zeros (worth 0 key) k) ∙ mul_assoc (worth 0 key) (256 ^ k) 256 ∙ ap (λ q. worth 0 key * q) (sym (pow-suc 256 k)) in
    worth_append 0 key (replicate k 0 ++ length key ∷ [])
    ∙ worth_append (worth 0 key) (replicate k 0) (length key ∷ [])
    ∙ ap (λ m. m + length key) (zeros ∙ ap (λ j. worth 0 key * 256 ^ j) room ∙ ap (λ m. worth 0 key * m) (pow-add 256 (8 - length key) 8) ∙ sym (mul_assoc (worth 0 key) (256 ^ (8 - length key)) (256 ^ 8)))

-- bytes by their indices
pub all_bytes : (bs : List ℕ) → ((i : ℕ) → get_or bs i 0 < 256) → AllByRecursion (λ b. b < 256) bs
all_bytes [] each = tt
all_bytes (b ∷ bs) each = (each 0, all_bytes bs (λ i. each (suc i)))

all_dropped : (k : ℕ) (bs : List ℕ) → AllByRecursion (λ b. b < 256) bs → AllByRecursion (λ b. b < 256) (drop k bs)
all_dropped zero bs all = all
all_dropped (suc k) [] all = tt
all_dropped (suc k) (b ∷ bs) all = all_dropped k bs all.1

-- of the last `m` bytes those that don't stand among the first
last_bytes : (m : ℕ) (key : List ℕ) → AllByRecursion (λ b. b < 256) key → m ≤ length key → length key ≤ m + m → worth 0 (take m (drop (length key - m) key)) % 256 ^ (length key - m) ≡ worth 0 (drop m key)
last_bytes m key all some few =
    let d = length key - m in
    let last = drop d key in
    let ys = drop m key in
    let count : length ys ≡ d = length-drop m key in
    let whole : take m last ≡ last = ap (λ j. take j last) (omega (arith, some)) ∙ take_rest key d in
    let rest : drop (m - d) last ≡ ys = drop-drop (m - d) d key ∙ ap (λ j. drop j key) (omega (arith, some, few)) in
    let split : last ≡ take (m - d) last ++ ys = sym (take-append-drop (m - d) last) ∙ ap (λ zs. take (m - d) last ++ zs) rest in
    let number : worth 0 last ≡ worth (worth 0 (take (m - d) last)) ys = ap (worth 0) split ∙ worth_append 0 (take (m - d) last) ys in
    ap (λ bs. worth 0 bs % 256 ^ d) whole ∙ ap₂ (λ w j. w % 256 ^ j) number (sym count) ∙ worth_rest (worth 0 (take (m - d) last)) ys (all_dropped m key all)

-- a number of `m` bytes from the front is below their power
first_below : (m : ℕ) (key : List ℕ) → AllByRecursion (λ b. b < 256) key → m ≤ length key → worth 0 (take m key) < 256 ^ m
first_below m key all some = subst (λ j. worth 0 (take m key) < 256 ^ j) (length_first m key some) (worth_below (take m key) (all_taken m key all))
  where
    all_taken : (k : ℕ) (bs : List ℕ) → AllByRecursion (λ b. b < 256) bs → AllByRecursion (λ b. b < 256) (take k bs)
    all_taken zero bs all = tt
    all_taken (suc k) [] all = tt
    all_taken (suc k) (b ∷ bs) all = (all.0, all_taken k bs all.1)

    length_first : (k : ℕ) (bs : List ℕ) → k ≤ length bs → length (take k bs) ≡ k
    length_first zero bs some = refl
    length_first (suc k) [] some = absurd (omega (arith, some))
    length_first (suc k) (b ∷ bs) some = (let later : length (take k bs) ≡ k = length_first k bs (omega (arith, some)) in omega (arith, later))

-- what four to seven bytes are put together of
pub middle_number : (key : List ℕ) → AllByRecursion (λ b. b < 256) key → 4 ≤ length key → length key ≤ 7 → (first last : ℕ) → first ≡ worth 0 (take 4 (drop 0 key)) → last ≡ worth 0 (take 4 (drop (length key - 4) key)) → first * 4294967296 % 18446744073709551616 + (last % 256 ^ (length key - 4) * 256 ^ (8 - (length key - 4))) / 4294967296 ≡ worth 0 key * 256 ^ (8 - length key)
middle_number key all some few first last is_first is_last =
    let xs = take 4 key in
    let ys = drop 4 key in
    let q = 256 ^ (8 - length key) in
    let below : worth 0 xs < 4294967296 = first_below 4 key all some in
    let count : length ys ≡ length key - 4 = length-drop 4 key in
    let high : first * 4294967296 % 18446744073709551616 ≡ worth 0 xs * 4294967296 = omega (arith, is_first, below) in
    let power : 256 ^ (8 - (length key - 4)) ≡ q * 256 ^ 4 = ap (λ j. 256 ^ j) (omega (arith, some, few)) ∙ pow-add 256 (8 - length key) 4 in
    let kept : last % 256 ^ (length key - 4) ≡ worth 0 ys = ap (λ n. n % 256 ^ (length key - 4)) is_last ∙ last_bytes 4 key all some (omega (arith, few)) in
    let low : (last % 256 ^ (length key - 4) * 256 ^ (8 - (length key - 4))) / 4294967296 ≡ worth 0 ys * q = ap₂ (λ n p. n * p / 4294967296) kept power ∙ ap (λ n. n / 4294967296) (sym (mul_assoc (worth 0 ys) q (256 ^ 4))) ∙ divided (worth 0 ys * q) in
    let number : worth 0 key ≡ worth 0 xs * 256 ^ length ys + worth 0 ys = ap (worth 0) (sym (take-append-drop 4 key)) ∙ worth_append 0 xs ys ∙ worth_add (worth 0 xs) ys in
    ap₂ (λ a b. a + b) high low ∙ sym (ap (λ w. w * q) number ∙ two_parts (8 - length key) 4 xs ys (omega (arith, count, some, few)))
  where
    divided : (n : ℕ) → n * 256 ^ 4 / 4294967296 ≡ n
    divided n = omega arith

-- what a key of fewer than eight bytes is put together of
pub short_number : (key : List ℕ) → AllByRecursion (λ b. b < 256) key → length key ≤ 7 → (n : ℕ) → n ≡ worth 0 key * 256 ^ (8 - length key) → n < 18446744073709551616 → n * 18446744073709551616 % 340282366920938463463374607431768211456 + length key ≡ packed key
short_number key all few n is fits =
    let high : n * 18446744073709551616 % 340282366920938463463374607431768211456 ≡ n * 256 ^ 8 = omega (arith, fits) in
    ap (λ m. m + length key) (high ∙ ap (λ m. m * 256 ^ 8) is) ∙ sym (packed_short key few)

-- what a key of eight bytes or more is put together of
pub long_number : (key : List ℕ) → AllByRecursion (λ b. b < 256) key → 8 ≤ length key → length key ≤ 15 → (first last : ℕ) → first ≡ worth 0 (take 8 (drop 0 key)) → last ≡ worth 0 (take 8 (drop (length key - 8) key)) → first * 18446744073709551616 % 340282366920938463463374607431768211456 + last % 256 ^ (length key - 8) * 256 ^ (8 - (length key - 8)) + length key ≡ packed key
long_number key all some few first last is_first is_last =
    let xs = take 8 key in
    let ys = drop 8 key in
    let below : worth 0 xs < 18446744073709551616 = first_below 8 key all some in
    let count : length ys ≡ length key - 8 = length-drop 8 key in
    let high : first * 18446744073709551616 % 340282366920938463463374607431768211456 ≡ worth 0 xs * 256 ^ 8 = omega (arith, is_first, below) in
    let kept : last % 256 ^ (length key - 8) ≡ worth 0 ys = ap (λ n. n % 256 ^ (length key - 8)) is_last ∙ last_bytes 8 key all some (omega (arith, few)) in
    let low : last % 256 ^ (length key - 8) * 256 ^ (8 - (length key - 8)) ≡ worth 0 ys * 256 ^ (8 - length ys) = ap₂ (λ n j. n * 256 ^ (8 - j)) kept (sym count) in
    let whole : xs ++ ys ≡ key = take-append-drop 8 key in
    let eight : length xs ≡ 8 = length_first 8 key some in
    ap (λ m. m + length key) (ap₂ (λ a b. a + b) high low) ∙ ap (λ bs. worth 0 xs * 256 ^ 8 + worth 0 ys * 256 ^ (8 - length ys) + length bs) (sym whole) ∙ sym (packed_long xs ys eight (omega (arith, count, few))) ∙ ap packed whole
  where
    length_first : (k : ℕ) (bs : List ℕ) → k ≤ length bs → length (take k bs) ≡ k
    length_first zero bs some = refl
    length_first (suc k) [] some = absurd (omega (arith, some))
    length_first (suc k) (b ∷ bs) some = (let later : length (take k bs) ≡ k = length_first k bs (omega (arith, some)) in omega (arith, later))

pub packed_below : (key : List ℕ) → IsShort key → packed key < 340282366920938463463374607431768211456
packed_below key short = subst (λ j. packed key < 256 ^ j) (length_padded key short) (worth_below (padded key) (padded_bytes key short))

-- what fewer than four bytes are put together of
pub few_number : (key : List ℕ) → AllByRecursion (λ b. b < 256) key → (n few : ℕ) → n ≡ few % 256 ^ length key * 256 ^ (8 - length key) → few ≡ worth 0 key → n ≡ worth 0 key * 256 ^ (8 - length key)
few_number key all n few is is_few = is ∙ ap (λ m. m * 256 ^ (8 - length key)) (ap (λ m. m % 256 ^ length key) is_few ∙ worth_rest 0 key all)

-- ---- masks

-- a mask that is added and taken off leaves the number
pub unmasked_masked : (mask n : ℕ) → mask < 2 ^ 128 → n < 2 ^ 128 → unmasked mask (masked mask n) ≡ n
unmasked_masked mask n fits below = omega (arith, fits, below)

-- the number of a short key is read back
pub unpacked_masked : (mask : ℕ) (key : List ℕ) → mask < 2 ^ 128 → IsShort key → unpacked mask (masked mask (packed key)) ≡ key
unpacked_masked mask key fits short = ap (λ n. key_of (to_be_bytes w128 n)) (unmasked_masked mask (packed key) fits (packed_below key short)) ∙ unpacked_packed key short
