-- Positions that are opened from their bytes and read.
use Rattle.std.proofs.Common.{[], IsSome, List, None, Option, Some, ap, ap₂, arith, drop, length, length-append, length-drop, length-take, refl, subst, suc, sym, take, take_all, zero, ◌%◌, ◌*◌, ◌++◌, ◌+◌, ◌-◌, ◌/◌, ◌<◌, ◌≡◌, ◌≤◌, ◌∙◌, ◌∷◌, ◌^◌, ℕ}
use Rattle.std.proofs.lemmas.List.{drop-take, take-append-drop, take_rest}
use Rattle.std.proofs.Math.Seq.{take-add}
use Rattle.common.proofs.TakenBack.{bytes_back, bytes_put}
use Rattle.codes.proofs.CheckedPositions.{small_drop}
use Rattle.codes.proofs.VintListLaws.{Small, all_back, all_stood}
use Rattle.codes.proofs.BlockPackings.{one_reading}
use Rattle.codes.proofs.UnpackedBlocks.{drop_drop, unpacked_count}
use Rattle.codes.proofs.PositionBlocks.{rest_numbers}
use Rattle.codes.specs.UnpackedBlocks.{listed, unpacked}
use Rattle.codes.specs.PositionBlocks.{AreSmall, HasAll, Holds, numbers_in, packed_len}
use Rattle.definitions.specs.Json.{◌>>=◌}
use Rattle.definitions.specs.NumberCodes.{AreBytes, sized_bytes, take_bytes, vint_bytes}
use Rattle.layouts.specs.Positions.{AreBlocks, ArePositions}
use Rattle.layouts.specs.VintBlocks.{take_all_numbers, take_number}

-- ---- the rest

wider : (ns : List ℕ) → AreSmall ns → Small ns
wider [] small = tt
wider (n ∷ ns) small = ((let h = small 0 in omega arith), wider ns (λ i. small (suc i)))

-- numbers of a rest are taken
pub rest_taken : (bytes numbers : List ℕ) → AreBlocks [] numbers bytes → AreSmall numbers → take_all_numbers 128 bytes ≡ Some numbers
rest_taken bytes numbers blocks small = ap (take_all_numbers 128) blocks.1 ∙ all_back 128 numbers (let h = blocks.0 in omega arith) (wider numbers small)

pub rest_untaken : (bytes numbers : List ℕ) → take_all_numbers 128 bytes ≡ None → AreBlocks [] numbers bytes → AreSmall numbers → ⊥
rest_untaken bytes numbers none blocks small = (let taken = rest_taken bytes numbers blocks small in let apart : ◌≡◌ {A = Option (List ℕ)} None (Some numbers) = sym none ∙ taken in absurd cc)

pub rest_other : (bytes held numbers : List ℕ) → take_all_numbers 128 bytes ≡ Some held → ((length held < 128) × AreSmall held → ⊥) → AreBlocks [] numbers bytes → AreSmall numbers → ⊥
rest_other bytes held numbers taken none blocks small =
    let here : Some held ≡ Some numbers = sym taken ∙ rest_taken bytes numbers blocks small in
    let same : numbers ≡ held = ap listed (sym here) in
    let P : List ℕ → Type 0 = λ xs. (length xs < 128) × AreSmall xs in
    none (subst P same (blocks.0, small))

pub rest_is : (bytes held : List ℕ) → AreBytes bytes → take_all_numbers 128 bytes ≡ Some held → (length held < 128) × AreSmall held → AreBlocks [] held bytes × AreSmall held × (take_all_numbers 128 bytes ≡ Some held)
rest_is bytes held digits taken fits = ((fits.0, (all_stood 128 bytes held digits taken).2), fits.1, taken)

-- ---- the whole

-- widths are no more than the bytes
widths_within : (front bs back xs : List ℕ) → xs ≡ front ++ bs ++ back → length xs < 2 ^ 64 → length bs < 2 ^ 64
widths_within front bs back xs is below = (let long : length xs ≡ length front + length bs + length back = ap length is ∙ length-append (front ++ bs) back ∙ ap (λ n. n + length back) (length-append front bs) in omega (arith, long))

-- bytes without widths
pub no_widths : (bytes numbers : List ℕ) → length bytes < 2 ^ 64 → take_bytes bytes ≡ None → ArePositions numbers bytes → ⊥
no_widths bytes numbers few none positions =
    let ws = positions.widths in
    let whole : bytes ≡ sized_bytes ws ++ positions.packed = positions.bytes_are in
    let taken = bytes_back ws positions.packed (widths_within (vint_bytes (length ws)) ws positions.packed bytes positions.bytes_are few) in
    let apart : ◌≡◌ {A = Option (List ℕ × List ℕ)} None (Some (ws, positions.packed)) = sym none ∙ ap take_bytes whole ∙ taken in
    absurd cc

-- the blocks of bytes whose widths are known
pub blocks_of : (bytes ws packed numbers : List ℕ) → length bytes < 2 ^ 64 → take_bytes bytes ≡ Some (ws, packed) → ArePositions numbers bytes → AreBlocks ws numbers packed × AreSmall numbers
blocks_of bytes ws packed numbers few taken positions =
    let vs = positions.widths in
    let whole : bytes ≡ sized_bytes vs ++ positions.packed = positions.bytes_are in
    let first : length vs < 2 ^ 64 = widths_within (vint_bytes (length vs)) vs positions.packed bytes positions.bytes_are few in
    let back : Some (ws, packed) ≡ Some (vs, positions.packed) = sym taken ∙ ap take_bytes whole ∙ bytes_back vs positions.packed first in
    let widths : vs ≡ ws = ap (string_of vs) (sym back) in
    let rest : positions.packed ≡ packed = ap (rest_of packed) (sym back) in
    let P : List ℕ → Type 0 = λ xs. AreBlocks xs numbers positions.packed in
    let Q : List ℕ → Type 0 = λ xs. AreBlocks ws numbers xs in
    (subst Q rest (subst P widths positions.blocks), positions.small)
  where
    string_of : List ℕ → Option (List ℕ × List ℕ) → List ℕ
    string_of other None = other
    string_of other (Some p) = p.0

    rest_of : List ℕ → Option (List ℕ × List ℕ) → List ℕ
    rest_of other None = other
    rest_of other (Some p) = p.1

pub no_blocks : (bytes ws packed : List ℕ) → length bytes < 2 ^ 64 → take_bytes bytes ≡ Some (ws, packed) → ((numbers : List ℕ) → AreBlocks ws numbers packed → AreSmall numbers → ⊥) → (numbers : List ℕ) → ArePositions numbers bytes → ⊥
no_blocks bytes ws packed few taken none numbers positions = (let all = blocks_of bytes ws packed numbers few taken positions in none numbers all.0 all.1)

pub no_rest : (bytes ws packed : List ℕ) (at : ℕ) → length bytes < 2 ^ 64 → take_bytes bytes ≡ Some (ws, packed) → HasAll ws packed at → ((numbers : List ℕ) → AreBlocks [] numbers (take (length packed - at) (drop at packed)) → AreSmall numbers → ⊥) → (numbers : List ℕ) → ArePositions numbers bytes → ⊥
no_rest bytes ws packed at few taken has none numbers positions =
    let all = blocks_of bytes ws packed numbers few taken positions in
    let left = has.complete numbers all.0 all.1 in
    let P : List ℕ → Type 0 = λ xs. AreBlocks [] (drop (128 * length ws) numbers) xs in
    none (drop (128 * length ws) numbers) (subst P (sym (take_rest packed at)) left.0) left.1

-- all of it
pub opened : (bytes ws packed held : List ℕ) (at : ℕ) → AreBytes bytes → take_bytes bytes ≡ Some (ws, packed) → HasAll ws packed at → AreBlocks [] held (take (length packed - at) (drop at packed)) × AreSmall held × (take_all_numbers 128 (take (length packed - at) (drop at packed)) ≡ Some held) → ArePositions (numbers_in ws packed) bytes
opened bytes ws packed held at digits taken has rest =
    let P : List ℕ → Type 0 = λ xs. AreBlocks [] held xs in
    let here = ap listed (ap (take_all_numbers 128) (sym (take_rest packed at)) ∙ rest.2) in
    let all = has.sound held (subst P (take_rest packed at) rest.0) rest.1 here in
    record {
      widths = ws;
      packed = packed;
      bytes_are = (bytes_put bytes ws packed digits taken).1;
      blocks = all.0;
      small = all.1;
    }

-- the rest is held
pub held_last : (ws packed held : List ℕ) (at : ℕ) → HasAll ws packed at → AreBlocks [] held (take (length packed - at) (drop at packed)) × AreSmall held × (take_all_numbers 128 (take (length packed - at) (drop at packed)) ≡ Some held) → Holds ws packed held (length ws) at
held_last ws packed held at has rest =
    let offset : packed_len ws ≡ at = sym has.offset in
    let bytes : drop (packed_len ws) packed ≡ take (length packed - at) (drop at packed) = ap (λ k. drop k packed) offset ∙ sym (take_rest packed at) in
    let taken : take_all_numbers 128 (drop (packed_len ws) packed) ≡ Some held = ap (take_all_numbers 128) bytes ∙ rest.2 in
    let few : length held ≤ 128 = (let h = rest.0.0 in omega arith) in
    record {
      blocks = record { widths_fit = has.widths_fit; room = (let h = has.room in omega (arith, offset)); rest = subst IsSome (sym taken) refl };
      within = omega arith;
      offset = has.offset ∙ ap packed_len (sym (take_all (length ws) ws (omega arith)));
      numbers = sym (take_all 128 held few) ∙ ap (take 128) (sym (rest_numbers ws packed ∙ ap listed taken));
    }

-- ---- reading

all_few : (n : ℕ) (bytes : List ℕ) → length (listed (take_all_numbers n bytes)) ≤ n
all_few zero [] = omega arith
all_few (suc n) [] = omega arith
all_few zero (b ∷ bs) = omega arith
all_few (suc n) (b ∷ bs) = go (take_number (b ∷ bs)) (λ after. all_few n after)
  where
    of_more : (m : ℕ) (o : Option (List ℕ)) → length (listed o) ≤ n → length (listed (o >>= (λ ns. Some (m ∷ ns)))) ≤ suc n
    of_more m None few = omega arith
    of_more m (Some ns) few = omega arith

    go : (o : Option (ℕ × List ℕ)) → ((after : List ℕ) → length (listed (take_all_numbers n after)) ≤ n) → length (listed (o >>= (λ p. take_all_numbers n p.1 >>= (λ ns. Some (p.0 ∷ ns))))) ≤ suc n
    go None few = omega arith
    go (Some p) few = of_more p.0 (take_all_numbers n p.1) (few p.1)

numbers_few : (ws bytes : List ℕ) → length (numbers_in ws bytes) ≤ 128 * length ws + 128
numbers_few [] bytes = (let h = all_few 128 bytes in omega arith)
numbers_few (w ∷ ws) bytes =
    let later = numbers_few ws (drop (16 * w) bytes) in
    let long = length-append (unpacked w (take (16 * w) bytes)) (numbers_in ws (drop (16 * w) bytes)) in
    let count = unpacked_count w (take (16 * w) bytes) in
    omega (arith, long, count)

-- a number stands in a block or in the rest
pub block_within : (ws bytes : List ℕ) (offset filled : ℕ) → offset + filled < length (numbers_in ws bytes) → offset / 128 + (offset % 128 + filled) / 128 ≤ length ws
block_within ws bytes offset filled inside = (let few = numbers_few ws bytes in omega arith)

-- the numbers that are held go on as the list does
pub held_goes_on : (numbers held : List ℕ) (block start : ℕ) → held ≡ take 128 (drop (128 * block) numbers) → 128 * block + start < length numbers → start < 128 → start < length held
held_goes_on numbers held block start is inside few =
    let long : length held ≡ length (take 128 (drop (128 * block) numbers)) = ap length is in
    omega (arith, long, length-take 128 (drop (128 * block) numbers), length-drop (128 * block) numbers)

take_take : (m n : ℕ) (xs : List ℕ) → m ≤ n → take m (take n xs) ≡ take m xs
take_take zero n xs few = refl
take_take (suc m) zero xs few = absurd (omega arith)
take_take (suc m) (suc n) [] few = refl
take_take (suc m) (suc n) (x ∷ xs) few = ap (λ ys. x ∷ ys) (take_take m n xs (omega arith))

pub part_of_held : (numbers held : List ℕ) (block start count : ℕ) → held ≡ take 128 (drop (128 * block) numbers) → count ≤ length held - start → start ≤ length held → take count (drop start held) ≡ take count (drop (128 * block + start) numbers)
part_of_held numbers held block start count is few within =
    let rest = drop (128 * block) numbers in
    let long : length held ≡ length (take 128 rest) = ap length is in
    let least : count ≤ 128 - start = omega (arith, long, length-take 128 rest) in
    let split : 128 ≡ start + (128 - start) = omega (arith, long, length-take 128 rest) in
    ap (λ xs. take count (drop start xs)) is
    ∙ ap (λ k. take count (drop start (take k rest))) split
    ∙ ap (take count) (drop-take start (128 - start) rest)
    ∙ take_take count (128 - start) (drop start rest) least
    ∙ ap (take count) (drop_drop (128 * block) start numbers)

-- what is copied is what follows
pub copied_on : (numbers held out new : List ℕ) (offset filled now block start : ℕ) → held ≡ take 128 (drop (128 * block) numbers) → block ≡ offset / 128 + (offset % 128 + filled) / 128 → start ≡ (offset % 128 + filled) % 128 → take filled out ≡ take filled (drop offset numbers) → filled ≤ now → now - filled ≤ length held - start → start ≤ length held → take now new ≡ take filled out ++ take (now - filled) (drop start held) → take now new ≡ take now (drop offset numbers)
copied_on numbers held out new offset filled now block start is at rest so_far more few within copied =
    let index : 128 * block + start ≡ offset + filled = omega arith in
    let count : filled + (now - filled) ≡ now = omega arith in
    copied
    ∙ ap₂ (λ xs ys. xs ++ ys) so_far (part_of_held numbers held block start (now - filled) is few within ∙ ap (λ k. take (now - filled) (drop k numbers)) index ∙ ap (take (now - filled)) (sym (drop_drop offset filled numbers)))
    ∙ sym (take-add filled (now - filled) (drop offset numbers))
    ∙ ap (λ k. take k (drop offset numbers)) count

numbers_least : (ws bytes : List ℕ) → 128 * length ws ≤ length (numbers_in ws bytes)
numbers_least [] bytes = omega arith
numbers_least (w ∷ ws) bytes =
    let later = numbers_least ws (drop (16 * w) bytes) in
    let long = length-append (unpacked w (take (16 * w) bytes)) (numbers_in ws (drop (16 * w) bytes)) in
    let count = unpacked_count w (take (16 * w) bytes) in
    omega (arith, long, count)

-- the blocks and the rest are all
pub all_counted : (ws packed rest : List ℕ) → rest ≡ take 128 (drop (128 * length ws) (numbers_in ws packed)) → 128 * length ws + length rest ≡ length (numbers_in ws packed)
all_counted ws packed rest are =
    let numbers = numbers_in ws packed in
    let few = numbers_few ws packed in
    let least = numbers_least ws packed in
    let long = ap length are in
    omega (arith, few, least, long, length-take 128 (drop (128 * length ws) numbers), length-drop (128 * length ws) numbers)

-- ---- one reading

-- numbers in the same blocks
same_blocks : (ws a b bytes : List ℕ) → AreBlocks ws a bytes → AreBlocks ws b bytes → AreSmall a → AreSmall b → a ≡ b
same_blocks [] a b bytes p q small_a small_b = ap listed (sym (rest_taken bytes a p small_a) ∙ rest_taken bytes b q small_b)
same_blocks (w ∷ ws) a b bytes p q small_a small_b =
    let first : take 128 a ≡ take 128 b = one_reading w (take 128 a) (take 128 b) (take (16 * w) bytes) p.0.packed q.0.packed in
    let later : drop 128 a ≡ drop 128 b = same_blocks ws (drop 128 a) (drop 128 b) (drop (16 * w) bytes) p.1 q.1 (small_drop 128 a small_a) (small_drop 128 b small_b) in
    sym (take-append-drop 128 a) ∙ ap₂ (λ xs ys. xs ++ ys) first later ∙ take-append-drop 128 b

-- no other numbers have these bytes
pub one_list : (a b bytes : List ℕ) → length bytes < 2 ^ 64 → ArePositions a bytes → ArePositions b bytes → a ≡ b
one_list a b bytes few p q =
    let ws = p.widths in
    let whole : bytes ≡ sized_bytes ws ++ p.packed = p.bytes_are in
    let taken : take_bytes bytes ≡ Some (ws, p.packed) = ap take_bytes whole ∙ bytes_back ws p.packed (widths_within (vint_bytes (length ws)) ws p.packed bytes p.bytes_are few) in
    let other = blocks_of bytes ws p.packed b few taken q in
    same_blocks ws a b p.packed p.blocks other.0 p.small other.1
