-- Positions that are put behind others as their differences are added up.
use Rattle.std.proofs.Common.{[], List, ap, ap₂, append_assoc, arith, drop, length, length-append, length-drop, length-take, min, refl, suc, sum, sym, take, ◌%◌, ◌*◌, ◌++◌, ◌+◌, ◌-◌, ◌/◌, ◌<◌, ◌≡◌, ◌≤◌, ◌∙◌, ◌∷◌, ℕ}
use Rattle.std.proofs.lemmas.List.Sums.{sum_by-append, sum_by-cons}
use Rattle.std.proofs.Math.Seq.{take-add}
use Rattle.codes.proofs.UnpackedBlocks.{drop_drop}
use Rattle.codes.proofs.PositionsOpened.{part_of_held}
use Rattle.codes.specs.PositionPlaces.{places}

places-append : (before : ℕ) (xs ys : List ℕ) → places before (xs ++ ys) ≡ places before xs ++ places (before + sum xs) ys
places-append before [] ys = (let same : before ≡ before + 0 = omega arith in ap (λ k. places k ys) same)
places-append before (x ∷ xs) ys =
    let same : before + x + sum xs ≡ before + sum (x ∷ xs) = (let total = sum_by-cons (λ y. y) x xs in omega (arith, total)) in
    ap (λ zs. (before + x) ∷ zs) (places-append (before + x) xs ys ∙ ap (λ k. places (before + x) xs ++ places k ys) same)

pub length-places : (before : ℕ) (xs : List ℕ) → length (places before xs) ≡ length xs
length-places before [] = refl
length-places before (x ∷ xs) = ap suc (length-places (before + x) xs)

-- ---- numbers of one block

-- those so far stand behind what was held
pub record Pushes (before : ℕ) (numbers held : List ℕ) (i last : ℕ) (out : List ℕ) : Type 0 where
  pub whole : out ++ places last (drop i numbers) ≡ held ++ places before numbers
  pub sums : last + sum (drop i numbers) ≡ before + sum numbers
  pub long : length out ≡ length held + i

-- ---- numbers of several blocks

-- as many were taken from an index on, and the others are left
pub record Appends (numbers : List ℕ) (begin count offset : ℕ) (held : List ℕ) (taken last : ℕ) (out : List ℕ) : Type 0 where
  pub few : taken ≤ count
  pub whole : out ++ places last (take (count - taken) (drop (begin + taken) numbers)) ≡ held ++ places offset (take count (drop begin numbers))
  pub sums : last + sum (take (count - taken) (drop (begin + taken) numbers)) ≡ offset + sum (take count (drop begin numbers))
  pub long : length out ≡ length held + taken

-- what is left begins with a part of it
parted : (numbers : List ℕ) (begin count taken n : ℕ) → n ≤ count - taken → take (count - taken) (drop (begin + taken) numbers) ≡ take n (drop (begin + taken) numbers) ++ take (count - (taken + n)) (drop (begin + (taken + n)) numbers)
parted numbers begin count taken n few =
    let split : count - taken ≡ n + (count - (taken + n)) = omega arith in
    let on : begin + taken + n ≡ begin + (taken + n) = omega arith in
    ap (λ k. take k (drop (begin + taken) numbers)) split
    ∙ (take-add n (count - (taken + n)) (drop (begin + taken) numbers)
    ∙ ap (λ xs. take n (drop (begin + taken) numbers) ++ take (count - (taken + n)) xs) (drop_drop (begin + taken) n numbers ∙ ap (λ k. drop k numbers) on))

pub appends_fits : (numbers : List ℕ) (begin count offset : ℕ) (held : List ℕ) (taken last : ℕ) (out part : List ℕ) (n : ℕ) → Appends numbers begin count offset held taken last out → n ≤ count - taken → part ≡ take n (drop (begin + taken) numbers) → offset + sum (take count (drop begin numbers)) ≤ 4294967295 → last + sum part ≤ 4294967295
appends_fits numbers begin count offset held taken last out part n appends few is most =
    let total = ap sum (parted numbers begin count taken n few) ∙ sum_by-append (λ y. y) (take n (drop (begin + taken) numbers)) (take (count - (taken + n)) (drop (begin + (taken + n)) numbers)) in
    let same = ap sum is in
    let sums = appends.sums in
    omega (arith, total, same, sums, most)

pub appends_on : (numbers : List ℕ) (begin count offset : ℕ) (held : List ℕ) (taken last : ℕ) (out part : List ℕ) (further : ℕ) (more : List ℕ) → Appends numbers begin count offset held taken last out → length part ≤ count - taken → part ≡ take (length part) (drop (begin + taken) numbers) → further ≡ last + sum part → more ≡ out ++ places last part → Appends numbers begin count offset held (taken + length part) further more
appends_on numbers begin count offset held taken last out part further more appends few is sums_on is_more =
    let n = length part in
    let left = take (count - (taken + n)) (drop (begin + (taken + n)) numbers) in
    let split : take (count - taken) (drop (begin + taken) numbers) ≡ part ++ left = parted numbers begin count taken n few ∙ ap (λ xs. xs ++ left) (sym is) in
    let total : sum (take (count - taken) (drop (begin + taken) numbers)) ≡ sum part + sum left = ap sum split ∙ sum_by-append (λ y. y) part left in
    let sums = appends.sums in
    let longer = ap length is_more in
    record {
      few = (let f = appends.few in omega (arith, few, f));
      whole =
          ap₂ (λ xs k. xs ++ places k left) is_more sums_on
          ∙ (append_assoc out (places last part) (places (last + sum part) left)
          ∙ (ap (λ xs. out ++ xs) (sym (places-append last part left))
          ∙ (ap (λ xs. out ++ places last xs) (sym split) ∙ appends.whole)));
      sums = omega (arith, total, sums, sums_on);
      long = (let long = appends.long in omega (arith, long, longer, length-append out (places last part), length-places last part));
    }

-- a part of the block that is held goes on where those that were taken end
pub part_there : (numbers held part : List ℕ) (begin taken most block start : ℕ) → held ≡ take 128 (drop (128 * block) numbers) → block ≡ begin / 128 + (begin % 128 + taken) / 128 → start ≡ (begin % 128 + taken) % 128 → start < length held → part ≡ take (min most (length held - start)) (drop start held) → (part ≡ take (min most (length held - start)) (drop (begin + taken) numbers)) × (length part ≡ min most (length held - start))
part_there numbers held part begin taken most block start is at from inside part_is =
    let n = min most (length held - start) in
    let index : 128 * block + start ≡ begin + taken = omega (arith, at, from) in
    let long : length part ≡ length (take n (drop start held)) = ap length part_is in (
      part_is ∙ (part_of_held numbers held block start n is (omega arith) (omega (arith, inside)) ∙ ap (λ k. take n (drop k numbers)) index),
      omega (arith, long, length-take n (drop start held), length-drop start held),
    )
