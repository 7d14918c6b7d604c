-- A body tells the parts that it is written of.
use Rattle.std.proofs.Common.{[], ◌++◌, ◌<◌, ◌^◌, ◌∙◌, ◌∷◌, ◌≡◌, Bool, List, ap, ap₂, append_assoc, arith, drop, flat_map, length, refl, sym, take, ℕ}
use Rattle.std.specs.Int.{from_le_bytes, w32, w64}
use Rattle.std.specs.List.{AllByRecursion}
use Rattle.std.proofs.lemmas.Nat.{from_le_bytes-to_le_bytes_4, from_le_bytes-to_le_bytes_8}
use Rattle.std.proofs.Math.Seq.{drop-append_seam, take-append_seam}
use Rattle.definitions.proofs.Lists.{head_of, tail_of}
use Rattle.definitions.specs.NumberCodes.{u32_bytes, u64_bytes}
use Rattle.layouts.specs.AliveSets.{alive_bytes}
use Rattle.segment_definitions.specs.ListBodies.{Fits, Part, fresh, kept, part_bytes, segments_body}

-- ---- what stands first

pub one_u32 : (m n : ℕ) (r s : List ℕ) → m < 2 ^ 32 → n < 2 ^ 32 → u32_bytes m ++ r ≡ u32_bytes n ++ s → (m ≡ n) × (r ≡ s)
one_u32 m n r s small_m small_n same =
    let spelled : u32_bytes m ≡ u32_bytes n = ap (λ (l : List ℕ). take 4 l) same in
    (sym (from_le_bytes-to_le_bytes_4 m small_m) ∙ ap (λ (l : List ℕ). from_le_bytes w32 l) spelled ∙ from_le_bytes-to_le_bytes_4 n small_n, ap (λ (l : List ℕ). drop 4 l) same)

pub one_u64 : (m n : ℕ) (r s : List ℕ) → m < 2 ^ 64 → n < 2 ^ 64 → u64_bytes m ++ r ≡ u64_bytes n ++ s → (m ≡ n) × (r ≡ s)
one_u64 m n r s small_m small_n same =
    let spelled : u64_bytes m ≡ u64_bytes n = ap (λ (l : List ℕ). take 8 l) same in
    (sym (from_le_bytes-to_le_bytes_8 m small_m) ∙ ap (λ (l : List ℕ). from_le_bytes w64 l) spelled ∙ from_le_bytes-to_le_bytes_8 n small_n, ap (λ (l : List ℕ). drop 8 l) same)

one_sized : (x y r s : List ℕ) → length x < 2 ^ 64 → length y < 2 ^ 64 → u64_bytes (length x) ++ (x ++ r) ≡ u64_bytes (length y) ++ (y ++ s) → (x ≡ y) × (r ≡ s)
one_sized x y r s short_x short_y same =
    let e = one_u64 (length x) (length y) (x ++ r) (y ++ s) short_x short_y same in
    (sym (take-append_seam x r) ∙ ap₂ (λ (n : ℕ) (l : List ℕ). take n l) e.0 e.1 ∙ take-append_seam y s, sym (drop-append_seam x r) ∙ ap₂ (λ (n : ℕ) (l : List ℕ). drop n l) e.0 e.1 ∙ drop-append_seam y s)

-- ---- one part, and all

one_part : (p q : Part) (r s : List ℕ) → Fits p → Fits q → part_bytes p ++ r ≡ part_bytes q ++ s → (p ≡ q) × (r ≡ s)
one_part (kept m) (kept n) r s fits_p fits_q same = let e = one_u32 m n r s fits_p fits_q (tail_of 0 0 _ _ same) in (ap kept e.0, e.1)
one_part (kept m) (fresh y) r s fits_p fits_q same = absurd (let e = head_of 0 1 _ _ same in omega (arith, e))
one_part (fresh x) (kept n) r s fits_p fits_q same = absurd (let e = head_of 1 0 _ _ same in omega (arith, e))
one_part (fresh x) (fresh y) r s fits_p fits_q same =
    let inside : u64_bytes (length x) ++ (x ++ r) ≡ u64_bytes (length y) ++ (y ++ s) = sym (append_assoc (u64_bytes (length x)) x r) ∙ tail_of 1 1 _ _ same ∙ append_assoc (u64_bytes (length y)) y s in
    let e = one_sized x y r s fits_p fits_q inside in (ap fresh e.0, e.1)

pub all_parts : (ps qs : List Part) (r s : List ℕ) → AllByRecursion Fits ps → AllByRecursion Fits qs → length ps ≡ length qs → flat_map part_bytes ps ++ r ≡ flat_map part_bytes qs ++ s → (ps ≡ qs) × (r ≡ s)
all_parts [] [] r s fit_p fit_q long same = (refl, same)
all_parts [] (q ∷ qs) r s fit_p fit_q long same = absurd (omega (arith, long))
all_parts (p ∷ ps) [] r s fit_p fit_q long same = absurd (omega (arith, long))
all_parts (p ∷ ps) (q ∷ qs) r s fit_p fit_q long same =
    let e = one_part p q (flat_map part_bytes ps ++ r) (flat_map part_bytes qs ++ s) fit_p.0 fit_q.0 (sym (append_assoc (part_bytes p) (flat_map part_bytes ps) r) ∙ same ∙ append_assoc (part_bytes q) (flat_map part_bytes qs) s) in
    let more : length ps ≡ length qs = omega (arith, long) in
    let after = all_parts ps qs r s fit_p.1 fit_q.1 more e.1 in
    (ap₂ (λ x xs. x ∷ xs) e.0 after.0, after.1)

-- the parts, and what follows them
pub body_told : (parts others : List Part) (sets more : List (List Bool)) → AllByRecursion Fits parts → AllByRecursion Fits others → length parts < 2 ^ 32 → length others < 2 ^ 32 → segments_body parts sets ≡ segments_body others more → (parts ≡ others) × (flat_map alive_bytes sets ≡ flat_map alive_bytes more)
unfolding segments_body
body_told parts others sets more fit_p fit_q few_p few_q same =
    let e = one_u32 (length parts) (length others) (flat_map part_bytes parts ++ flat_map alive_bytes sets) (flat_map part_bytes others ++ flat_map alive_bytes more) few_p few_q (tail_of 2 2 _ _ same) in
    all_parts parts others (flat_map alive_bytes sets) (flat_map alive_bytes more) fit_p fit_q e.0 e.1

pub parts_told : (parts others : List Part) (sets more : List (List Bool)) → AllByRecursion Fits parts → AllByRecursion Fits others → length parts < 2 ^ 32 → length others < 2 ^ 32 → segments_body parts sets ≡ segments_body others more → parts ≡ others
parts_told parts others sets more fit_p fit_q few_p few_q same = (body_told parts others sets more fit_p fit_q few_p few_q same).0
