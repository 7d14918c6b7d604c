-- The section of the lengths of fields, field by field.
use Rattle.std.proofs.Common.{Bool, List, None, Option, Some, [], add-one, ap, append-nil, append_assoc, ap₂, arith, cond, drop, drop-cons, false, find, get_or, length, length-append, map, nat_eq, option_map, refl, subst, suc, sym, take, true, zero, zip, ℕ, ◌*◌, ◌++◌, ◌+◌, ◌<◌, ◌^◌, ◌∙◌, ◌∷◌, ◌≡◌, ◌≢◌, ◌≤◌}
use Rattle.std.proofs.Math.Nat.{mul-le-mul_right, suc-mul}
use Rattle.std.proofs.Math.Seq.{drop-append_seam, take-append_seam}
use Rattle.std.proofs.lemmas.Bool.Decides.{nat_tests}
use Rattle.std.specs.List.{AllByRecursion}
use Rattle.std.proofs.lemmas.List.{drop-drop, drop_all, length-map}
use Rattle.codes.proofs.AscendingNumbers.{ascends_least}
use Rattle.layouts.specs.Deltas.{IsAscendingFrom}
use Rattle.codes.specs.FieldNormReaders.{ids_from, norms_in, take_ids}
use Rattle.common.proofs.TakenBack.{count_back, count_put, u32_put}
use Rattle.common.proofs.AliveSetBytes.{u32_back}
use Rattle.common.proofs.WordBytes.{back_bytes}
use Rattle.definitions.specs.Json.{only_if, ◌>>=◌}
use Rattle.definitions.specs.NumberCodes.{AreBytes, take_count, take_u32, u32_bytes}
use Rattle.layouts.specs.FieldNorms.{IsNorms, field_norms_bytes, ids_of, norms_bytes}

-- the ids of all these fields, where nothing else stands
abbrev pub take_all_ids : ℕ → List ℕ → List ℕ → Option (List (List ℕ))
take_all_ids n [] [] = Some []
take_all_ids n [] (b ∷ bs) = None
take_all_ids n (f ∷ fs) bs = take_ids n f bs >>= (λ p. option_map (λ more. p.0 ∷ more) (take_all_ids n fs p.1))

-- ids behind those that were taken
abbrev pub behind : List (List ℕ) → Option (List (List ℕ)) → Option (List (List ℕ))
behind ids o = option_map (λ more. ids ++ more) o

-- one more field is taken
pub ids_more : (n f : ℕ) (fs bs ids rest : List ℕ) (first : List (List ℕ)) → take_ids n f bs ≡ Some (ids, rest) → behind first (take_all_ids n (f ∷ fs) bs) ≡ behind (first ++ ids ∷ []) (take_all_ids n fs rest)
ids_more n f fs bs ids rest first taken = ap (λ o. behind first (o >>= (λ p. option_map (λ more. p.0 ∷ more) (take_all_ids n fs p.1)))) taken ∙ go (take_all_ids n fs rest)
  where
    go : (o : Option (List (List ℕ))) → behind first (option_map (λ more. ids ∷ more) o) ≡ behind (first ++ ids ∷ []) o
    go None = refl
    go (Some more) = ap Some (sym (append_assoc first (ids ∷ []) more))

-- one field isn't there
pub ids_none : (n f : ℕ) (fs bs : List ℕ) (first : List (List ℕ)) → take_ids n f bs ≡ None → behind first (take_all_ids n (f ∷ fs) bs) ≡ None
ids_none n f fs bs first none = ap (λ o. behind first (o >>= (λ p. option_map (λ more. p.0 ∷ more) (take_all_ids n fs p.1)))) none

ids_back : (n f : ℕ) (ids rest : List ℕ) → f < 2 ^ 32 → length ids ≡ n → take_ids n f (u32_bytes f ++ (ids ++ rest)) ≡ Some (ids, rest)
ids_back n f ids rest below long =
    let e : nat_eq f f ≡ true = grind (arith, nat_tests) in
    ap (λ o. o >>= (λ p. only_if (nat_eq p.0 f) (take_count n p.1))) (u32_back f (ids ++ rest) below)
    ∙ ap (λ t. only_if t (take_count n (ids ++ rest))) e
    ∙ ap (λ k. take_count k (ids ++ rest)) (sym long)
    ∙ count_back ids rest

-- a section is taken as the ids of its fields
pub section_taken : (n : ℕ) (norms : List (ℕ × List ℕ)) → AllByRecursion (λ p. length p.1 ≡ n) norms → AllByRecursion (λ f. f < 2 ^ 32) (map (λ p. p.0) norms) → take_all_ids n (map (λ p. p.0) norms) (norms_bytes norms) ≡ Some (map (λ p. p.1) norms)
section_taken n [] counts small = refl
section_taken n ((f, ids) ∷ norms) counts small =
    ap (take_all_ids n (f ∷ map (λ p. p.0) norms)) (append_assoc (u32_bytes f) ids (norms_bytes norms))
    ∙ ap (λ o. o >>= (λ p. option_map (λ more. p.0 ∷ more) (take_all_ids n (map (λ p. p.0) norms) p.1))) (ids_back n f ids (norms_bytes norms) small.0 counts.0)
    ∙ ap (option_map (λ more. ids ∷ more)) (section_taken n norms counts.1 small.1)

pub section_is_taken : (n : ℕ) (fields bytes : List ℕ) (norms : List (ℕ × List ℕ)) → IsNorms fields n bytes norms → AllByRecursion (λ f. f < 2 ^ 32) fields → take_all_ids n fields bytes ≡ Some (map (λ p. p.1) norms)
section_is_taken n fields bytes norms is small =
    ap₂ (take_all_ids n) (sym is.names) is.spelled
    ∙ section_taken n norms is.counts (subst (AllByRecursion (λ f. f < 2 ^ 32)) (sym is.names) small)

-- what is taken was put
ids_put : (n f : ℕ) (bs ids rest : List ℕ) → AreBytes bs → take_ids n f bs ≡ Some (ids, rest) → (length ids ≡ n) × (bs ≡ field_norms_bytes (f, ids) ++ rest)
ids_put n f bs ids rest bytes taken = go (take_u32 bs) refl taken
  where
    same : (p : ℕ × List ℕ) (t : Bool) → nat_eq p.0 f ≡ t → take_u32 bs ≡ Some p → only_if t (take_count n p.1) ≡ Some (ids, rest) → (length ids ≡ n) × (bs ≡ field_norms_bytes (f, ids) ++ rest)
    same p false e first is = cc
    same p true e first is =
        let field : p.0 ≡ f = grind (arith, nat_tests) in
        let counted = count_put n p.1 ids rest is in
        let put = u32_put bs p.0 p.1 bytes first in
        (counted.0, put.1 ∙ ap₂ (λ m xs. u32_bytes m ++ xs) field counted.1 ∙ sym (append_assoc (u32_bytes f) ids rest))

    go : (o : Option (ℕ × List ℕ)) → take_u32 bs ≡ o → (o >>= (λ p. only_if (nat_eq p.0 f) (take_count n p.1))) ≡ Some (ids, rest) → (length ids ≡ n) × (bs ≡ field_norms_bytes (f, ids) ++ rest)
    go None e is = cc
    go (Some p) e is = same p (nat_eq p.0 f) refl e is

-- fields and the ids that are taken for them
pub record Taken (n : ℕ) (fields bytes : List ℕ) (ids : List (List ℕ)) : Type 0 where
  pub norms : IsNorms fields n bytes (zip fields ids)
  pub many : length ids ≡ length fields
  pub long : AllByRecursion (λ v. length v ≡ n) ids

pub taken_is_section : (n : ℕ) (fields bytes : List ℕ) (ids : List (List ℕ)) → AreBytes bytes → take_all_ids n fields bytes ≡ Some ids → Taken n fields bytes ids
taken_is_section n [] [] [] bytes taken = record { norms = record { names = refl; counts = tt; spelled = refl }; many = refl; long = tt }
taken_is_section n [] [] (v ∷ ids) bytes taken = cc
taken_is_section n [] (b ∷ bs) ids bytes taken = cc
taken_is_section n (f ∷ fs) bs ids bytes taken = go (λ rest more few e. taken_is_section n fs rest more few e) (take_ids n f bs) refl taken
  where
    joined : (v rest : List ℕ) (more : List (List ℕ)) → length v ≡ n → bs ≡ field_norms_bytes (f, v) ++ rest → Taken n fs rest more → v ∷ more ≡ ids → Taken n (f ∷ fs) bs ids
    joined v rest more long put later is = subst (Taken n (f ∷ fs) bs) is (record {
      norms = record {
        names = ap (λ xs. f ∷ xs) later.norms.names;
        counts = (long, later.norms.counts);
        spelled = put ∙ ap (λ xs. field_norms_bytes (f, v) ++ xs) later.norms.spelled;
      };
      many = ap suc later.many;
      long = (long, later.long);
    })

    later : ((rest : List ℕ) (more : List (List ℕ)) → AreBytes rest → take_all_ids n fs rest ≡ Some more → Taken n fs rest more) → (v rest : List ℕ) (o : Option (List (List ℕ))) → take_all_ids n fs rest ≡ o → take_ids n f bs ≡ Some (v, rest) → option_map (λ more. v ∷ more) o ≡ Some ids → Taken n (f ∷ fs) bs ids
    later all v rest None e first is = cc
    later all v rest (Some more) e first is =
        let put = ids_put n f bs v rest bytes first in
        let few : AreBytes rest = back_bytes (field_norms_bytes (f, v)) rest (subst AreBytes put.1 bytes) in
        let same : v ∷ more ≡ ids = cc in
        joined v rest more put.0 put.1 (all rest more few e) same

    go : ((rest : List ℕ) (more : List (List ℕ)) → AreBytes rest → take_all_ids n fs rest ≡ Some more → Taken n fs rest more) → (o : Option (List ℕ × List ℕ)) → take_ids n f bs ≡ o → (o >>= (λ p. option_map (λ more. p.0 ∷ more) (take_all_ids n fs p.1))) ≡ Some ids → Taken n (f ∷ fs) bs ids
    go all None e is = cc
    go all (Some (v, rest)) e is = later all v rest (take_all_ids n fs rest) refl e is

-- ---- ids of one field

-- whether a pair is a field's
abbrev is_of : ℕ → ℕ × List ℕ → Bool
is_of field p = nat_eq p.0 field

found_if : (field : ℕ) (t : Bool) (p : ℕ × List ℕ) (ps : List (ℕ × List ℕ)) → is_of field p ≡ t → ids_of field (p ∷ ps) ≡ cond t (Some p.1) (ids_of field ps)
found_if field true p ps e = ap (λ b. option_map (λ q. q.1) (cond b (Some p) (find (is_of field) ps))) e
found_if field false p ps e = ap (λ b. option_map (λ q. q.1) (cond b (Some p) (find (is_of field) ps))) e

-- a field that isn't there has no ids
pub ids_absent : (field : ℕ) (fs : List ℕ) (ids : List (List ℕ)) → ((i : ℕ) → i < length fs → get_or fs i 0 ≢ field) → ids_of field (zip fs ids) ≡ None
ids_absent field [] ids absent = refl
ids_absent field (f ∷ fs) [] absent = refl
ids_absent field (f ∷ fs) (v ∷ ids) absent =
    let other = absent 0 (omega arith) in
    let e : nat_eq f field ≡ false = grind (arith, nat_tests) in
    found_if field false (f, v) (zip fs ids) e ∙ ids_absent field fs ids (λ i inside. absent (suc i) (omega arith))

-- a field's ids stand at its index
pub ids_at : (field next : ℕ) (fs : List ℕ) (ids : List (List ℕ)) (i : ℕ) → IsAscendingFrom next fs → i < length fs → length ids ≡ length fs → get_or fs i 0 ≡ field → ids_of field (zip fs ids) ≡ Some (get_or ids i [])
ids_at field next [] ids i ascends inside long is = absurd (omega arith)
ids_at field next (f ∷ fs) [] i ascends inside long is = absurd (omega arith)
ids_at field next (f ∷ fs) (v ∷ ids) zero ascends inside long is =
    let e : nat_eq f field ≡ true = grind (arith, nat_tests) in
    found_if field true (f, v) (zip fs ids) e
ids_at field next (f ∷ fs) (v ∷ ids) (suc i) ascends inside long is =
    let above : f + 1 ≤ get_or fs i 0 = ascends_least (f + 1) fs i ascends.1 (omega arith) in
    let other : f ≢ field = omega arith in
    let e : nat_eq f field ≡ false = grind (arith, nat_tests) in
    found_if field false (f, v) (zip fs ids) e ∙ ids_at field (f + 1) fs ids i ascends.1 (omega arith) (omega arith) is

pub all_below : (n : ℕ) (xs : List ℕ) → ((i : ℕ) → get_or xs i 0 < n) → AllByRecursion (λ x. x < n) xs
all_below n [] small = tt
all_below n (x ∷ xs) small = (small 0, all_below n xs (λ i. small (suc i)))

-- ---- a section that is lent

-- the numbers of fields take four bytes
number_long : (f : ℕ) → length (u32_bytes f) ≡ 4
number_long f = refl

ids_here : (n f : ℕ) (ids rest : List ℕ) → length ids ≡ n → take n (drop 4 ((u32_bytes f ++ ids) ++ rest)) ≡ ids
ids_here n f ids rest long =
    ap (λ xs. take n (drop 4 xs)) (append_assoc (u32_bytes f) ids rest)
    ∙ ap (take n) (drop-append_seam (u32_bytes f) (ids ++ rest))
    ∙ ap (λ k. take k (ids ++ rest)) (sym long)
    ∙ take-append_seam ids rest

rest_here : (n f : ℕ) (ids rest : List ℕ) → length ids ≡ n → drop (4 + n) ((u32_bytes f ++ ids) ++ rest) ≡ rest
rest_here n f ids rest long =
    let whole : 4 + n ≡ length (u32_bytes f ++ ids) = omega (arith, length-append (u32_bytes f) ids, number_long f, long) in
    ap (λ k. drop k ((u32_bytes f ++ ids) ++ rest)) whole ∙ drop-append_seam (u32_bytes f ++ ids) rest

norms_back : (n : ℕ) (norms : List (ℕ × List ℕ)) → AllByRecursion (λ p. length p.1 ≡ n) norms → norms_in n (map (λ p. p.0) norms) (norms_bytes norms) ≡ norms
norms_back n [] counts = refl
norms_back n ((f, ids) ∷ norms) counts =
    let fields = map (λ (p : ℕ × List ℕ). p.0) norms in
    ap₂ (λ xs bs. (f, xs) ∷ norms_in n fields bs) (ids_here n f ids (norms_bytes norms) counts.0) (rest_here n f ids (norms_bytes norms) counts.0)
    ∙ ap (λ ps. (f, ids) ∷ ps) (norms_back n norms counts.1)

-- what is lent from a section are its ids
pub norms_lent : (n : ℕ) (fields bytes : List ℕ) (norms : List (ℕ × List ℕ)) → IsNorms fields n bytes norms → norms_in n fields bytes ≡ norms
norms_lent n fields bytes norms is = ap₂ (norms_in n) (sym is.names) is.spelled ∙ norms_back n norms is.counts

norms_long : (n : ℕ) (norms : List (ℕ × List ℕ)) → AllByRecursion (λ p. length p.1 ≡ n) norms → length (norms_bytes norms) ≡ length norms * (4 + n)
norms_long n [] counts = omega arith
norms_long n ((f, ids) ∷ norms) counts =
    let rest = norms_long n norms counts.1 in
    let here = counts.0 in
    let whole = length-append (u32_bytes f ++ ids) (norms_bytes norms) in
    let first = length-append (u32_bytes f) ids in
    omega (arith, rest, here, whole, first, number_long f, suc-mul (length norms) (4 + n))

-- a section is as long as its ids and the numbers of its fields
pub section_long : (n : ℕ) (fields bytes : List ℕ) (norms : List (ℕ × List ℕ)) → IsNorms fields n bytes norms → length bytes ≡ length fields * (4 + n)
section_long n fields bytes norms is =
    ap length is.spelled
    ∙ norms_long n norms is.counts
    ∙ ap (λ k. k * (4 + n)) (sym (length-map norms (λ p. p.0)) ∙ ap length is.names)

-- the ids of a field end within the section
pub field_ends : (n k m : ℕ) → k < m → k * (4 + n) + 4 + n ≤ m * (4 + n)
field_ends n k m below =
    let next = suc-mul k (4 + n) in
    let upto : suc k * (4 + n) ≤ m * (4 + n) = mul-le-mul_right (4 + n) below in
    omega (arith, next, upto)

-- the ids of a field, by its index
pub ids_indexed : (n : ℕ) (fields bytes : List ℕ) (k : ℕ) → k < length fields → get_or (ids_from n fields bytes) k [] ≡ take n (drop (k * (4 + n) + 4) bytes)
ids_indexed n [] bytes k inside = absurd (omega arith)
ids_indexed n (f ∷ fields) bytes zero inside = (let here : 4 ≡ 0 * (4 + n) + 4 = omega arith in ap (λ j. take n (drop j bytes)) here)
ids_indexed n (f ∷ fields) bytes (suc k) inside =
    let next : (4 + n) + (k * (4 + n) + 4) ≡ suc k * (4 + n) + 4 = omega (arith, suc-mul k (4 + n)) in
    ids_indexed n fields (drop (4 + n) bytes) k (omega arith)
    ∙ ap (take n) (drop-drop (k * (4 + n) + 4) (4 + n) bytes ∙ ap (λ j. drop j bytes) next)

pub ids_many : (n : ℕ) (fields bytes : List ℕ) → length (ids_from n fields bytes) ≡ length fields
ids_many n [] bytes = refl
ids_many n (f ∷ fields) bytes = ap suc (ids_many n fields (drop (4 + n) bytes))

-- what is lent at a field's index are its ids
pub indexed_ids : (n field : ℕ) (fields bytes : List ℕ) (k : ℕ) (ids : List ℕ) → IsAscendingFrom 0 fields → k < length fields → get_or fields k 0 ≡ field → ids ≡ take n (drop (k * (4 + n) + 4) bytes) → Some ids ≡ ids_of field (norms_in n fields bytes)
indexed_ids n field fields bytes k ids ascends inside is lent =
    ap Some (lent ∙ sym (ids_indexed n fields bytes k inside))
    ∙ sym (ids_at field 0 fields (ids_from n fields bytes) k ascends inside (ids_many n fields bytes) is)

-- ---- a section that is read

-- nothing is taken yet
pub nothing_taken : (o : Option (List (List ℕ))) → o ≡ behind [] o
nothing_taken None = refl
nothing_taken (Some ids) = refl

pub section_read : (n : ℕ) (fields bytes rest : List ℕ) (ids : List (List ℕ)) (i : ℕ) → take_all_ids n fields bytes ≡ behind ids (take_all_ids n (drop i fields) rest) → length fields ≤ i → length rest ≡ 0 → take_all_ids n fields bytes ≡ Some ids
section_read n fields bytes rest ids i so_far all empty =
    so_far ∙ ap₂ (λ fs bs. behind ids (take_all_ids n fs bs)) (drop_all i fields all) (nothing rest empty) ∙ ap Some (append-nil ids)
  where
    nothing : (bs : List ℕ) → length bs ≡ 0 → bs ≡ []
    nothing [] e = refl
    nothing (b ∷ bs) e = absurd (omega arith)

pub section_left : (n : ℕ) (fields bytes rest : List ℕ) (ids : List (List ℕ)) (i : ℕ) → take_all_ids n fields bytes ≡ behind ids (take_all_ids n (drop i fields) rest) → length fields ≤ i → length rest ≢ 0 → take_all_ids n fields bytes ≡ None
section_left n fields bytes rest ids i so_far all more = so_far ∙ ap (λ fs. behind ids (take_all_ids n fs rest)) (drop_all i fields all) ∙ something rest more
  where
    something : (bs : List ℕ) → length bs ≢ 0 → behind ids (take_all_ids n [] bs) ≡ None
    something [] more = absurd (more refl)
    something (b ∷ bs) more = refl

-- what isn't taken is no section
pub no_section : (n : ℕ) (fields bytes : List ℕ) → ((i : ℕ) → get_or fields i 0 < 2 ^ 32) → take_all_ids n fields bytes ≡ None → (norms : List (ℕ × List ℕ)) → IsNorms fields n bytes norms → ⊥
no_section n fields bytes small none norms is = (let some : take_all_ids n fields bytes ≡ Some (map (λ p. p.1) norms) = section_is_taken n fields bytes norms is (all_below (2 ^ 32) fields small) in cc)

-- a field is read
pub field_read : (n : ℕ) (fields bytes rest ids after : List ℕ) (first : List (List ℕ)) (i f : ℕ) → take_all_ids n fields bytes ≡ behind first (take_all_ids n (drop i fields) rest) → i < length fields → f ≡ get_or fields i 0 → take_ids n f rest ≡ Some (ids, after) → take_all_ids n fields bytes ≡ behind (first ++ ids ∷ []) (take_all_ids n (drop (i + 1) fields) after)
field_read n fields bytes rest ids after first i f so_far inside is taken =
    so_far
    ∙ ap (λ fs. behind first (take_all_ids n fs rest)) (drop-cons fields i 0 inside ∙ ap (λ g. g ∷ drop (suc i) fields) (sym is))
    ∙ ids_more n f (drop (suc i) fields) rest ids after first taken
    ∙ ap (λ k. behind (first ++ ids ∷ []) (take_all_ids n (drop k fields) after)) (sym (add-one i))

-- a field can't be read
pub field_unread : (n : ℕ) (fields bytes rest : List ℕ) (first : List (List ℕ)) (i f : ℕ) → take_all_ids n fields bytes ≡ behind first (take_all_ids n (drop i fields) rest) → i < length fields → f ≡ get_or fields i 0 → take_ids n f rest ≡ None → take_all_ids n fields bytes ≡ None
field_unread n fields bytes rest first i f so_far inside is none =
    so_far
    ∙ ap (λ fs. behind first (take_all_ids n fs rest)) (drop-cons fields i 0 inside ∙ ap (λ g. g ∷ drop (suc i) fields) (sym is))
    ∙ ids_none n f (drop (suc i) fields) rest first none

pub is_empty : (n : ℕ) → true ≡ nat_eq n 0 → n ≡ 0
is_empty n e = (let e' : nat_eq n 0 ≡ true = sym e in grind (arith, nat_tests))
