-- What a body is: its parts and its alive sets, found one behind the other.
use Rattle.std.proofs.Common.{[], ◌++◌, ◌<◌, ◌∷◌, ◌≡◌, ◌≢◌, ◌∙◌, ◌^◌, Bool, List, None, Some, ap, ap₂, append-nil, append_assoc, drop, flat_map, length, refl, subst, sym, ℕ}
use Rattle.std.specs.List.{AllByRecursion}
use Rattle.common.proofs.AliveSetBytes.{u32_back}
use Rattle.common.proofs.TakenBack.{u32_put}
use Rattle.definitions.specs.NumberCodes.{AreBytes, take_u32, u32_bytes}
use Rattle.common.proofs.Many.{many_back, many_put, parts_are}
use Rattle.common.proofs.WordBytes.{back_bytes as bytes_after}
use Rattle.layouts.specs.AliveSets.{alive_bytes}
use Rattle.layouts.specs.DocumentReading.{take_many}
use Rattle.segment_definitions.specs.ListBodies.{Fits, Part, part_bytes, segments_body}
use Rattle.index_file.specs.Bodies.{IsBody, IsShort}
use Rattle.index_file.specs.Parts.{take_part}
use Rattle.index_file.proofs.PartsBack.{part_back, part_put}
use Rattle.index_file.proofs.SetsBack.{same_sets}

-- what stands behind the number of parts
abbrev pub behind : List Part → List (List Bool) → List ℕ
behind parts sets = flat_map part_bytes parts ++ flat_map alive_bytes sets

pub body_is : (parts : List Part) (sets : List (List Bool)) → segments_body parts sets ≡ 2 ∷ u32_bytes (length parts) ++ behind parts sets
unfolding segments_body
body_is parts sets = refl

-- a body begins with 2, and with the number of its parts
pub body_rest : (parts : List Part) (sets : List (List Bool)) (code : ℕ) (bs : List ℕ) → IsBody parts sets (code ∷ bs) → (code ≡ 2) × (take_u32 bs ≡ Some (length parts, behind parts sets))
body_rest parts sets code bs is =
    let whole = is.body_is ∙ body_is parts sets in
    let rest : bs ≡ u32_bytes (length parts) ++ behind parts sets = ap (drop 1) whole in
    (ap (first_of) whole, ap take_u32 rest ∙ u32_back (length parts) (behind parts sets) is.num_parts_fits)
  where
    first_of : List ℕ → ℕ
    first_of [] = 0
    first_of (x ∷ xs) = x

pub no_body : (parts : List Part) (sets : List (List Bool)) → ¬ IsBody parts sets []
no_body parts sets is = (let whole = is.body_is ∙ body_is parts sets in cc)

-- then come the parts
pub parts_rest : (parts : List Part) (sets : List (List Bool)) (body : List ℕ) → IsBody parts sets body → take_many take_part (length parts) (behind parts sets) ≡ Some (parts, flat_map alive_bytes sets)
parts_rest parts sets body is = many_back take_part Fits part_bytes part_back parts (flat_map alive_bytes sets) is.fit

-- a body says one list of parts, and one of sets
pub one_body : (p q : List Part) (a b : List (List Bool)) (body : List ℕ) → IsBody p a body → IsBody q b body → (p ≡ q) × (a ≡ b)
one_body p q a b [] pa qb = absurd (no_body p a pa)
one_body p q a b (code ∷ bs) pa qb =
    let heads = sym (body_rest p a code bs pa).1 ∙ (body_rest q b code bs qb).1 in
    let head = parts_are (length p, behind p a) (length q) (behind q b) heads in
    let read = sym (parts_rest p a (code ∷ bs) pa) ∙ ap₂ (λ n r. take_many take_part n r) head.0 head.1 ∙ parts_rest q b (code ∷ bs) qb in
    let are = parts_are (p, flat_map alive_bytes a) q (flat_map alive_bytes b) read in
    let long : length a ≡ length b = pa.set_for_each ∙ ap length are.0 ∙ sym qb.set_for_each in
    let nothing_behind = append-nil (flat_map alive_bytes a) ∙ are.1 ∙ sym (append-nil (flat_map alive_bytes b)) in
    (are.0, (same_sets a b [] [] long pa.short qb.short nothing_behind).0)

-- ---- what a reading of a body finds, step by step

-- the number of parts, and what stands behind it
pub number_read : (parts : List Part) (sets : List (List Bool)) (code n : ℕ) (bs after : List ℕ) → IsBody parts sets (code ∷ bs) → take_u32 bs ≡ Some (n, after) → (length parts ≡ n) × (behind parts sets ≡ after)
number_read parts sets code n bs after is taken = parts_are (length parts, behind parts sets) n after (sym (body_rest parts sets code bs is).1 ∙ taken)

-- where no number is read it is no body
pub no_number : (parts : List Part) (sets : List (List Bool)) (code : ℕ) (bs : List ℕ) → take_u32 bs ≡ None → ¬ IsBody parts sets (code ∷ bs)
no_number parts sets code bs none is = (let e = sym (body_rest parts sets code bs is).1 ∙ none in cc)

parts_taken : (parts : List Part) (sets : List (List Bool)) (code n : ℕ) (bs after : List ℕ) → IsBody parts sets (code ∷ bs) → take_u32 bs ≡ Some (n, after) → take_many take_part n after ≡ Some (parts, flat_map alive_bytes sets)
parts_taken parts sets code n bs after is taken =
    let number = number_read parts sets code n bs after is taken in
    ap₂ (take_many take_part) (sym number.0) (sym number.1) ∙ parts_rest parts sets (code ∷ bs) is

-- where no parts are read it is no body
pub no_parts : (parts : List Part) (sets : List (List Bool)) (code n : ℕ) (bs after : List ℕ) → take_u32 bs ≡ Some (n, after) → take_many take_part n after ≡ None → ¬ IsBody parts sets (code ∷ bs)
no_parts parts sets code n bs after taken none is = (let e = sym (parts_taken parts sets code n bs after is taken) ∙ none in cc)

-- the parts that are read are its parts, and what stands behind them are its sets
pub parts_read : (parts got : List Part) (sets : List (List Bool)) (code n : ℕ) (bs after rest : List ℕ) → IsBody parts sets (code ∷ bs) → take_u32 bs ≡ Some (n, after) → take_many take_part n after ≡ Some (got, rest) → (parts ≡ got) × (flat_map alive_bytes sets ≡ rest)
parts_read parts got sets code n bs after rest is taken read = parts_are (parts, flat_map alive_bytes sets) got rest (sym (parts_taken parts sets code n bs after is taken) ∙ read)

-- where no sets are read behind them it is no body
pub no_sets : (parts got : List Part) (sets : List (List Bool)) (code n count : ℕ) (bs after rest : List ℕ) → take_u32 bs ≡ Some (n, after) → take_many take_part n after ≡ Some (got, rest) → count ≡ length got
    → ((ss : List (List Bool)) (more : List ℕ) → length ss ≡ count → AllByRecursion IsShort ss → rest ≢ flat_map alive_bytes ss ++ more) → ¬ IsBody parts sets (code ∷ bs)
no_sets parts got sets code n count bs after rest taken read many none is =
    let are = parts_read parts got sets code n bs after rest is taken read in
    none sets [] (is.set_for_each ∙ ap length are.0 ∙ sym many) is.short (sym are.1 ∙ sym (append-nil (flat_map alive_bytes sets)))

-- where bytes are left behind the sets it is no body
pub no_end : (parts got : List Part) (sets found : List (List Bool)) (code n count : ℕ) (bs after rest left : List ℕ) → take_u32 bs ≡ Some (n, after) → take_many take_part n after ≡ Some (got, rest) → count ≡ length got
    → length found ≡ count → AllByRecursion IsShort found → rest ≡ flat_map alive_bytes found ++ left → left ≢ [] → ¬ IsBody parts sets (code ∷ bs)
no_end parts got sets found code n count bs after rest left taken read many long short whole some is =
    let are = parts_read parts got sets code n bs after rest is taken read in
    let same = same_sets found sets left [] (long ∙ many ∙ sym (ap length are.0) ∙ sym is.set_for_each) short is.short (sym whole ∙ sym are.1 ∙ sym (append-nil (flat_map alive_bytes sets))) in
    some same.1

-- what is read is a body
pub is_body : (got : List Part) (found : List (List Bool)) (n count : ℕ) (bs after rest left : List ℕ) → AreBytes bs → take_u32 bs ≡ Some (n, after) → take_many take_part n after ≡ Some (got, rest) → count ≡ length got
    → length found ≡ count → AllByRecursion IsShort found → rest ≡ flat_map alive_bytes found ++ left → left ≡ [] → IsBody got found (2 ∷ bs)
is_body got found n count bs after rest left are taken read many long short whole none =
    let number = u32_put bs n after are taken in
    let parts = many_put take_part Fits part_bytes part_put n after rest got (bytes_after (u32_bytes n) after (subst AreBytes number.1 are)) read in
    let ends : rest ≡ flat_map alive_bytes found = whole ∙ ap (λ xs. flat_map alive_bytes found ++ xs) none ∙ append-nil (flat_map alive_bytes found) in
    record {
      num_parts_fits = subst (λ m. m < 2 ^ 32) (sym parts.1) number.0;
      fit = parts.0;
      set_for_each = long ∙ many;
      short = short;
      body_is = ap (λ xs. 2 ∷ xs) (number.1 ∙ ap₂ (λ m xs. u32_bytes m ++ xs) (sym parts.1) (parts.2 ∙ ap (λ xs. flat_map part_bytes got ++ xs) ends)) ∙ sym (body_is got found);
    }

-- ---- what is written

-- the number of parts, these, and then the sets
pub is_written : (parts : List Part) (sets : List (List Bool)) (begun listed : List ℕ) (n : ℕ) → begun ≡ 2 ∷ u32_bytes n → n ≡ length parts → listed ≡ begun ++ flat_map part_bytes parts
    → listed ++ flat_map alive_bytes sets ≡ segments_body parts sets
is_written parts sets begun listed n at_begin many at_listed =
    let ps = flat_map part_bytes parts in
    let ss = flat_map alive_bytes sets in
    ap (λ xs. xs ++ ss) (at_listed ∙ ap (λ xs. xs ++ ps) (at_begin ∙ ap (λ m. 2 ∷ u32_bytes m) many))
    ∙ append_assoc (2 ∷ u32_bytes (length parts)) ps ss
    ∙ sym (body_is parts sets)
