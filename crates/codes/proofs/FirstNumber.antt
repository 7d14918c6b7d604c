-- A number that is known to stand first, byte by byte.
use Rattle.std.proofs.Common.{[], Bool, IsSome, List, None, Option, Some, ap, arith, drop, false, get_or, length, mul_comm, mul_assoc, mul-add, nat_eq, nat_lt, option_map, refl, subst, suc, sym, take, true, zero, ◌%◌, ◌*◌, ◌+◌, ◌-◌, ◌<◌, ◌≡◌, ◌≤◌, ◌∙◌, ◌∷◌, ◌^◌, ℕ}
use Rattle.std.proofs.lemmas.Bool.Decides.{nat_tests}
use Rattle.std.proofs.lemmas.List.{take_rest}
use Rattle.std.proofs.lemmas.Nat.{pow-add}
use Rattle.std.proofs.Math.Pow.{pow_mono}
use Rattle.common.proofs.AliveSetBytes.{rest_in as rest_of}
use Rattle.common.proofs.TakenBack.{number_of}
use Rattle.common.proofs.VintDigits.{digit_fits, digits_more, joined, others_above}
use Rattle.definitions.specs.Json.{only_if, ◌>>=◌}
use Rattle.definitions.specs.NumberCodes.{take_digits}
use Rattle.layouts.specs.VintBlocks.{is_u32, take_number}

-- the value of the digits so far, and the digits that follow make the number
pub record Follows (bytes : List ℕ) (value shift : ℕ) (rest : List ℕ) : Type 0 where
  pub number : ℕ
  pub left : List ℕ
  pub taken : take_number bytes ≡ Some (value + 2 ^ shift * number, left)
  pub fits : value + 2 ^ shift * number < 2 ^ 32
  pub more : take_digits (nat_eq shift 0) rest ≡ Some (number, left)
  pub small : value < 2 ^ shift
  pub short : shift < 32

pub none_so_far : (bytes : List ℕ) → IsSome (take_number bytes) → Follows bytes 0 0 bytes
none_so_far bytes some = go (take_digits true bytes) refl some
  where
    of_some : (p : ℕ × List ℕ) → take_digits true bytes ≡ Some p → (a b : Bool) → nat_lt p.0 (2 ^ 64) ≡ a → is_u32 p.0 ≡ b → IsSome (only_if a (Some p) >>= (λ q. only_if (is_u32 q.0) (Some q))) → Follows bytes 0 0 bytes
    of_some p is false b ea eb s = absurd (let h : IsSome {T = ℕ × List ℕ} None = s in cc)
    of_some p is true false ea eb s = absurd (let h : IsSome {T = ℕ × List ℕ} None = subst (λ t. IsSome (only_if t (Some p))) eb s in cc)
    of_some p is true true ea eb s =
        let small : p.0 < 2 ^ 32 = grind (arith, nat_tests) in
        let same : p.0 ≡ 0 + 2 ^ 0 * p.0 = omega arith in
        record {
          number = p.0;
          left = p.1;
          taken =
              ap (λ o. (o >>= (λ q. only_if (nat_lt q.0 (2 ^ 64)) (Some q))) >>= (λ q. only_if (is_u32 q.0) (Some q))) is
              ∙ ap (λ t. only_if t (Some p) >>= (λ q. only_if (is_u32 q.0) (Some q))) ea
              ∙ ap (λ t. only_if t (Some p)) eb
              ∙ ap (λ n. Some (n, p.1)) same;
          fits = omega arith;
          more = is;
          small = omega arith;
          short = omega arith;
        }

    go : (o : Option (ℕ × List ℕ)) → take_digits true bytes ≡ o → IsSome ((o >>= (λ q. only_if (nat_lt q.0 (2 ^ 64)) (Some q))) >>= (λ q. only_if (is_u32 q.0) (Some q))) → Follows bytes 0 0 bytes
    go None e s = absurd (let h : IsSome {T = ℕ × List ℕ} None = s in cc)
    go (Some p) e s = of_some p e (nat_lt p.0 (2 ^ 64)) (is_u32 p.0) refl refl s

-- a byte stands there
pub byte_stands : (bytes : List ℕ) (value shift : ℕ) (rest : List ℕ) → Follows bytes value shift rest → 0 < length rest
byte_stands bytes value shift [] follows = absurd (let h = follows.more in cc)
byte_stands bytes value shift (b ∷ after) follows = omega arith

-- the digits that follow a digit
record Later (b number : ℕ) (left after : List ℕ) : Type 0 where
  pub others : ℕ
  pub above : 0 < others
  pub whole : b + 2 ^ 7 * others ≡ number
  pub more : take_digits false after ≡ Some (others, left)

later : (alone : Bool) (b number : ℕ) (left after : List ℕ) → b < 128 → take_digits alone (b ∷ after) ≡ Some (number, left) → Later b number left after
later alone b number left after low more = go (take_digits false after) refl (sym (digits_more alone b after low) ∙ more)
  where
    go : (o : Option (ℕ × List ℕ)) → take_digits false after ≡ o → option_map (joined b 7) o ≡ Some (number, left) → Later b number left after
    go None e is = absurd cc
    go (Some q) e is =
        let whole : b + 2 ^ 7 * q.0 ≡ number = ap number_of is in
        let same : q.1 ≡ left = ap rest_of is in
        record { others = q.0; above = others_above after q e; whole = whole; more = e ∙ ap (λ r. Some (q.0, r)) same }

-- what a digit adds is below 2^32
fits_in : (shift number : ℕ) → 2 ^ shift * number < 2 ^ 32 → 0 < number → shift < 32
fits_in shift number fits some = go (nat_lt shift 32) refl
  where
    go : (t : Bool) → nat_lt shift 32 ≡ t → shift < 32
    go true e = grind (arith, nat_tests)
    go false e =
        let most : 32 ≤ shift = grind (arith, nat_tests) in
        let great : 2 ^ 32 ≤ 2 ^ shift = pow_mono most in
        let whole : 2 ^ shift ≤ 2 ^ shift * number = one_or_more (2 ^ shift) number some in
        absurd (omega arith)
      where
        one_or_more : (m k : ℕ) → 0 < k → m ≤ m * k
        one_or_more m zero some = absurd (omega arith)
        one_or_more m (suc k) some = omega (arith, mul-add m 1 k)

-- a number on the digits before it
higher : (value shift b x : ℕ) → value + b * 2 ^ shift + 2 ^ (shift + 7) * x ≡ value + 2 ^ shift * (b + 2 ^ 7 * x)
higher value shift b x =
    let next : 2 ^ (shift + 7) ≡ 2 ^ shift * 128 = pow-add 2 shift 7 in
    let apart : 2 ^ shift * (b + 128 * x) ≡ 2 ^ shift * b + 2 ^ shift * (128 * x) = mul-add (2 ^ shift) b (128 * x) in
    let first : 2 ^ shift * b ≡ b * 2 ^ shift = mul_comm (2 ^ shift) b in
    let others : 2 ^ shift * (128 * x) ≡ 2 ^ (shift + 7) * x = sym (mul_assoc (2 ^ shift) 128 x) ∙ ap (λ n. n * x) (sym next) in
    omega arith

-- nothing is cut off
uncut : (n : ℕ) → n < 2 ^ 32 → n % 2 ^ 32 ≡ n
uncut n low = omega arith

-- one digit is read, and the others are left
digit_read : (bytes : List ℕ) (value shift b : ℕ) (after : List ℕ) → Follows bytes value shift (b ∷ after) → b < 128 → Follows bytes (value + b * 2 ^ shift % 2 ^ 32) (shift + 7) after
digit_read bytes value shift b after follows low =
    let l = later (nat_eq shift 0) b follows.number follows.left after low follows.more in
    let whole : value + b * 2 ^ shift + 2 ^ (shift + 7) * l.others ≡ value + 2 ^ shift * follows.number = higher value shift b l.others ∙ ap (λ n. value + 2 ^ shift * n) l.whole in
    let f = follows.fits in
    let small : b * 2 ^ shift < 2 ^ 32 = omega (arith, whole) in
    let added : b * 2 ^ shift % 2 ^ 32 ≡ b * 2 ^ shift = uncut (b * 2 ^ shift) small in
    let great : 2 ^ (shift + 7) * l.others < 2 ^ 32 = omega (arith, whole) in
    let not_first : nat_eq (shift + 7) 0 ≡ false = grind (arith, nat_tests) in
    record {
      number = l.others;
      left = follows.left;
      taken = follows.taken ∙ ap (λ n. Some (n, follows.left)) (sym whole ∙ ap (λ n. value + n + 2 ^ (shift + 7) * l.others) (sym added));
      fits = omega (arith, whole, added);
      more = ap (λ t. take_digits t after) not_first ∙ l.more;
      small = rw added (digit_fits value shift b follows.small low);
      short = fits_in (shift + 7) l.others great l.above;
    }

pub digit_more : (bytes : List ℕ) (value shift b : ℕ) (rest : List ℕ) → Follows bytes value shift rest → b ≡ get_or rest 0 0 → get_or rest 0 0 < 128 → Follows bytes (value + b * 2 ^ shift % 2 ^ 32) (shift + 7) (take (length rest - 1) (drop 1 rest))
digit_more bytes value shift b [] follows is low = absurd (let h = byte_stands bytes value shift [] follows in omega arith)
digit_more bytes value shift b (d ∷ after) follows is low =
    subst (λ n. Follows bytes (value + n * 2 ^ shift % 2 ^ 32) (shift + 7) (take (length (d ∷ after) - 1) (drop 1 (d ∷ after)))) (sym is)
    (subst (λ r. Follows bytes (value + d * 2 ^ shift % 2 ^ 32) (shift + 7) r) (sym (take_rest (d ∷ after) 1)) (digit_read bytes value shift d after follows low))

-- the last digit is read
pub record Whole (bytes : List ℕ) (number : ℕ) (left : List ℕ) : Type 0 where
  pub taken : take_number bytes ≡ Some (number, left)
  pub fits : number < 2 ^ 32
