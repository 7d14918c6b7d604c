-- The bits of an address that is made of them.
use Rattle.std.proofs.Common.{[], ◌%◌, ◌*◌, ◌+◌, ◌/◌, ◌<◌, ◌^◌, ◌∙◌, ◌∷◌, ◌≡◌, List, ap, ap₂, arith, fold, refl, suc, zero, ℕ}
use Rattle.std.specs.Int.{byte_at, bytes_high_first, from_be_bytes, to_be_bytes, w128}
use Rattle.std.specs.Net.Addr.{IsIpv6OfBits, ipv6_bits, octets_of, segments_of}
use Rattle.std.specs.declared.net.ipv6_addr.Ipv6Addr.{Ipv6Addr}
use Rattle.std.proofs.Math.Nat.{div-div-eq-div-mul, pow-suc}
use Rattle.definitions.proofs.Lists.{byte_is, high_octet, low_octet}

-- ---- octets of segments

byte_below : (i n : ℕ) → byte_at i n < 256
byte_below zero n = omega arith
byte_below (suc i) n = go (n / 256 ^ suc i)
  where
    go : (m : ℕ) → m % 256 < 256
    go m = omega arith

abbrev double : ℕ → ℕ
double zero = zero
double (suc k) = suc (suc (double k))

-- two octets for each segment are those that it was made of
octets_back : (k n : ℕ) → octets_of (segments_of (bytes_high_first (double k) n)) ≡ bytes_high_first (double k) n
octets_back zero n = refl
octets_back (suc k) n =
    let high = byte_at (suc (double k)) n in
    let low = byte_at (double k) n in
    let below = byte_below (double k) n in
    ap (λ (bs : List ℕ). ((high * 256 + low) / 256) ∷ ((high * 256 + low) % 256) ∷ bs) (octets_back k n)
    ∙ ap₂ (λ a b. a ∷ b ∷ bytes_high_first (double k) n) (high_octet high low below) (low_octet high low below)

-- ---- the number of bytes

-- a number's higher digits, and then its bytes
next_byte : (n p : ℕ) → n / (p * 256) * 256 + n / p % 256 ≡ n / p
next_byte n p = omega (arith, div-div-eq-div-mul n p 256)

bytes_worth : (k n : ℕ) → fold (λ m b. m * 256 + b) (n / 256 ^ k) (bytes_high_first k n) ≡ n
bytes_worth zero n = omega arith
bytes_worth (suc k) n =
    let p = 256 ^ k in
    let higher : n / 256 ^ suc k * 256 + byte_at k n ≡ n / p = ap₂ (λ q b. n / q * 256 + b) (pow-suc 256 k) (byte_is k n) ∙ next_byte n p in
    ap (λ m. fold (λ m b. m * 256 + b) m (bytes_high_first k n)) higher ∙ bytes_worth k n

sixteen : (a b c d e f g h i j k l m n o p : ℕ) → from_be_bytes w128 (a ∷ b ∷ c ∷ d ∷ e ∷ f ∷ g ∷ h ∷ i ∷ j ∷ k ∷ l ∷ m ∷ n ∷ o ∷ p ∷ []) ≡ fold (λ x y. x * 256 + y) 0 (a ∷ b ∷ c ∷ d ∷ e ∷ f ∷ g ∷ h ∷ i ∷ j ∷ k ∷ l ∷ m ∷ n ∷ o ∷ p ∷ [])
sixteen a b c d e f g h i j k l m n o p = omega arith

bytes_back : (n : ℕ) → n < 2 ^ 128 → from_be_bytes w128 (to_be_bytes w128 n) ≡ n
bytes_back n fits =
    let none : 0 ≡ n / 256 ^ 16 = omega (arith, fits) in
    sixteen (byte_at 15 n) (byte_at 14 n) (byte_at 13 n) (byte_at 12 n) (byte_at 11 n) (byte_at 10 n) (byte_at 9 n) (byte_at 8 n) (byte_at 7 n) (byte_at 6 n) (byte_at 5 n) (byte_at 4 n) (byte_at 3 n) (byte_at 2 n) (byte_at 1 n) (byte_at 0 n)
    ∙ ap (λ m. fold (λ x y. x * 256 + y) m (to_be_bytes w128 n)) none ∙ bytes_worth 16 n

-- an address that is made of bits has these
pub bits_of : (a : Ipv6Addr) (n : ℕ) → IsIpv6OfBits a n → n < 2 ^ 128 → ipv6_bits a ≡ n
unfolding IsIpv6OfBits ipv6_bits
bits_of a n made fits = ap (λ segments. from_be_bytes w128 (octets_of segments)) made ∙ ap (from_be_bytes w128) (octets_back 8 n) ∙ bytes_back n fits
