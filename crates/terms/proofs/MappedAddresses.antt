-- The bits of an IPv4 address that is mapped into IPv6.
use Rattle.std.proofs.Common.{[], ◌<◌, ◌∙◌, ◌∷◌, ◌≡◌, List, ap, arith, get_or, length, refl, ℕ}
use Rattle.std.specs.Int.{from_be_bytes, w128, w32}
use Rattle.std.specs.Net.Addr.{octets_of, segments_of}
use Rattle.definitions.proofs.Lists.{high_octet, low_octet}
use Rattle.definitions.specs.Addresses.{mapped}

octets_back : (a b c d : ℕ) → b < 256 → d < 256 → octets_of (segments_of (a ∷ b ∷ c ∷ d ∷ [])) ≡ a ∷ b ∷ c ∷ d ∷ []
octets_back a b c d hb hd = rw (high_octet a b hb, low_octet a b hb, high_octet c d hd, low_octet c d hd) refl

-- four octets behind 0xffff
worth : (a b c d : ℕ) → from_be_bytes w128 (0 ∷ 0 ∷ 0 ∷ 0 ∷ 0 ∷ 0 ∷ 0 ∷ 0 ∷ 0 ∷ 0 ∷ 255 ∷ 255 ∷ a ∷ b ∷ c ∷ d ∷ []) ≡ mapped (from_be_bytes w32 (a ∷ b ∷ c ∷ d ∷ []))
worth a b c d = omega arith

pub mapped_bits : (octets : List ℕ) → length octets ≡ 4 → ((i : ℕ) → get_or octets i 0 < 256) → from_be_bytes w128 (octets_of (0 ∷ 0 ∷ 0 ∷ 0 ∷ 0 ∷ 0xffff ∷ segments_of octets)) ≡ mapped (from_be_bytes w32 octets)
mapped_bits [] four bytes = cc
mapped_bits (a ∷ []) four bytes = cc
mapped_bits (a ∷ b ∷ []) four bytes = cc
mapped_bits (a ∷ b ∷ c ∷ []) four bytes = cc
mapped_bits (a ∷ b ∷ c ∷ d ∷ []) four bytes = ap (λ (low : List ℕ). from_be_bytes w128 (0 ∷ 0 ∷ 0 ∷ 0 ∷ 0 ∷ 0 ∷ 0 ∷ 0 ∷ 0 ∷ 0 ∷ 255 ∷ 255 ∷ low)) (octets_back a b c d (bytes 1) (bytes 3)) ∙ worth a b c d
mapped_bits (a ∷ b ∷ c ∷ d ∷ e ∷ more) four bytes = cc
