-- Short keys as numbers.
use Rattle.std.specs.Prelude.{[], ◌%◌, ◌*◌, ◌++◌, ◌+◌, ◌-◌, ◌<◌, ◌^◌, ◌≡◌, ◌≤◌, ◌∷◌, List, length, replicate, slice_index_or as get_or, take, ℕ}
use Rattle.std.specs.Int.{to_be_bytes, w128}
use Rattle.std.specs.List.{AllByRecursion}

-- a number, and behind it bytes as digits
abbrev pub worth : ℕ → List ℕ → ℕ
worth n [] = n
worth n (b ∷ bs) = worth (n * 256 + b) bs

-- how many bytes a short key has at most
abbrev pub max_short : ℕ
max_short = 15

-- sixteen bytes: a short key, zeros, and how long the key is
abbrev pub padded : List ℕ → List ℕ
padded key = key ++ (replicate (15 - length key) 0 ++ length key ∷ [])

-- a short key as a number
abbrev pub packed : List ℕ → ℕ
packed key = worth 0 (padded key)

-- bytes that are a short key
pub record IsShort (key : List ℕ) : Type 0 where
  pub bytes : AllByRecursion (λ b. b < 256) key
  pub short : length key ≤ max_short

-- a number that is a short key
pub record IsPacked (n : ℕ) : Type 0 where
  pub key : List ℕ
  pub is_short : IsShort key
  pub packed_is : n ≡ packed key

-- a number with a mask added, in 128 bits
abbrev pub masked : ℕ → ℕ → ℕ
masked mask n = (n + mask) % 2 ^ 128

-- and one with the mask taken off
abbrev pub unmasked : ℕ → ℕ → ℕ
unmasked mask n = (n + (2 ^ 128 - mask)) % 2 ^ 128

-- a number that is a short key, with a mask of 128 bits
pub record IsMasked (mask n : ℕ) : Type 0 where
  pub fits : mask < 2 ^ 128
  pub number : ℕ
  pub is_packed : IsPacked number
  pub masked_is : n ≡ masked mask number

-- the key among sixteen bytes
abbrev pub key_of : List ℕ → List ℕ
key_of bytes = take (get_or bytes 15 0) bytes

-- the key that a number with this mask is
abbrev pub unpacked : ℕ → ℕ → List ℕ
unpacked mask n = key_of (to_be_bytes w128 (unmasked mask n))

-- sixteen bytes are those of a number that is a short key
abbrev pub AreOfKey : List ℕ → Type 0
AreOfKey bytes = (n : ℕ) × IsPacked n × (bytes ≡ to_be_bytes w128 n)
