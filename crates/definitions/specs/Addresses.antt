-- Addresses as texts: dotted quads, and groups of hexadecimal digits.
use Rattle.std.specs.Prelude.{[], ◌%◌, ◌&&◌, ◌*◌, ◌++◌, ◌+◌, ◌-◌, ◌/◌, ◌==◌, ◌^◌, ◌||◌, ◌∷◌, Bool, List, None, Option, Some, codes, decimal, drop, false, fold, if◌then◌else◌, length, map, nat_eq, nat_le, nat_lt, not, option_and_then, option_map, replicate, true, ℕ}
use Rattle.std.specs.List.{join_with_byte, list_all, range_with_len, slice_split, starts_with}
use Rattle.std.specs.Int.{to_be_bytes, w32}
use Rattle.std.specs.Char.{digit_value, is_ascii_digit, is_ascii_hexdigit}
use Rattle.std.specs.Fmt.{digits}

-- the parts round a byte
abbrev pub parts_at : ℕ → List ℕ → List (List ℕ)
parts_at c s = slice_split (◌==◌ c) s

-- digits, the highest first, as a number in that base
abbrev pub digits_value : ℕ → List ℕ → ℕ
digits_value base s = fold (λ n d. n * base + digit_value d) 0 s

-- 0 to 255 in decimal, without leading zeros
abbrev pub is_octet : List ℕ → Bool
is_octet s = list_all is_ascii_digit s && nat_lt 0 (length s) && (length s == 1 || not (starts_with nat_eq s (codes "0"))) && nat_le (digits_value 10 s) 255

-- the numbers, the first the highest, each below the base
abbrev pub joined : ℕ → List ℕ → ℕ
joined base ns = fold (λ n d. n * base + d) 0 ns

-- four numbers with dots between them
abbrev pub quad_in : List ℕ → Option ℕ
quad_in s = if (length (parts_at 46 s) == 4) && list_all is_octet (parts_at 46 s) then Some (joined 256 (map (digits_value 10) (parts_at 46 s))) else None

-- an IPv4 address among the IPv6 ones
abbrev pub mapped : ℕ → ℕ
mapped n = 0xffff * 2 ^ 32 + n

-- one to four hexadecimal digits
abbrev pub is_group : List ℕ → Bool
is_group s = nat_lt 0 (length s) && nat_le (length s) 4 && list_all is_ascii_hexdigit s

-- the two groups of a dotted quad
abbrev pub quad_groups : List ℕ → Option (List ℕ)
quad_groups s = option_map (λ n. n / 2 ^ 16 ∷ n % 2 ^ 16 ∷ []) (quad_in s)

-- The groups of the parts. Where the flag is set the last two may be a dotted quad.
abbrev pub groups_of : Bool → List (List ℕ) → Option (List ℕ)
groups_of quad [] = Some []
groups_of quad (s ∷ parts) = if is_group s then option_map (◌∷◌ (digits_value 16 s)) (groups_of quad parts) else (if quad && (length parts == 0) then quad_groups s else None)

-- the groups of a text with colons between them; of no text none
abbrev pub groups_in : Bool → List ℕ → Option (List ℕ)
groups_in quad [] = Some []
groups_in quad s = groups_of quad (parts_at 58 s)

-- what stands before and after the first `::`
abbrev pub round_gap : List ℕ → Option (List ℕ × List ℕ)
round_gap [] = None
round_gap (c ∷ cs) = if starts_with nat_eq (c ∷ cs) (codes "::") then Some ([], drop 1 cs) else option_map (λ p. (c ∷ p.0, p.1)) (round_gap cs)

-- zero groups between the two, so that there are eight; at least one
abbrev pub filled : List ℕ → List ℕ → Option (List ℕ)
filled front back = if nat_lt (length front + length back) 8 then Some (front ++ (replicate (8 - (length front + length back)) 0 ++ back)) else None

-- eight groups, or fewer round one `::`
abbrev pub eight_groups : List ℕ → Option (List ℕ)
eight_groups s = elim (round_gap s) [ None ↦ option_and_then (λ gs. if length gs == 8 then Some gs else None) (groups_in true s) | Some p ↦ option_and_then (λ front. option_and_then (filled front) (groups_in true p.1)) (groups_in false p.0) ]

-- an address, of a dotted quad the mapped one
unfoldable pub address_in : List ℕ → Option ℕ
address_in s = elim (quad_in s) [ Some n ↦ Some (mapped n) | None ↦ option_map (joined (2 ^ 16)) (eight_groups s) ]

-- ---- writing

-- four numbers with dots between them
abbrev pub quad_text : ℕ → List ℕ
quad_text n = join_with_byte 46 (map decimal (to_be_bytes w32 n))

-- the eight groups of an address
abbrev pub groups : ℕ → List ℕ
groups n = map (λ i. n / 2 ^ (16 * (7 - i)) % 2 ^ 16) (range_with_len 0 8)

-- eight groups of lower-case hexadecimal digits without leading zeros
abbrev pub groups_text : ℕ → List ℕ
groups_text n = join_with_byte 58 (map (digits 16 false) (groups n))

-- a mapped IPv4 address is written as a dotted quad
unfoldable pub address_text : ℕ → List ℕ
address_text n = if n / 2 ^ 32 == 0xffff then quad_text (n % 2 ^ 32) else groups_text n
