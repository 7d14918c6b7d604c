-- What stands beside the words of a clause: a mark and a field's name before them, a slop and a boost behind.
use Rattle.std.specs.Prelude.{[], ◌&&◌, ◌*◌, ◌+◌, ◌-◌, ◌==◌, ◌^◌, ◌||◌, ◌∷◌, Bool, Err, List, None, Ok, Option, Result, Some, drop, false, if◌then◌else◌, length, nat_lt, ok_or, option_and_then, option_map, position, slice_index, take, true, ℕ}
use Rattle.std.specs.Char.{is_ascii_digit}
use Rattle.definitions.specs.Query.{Occur, must, must_not, should}
use Rattle.query_text.specs.declared.refusal.Reason.{Reason}
use Rattle.query_text.specs.declared.refusal.Reason.TheVariants as reasons

-- what stands before the first such byte and behind it, where there is one
abbrev pub split_at : ℕ → List ℕ → Option (List ℕ × List ℕ)
split_at byte text = option_map (λ i. (take i text, drop (i + 1) text)) (position (λ b. b == byte) text)

-- ---- numbers

-- a number with one more digit, if it is one and the number stays below 2^32
abbrev pub with_digit : ℕ → ℕ → Option ℕ
with_digit n b = if is_ascii_digit b && nat_lt (10 * n + (b - 48)) (2 ^ 32) then Some (10 * n + (b - 48)) else None

-- a number with the digits that go on with it
abbrev pub with_digits : ℕ → List ℕ → Option ℕ
with_digits n [] = Some n
with_digits n (b ∷ bs) = option_and_then (λ longer. with_digits longer bs) (with_digit n b)

-- one digit or more, of a number below 2^32
abbrev pub number_in : List ℕ → Option ℕ
number_in [] = None
number_in (b ∷ bs) = with_digits 0 (b ∷ bs)

-- ---- before the words

-- `+` asks that a clause matches, and `-` that it doesn't
abbrev pub marked : List ℕ → Occur × List ℕ
marked [] = (should, [])
marked (b ∷ bs) = if b == 43 then (must, bs) else (if b == 45 then (must_not, bs) else (should, b ∷ bs))

-- whether a mark stands there
abbrev pub is_marked : List ℕ → Bool
is_marked [] = false
is_marked (b ∷ bs) = b == 43 || b == 45

-- a mark, a field's name, and what follows
pub record Head : Type 0 where
  pub mark : Occur
  pub field : Option (List ℕ)
  pub rest : List ℕ

-- what stands before the first `:` is the field's name
abbrev pub fielded : Occur → List ℕ → Head
fielded mark text = elim (split_at 58 text) [ None ↦ record { mark = mark; field = None; rest = text } | Some p ↦ record { mark = mark; field = Some p.0; rest = p.1 } ]

-- the head of a run of bytes
abbrev pub head_of : List ℕ → Head
head_of run = fielded (marked run).0 (marked run).1

-- ---- behind the words

-- what stands before the first `^`, and the number behind it
abbrev pub cut_boost : List ℕ → Result (List ℕ × Option ℕ) Reason
cut_boost text = elim (split_at 94 text) [ None ↦ Ok (text, None) | Some p ↦ ok_or (option_map (λ n. (p.0, Some n)) (number_in p.1)) reasons.BadNumber ]

-- a phrase has a slop behind `~`, and 0 where nothing stands behind it
abbrev pub slop_in : List ℕ → Result ℕ Reason
slop_in [] = Ok 0
slop_in (b ∷ bs) = if b == 126 then ok_or (number_in bs) reasons.BadNumber else Err reasons.NoSpace

-- the text of a phrase, and whether it ends in `*`, which isn't of the text
abbrev pub starred : List ℕ → List ℕ × Bool
starred text = if nat_lt 0 (length text) && (slice_index text (length text - 1) == 42) then (take (length text - 1) text, true) else (text, false)
