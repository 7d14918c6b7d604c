-- How typed marks are read: quotation marks of other forms as `"`, and spaces past ASCII as a space.
use Rattle.std.specs.Prelude.{[], ◌+◌, ◌||◌, ◌∷◌, Bool, Err, List, Ok, Result, if◌then◌else◌, length, map, nat_eq, nat_le, slice_get, slice_index, ℕ}
use Rattle.std.specs.List.{starts_with}
use Rattle.std.specs.Option.{option_map_or}
use Rattle.query_text.specs.Refusals.{refusal_at}
use Rattle.query_text.specs.declared.refusal.Refusal.{Refusal}

-- a text begins with some bytes
abbrev pub begins_with : List ℕ → List ℕ → Bool
begins_with mark text = starts_with nat_eq text mark

-- it begins with `“`, `”` or `„`
abbrev pub begins_high_quote : List ℕ → Bool
begins_high_quote text = begins_with (226 ∷ 128 ∷ 156 ∷ []) text || (begins_with (226 ∷ 128 ∷ 157 ∷ []) text || begins_with (226 ∷ 128 ∷ 158 ∷ []) text)

-- it begins with `«` or `»`
abbrev pub begins_pointed_quote : List ℕ → Bool
begins_pointed_quote text = begins_with (194 ∷ 171 ∷ []) text || begins_with (194 ∷ 187 ∷ []) text

-- the byte that the beginning of a text is read as, and how many bytes it takes; U+00A0 and U+3000 are spaces
abbrev pub sign_of : List ℕ → ℕ × ℕ
sign_of text = if begins_high_quote text then (34, 3) else (if begins_pointed_quote text then (34, 2) else (if begins_with (194 ∷ 160 ∷ []) text then (32, 2) else (if begins_with (227 ∷ 128 ∷ 128 ∷ []) text then (32, 3) else (slice_index text 0, 1))))

-- the bytes that a text is read as, each with its offset there; those before an offset belong to one that is read
abbrev pub signs_from : ℕ → ℕ → List ℕ → List (ℕ × ℕ)
signs_from offset next [] = []
signs_from offset next (b ∷ bs) = if nat_le next offset then (offset, (sign_of (b ∷ bs)).0) ∷ signs_from (offset + 1) (offset + (sign_of (b ∷ bs)).1) bs else signs_from (offset + 1) next bs

-- the bytes that a text is read as, each with its offset there
abbrev pub signs_of : List ℕ → List (ℕ × ℕ)
signs_of text = signs_from 0 0 text

-- the text that a text is read as
abbrev pub plain_of : List ℕ → List ℕ
plain_of text = map (λ s. s.1) (signs_of text)

-- the offset in a text of what stands at an offset of the text that it is read as
abbrev pub offset_in : List ℕ → ℕ → ℕ
offset_in text place = option_map_or (λ s. s.0) (slice_get (signs_of text) place) (length text)

-- what is read, a refusal with its offset in the text
abbrev pub in_text : {A : Type 0} → List ℕ → Result A Refusal → Result A Refusal
in_text text (Ok a) = Ok a
in_text text (Err refusal) = Err (refusal_at (offset_in text refusal.place) refusal.reason)
