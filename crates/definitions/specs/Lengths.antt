-- Lengths of fields, and the one byte that keeps them.
use Rattle.std.specs.Prelude.{◌%◌, ◌*◌, ◌+◌, ◌-◌, ◌/◌, ◌^◌, List, filter_map, if◌then◌else◌, length, nat_le, nat_lt, slice_get, suc, sum_by, zero, ℕ}
use Rattle.std.specs.Option.{option_map_or}
use Rattle.definitions.specs.Analyzers.{Analyzer, tokens_of}
use Rattle.definitions.specs.Schema.{Kind, Schema, text_kind}
use Rattle.definitions.specs.Values.{Document, Value, values_of}

-- the length of values of a kind: of text its tokens, else how many there are
abbrev pub kind_len : Kind → Analyzer → List ℕ → List Value → ℕ
kind_len text_kind analyze tokenizer values = sum_by length (filter_map (tokens_of analyze tokenizer) values)
kind_len _ analyze tokenizer values = length values

-- how many tokens a text field has, and how many values another
abbrev pub len_of : Schema → Analyzer → ℕ → Document → ℕ
len_of schema analyze field doc = option_map_or (λ e. kind_len e.kind analyze e.tokenizer (values_of field doc)) (slice_get schema field) 0

-- from 8 on, eight steps for each doubling
abbrev pub doubling_steps : ℕ → ℕ
doubling_steps j = if nat_lt j 8 then j else (8 + j % 8) * 2 ^ (j / 8 - 1)

-- the length that an id stands for
abbrev pub id_to_fieldnorm : ℕ → ℕ
id_to_fieldnorm i = if nat_lt i 24 then i else 24 + doubling_steps (i - 24)

-- the greatest id up to a limit whose length isn't above n
abbrev pub greatest_id : ℕ → ℕ → ℕ
greatest_id zero n = 0
greatest_id (suc i) n = if nat_le (id_to_fieldnorm (suc i)) n then suc i else greatest_id i n

-- the greatest of the ids 0 to 255 whose length isn't above n
abbrev pub fieldnorm_to_id : ℕ → ℕ
fieldnorm_to_id n = greatest_id 255 n
