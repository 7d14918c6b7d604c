-- The parts of a date's text. Years are searched for in the definitions, so these stay closed in contracts.
use Rattle.std.specs.Prelude.{◌%◌, ◌*◌, ◌++◌, ◌/◌, ◌^◌, List, codes, ℕ}
use Rattle.definitions.specs.Dates.{day_text, fraction_text, month_and_day, month_lengths, time_text}

-- the date of a day, which are numbered from the year 0 on
unfoldable pub civil_text : ℕ → List ℕ
civil_text day = day_text day

-- the month and the day of the month of a day of a year
unfoldable pub month_and_day_in : ℕ → ℕ → ℕ × ℕ
month_and_day_in year day = month_and_day 1 (month_lengths year) day

-- the instant `nanos` nanoseconds after the start of the year 0
abbrev pub parts_text : ℕ → List ℕ
parts_text nanos = civil_text (nanos / (86400 * 10 ^ 9)) ++ (codes "T" ++ (time_text (nanos / 10 ^ 9 % 86400) ++ (fraction_text (nanos % 10 ^ 9) ++ codes "Z")))
