-- Dates as texts: read by `jiff`, and written by their parts.
use Rattle.std.specs.Prelude.{[], ◌%◌, ◌&&◌, ◌*◌, ◌++◌, ◌+ℤ◌, ◌+◌, ◌-◌, ◌/◌, ◌==◌, ◌^◌, ◌||◌, ◌∷◌, Bool, List, Option, codes, decimal, if◌then◌else◌, length, nat_abs, nat_le, nat_lt, not, pos, replicate, suc, zero, ℕ, ℤ}
use Rattle.std.specs.Result.{result_ok}
use Rattle.jiff_fmt.specs.Temporal.{parse_timestamp}

-- a timestamp in nanoseconds, or whether `jiff` doesn't read one
unfoldable pub date_in : List ℕ → Option ℤ
date_in s = result_ok (parse_timestamp s)

-- ---- the calendar

-- whether a year has 366 days
abbrev pub is_leap : ℕ → Bool
is_leap year = (year % 4 == 0) && (not (year % 100 == 0) || (year % 400 == 0))

-- the days of the years before this one, from the year 0 on
abbrev pub days_before : ℕ → ℕ
days_before year = 365 * year + (year + 3) / 4 - (year + 99) / 100 + (year + 399) / 400

-- the last year that a date reaches
abbrev pub last_year : ℕ
last_year = 2262

-- the greatest year up to a limit that begins by this day
abbrev pub year_of : ℕ → ℕ → ℕ
year_of zero day = 0
year_of (suc year) day = if nat_le (days_before (suc year)) day then suc year else year_of year day

-- the days of each month of a year
abbrev pub month_lengths : ℕ → List ℕ
month_lengths year = 31 ∷ (if is_leap year then 29 else 28) ∷ 31 ∷ 30 ∷ 31 ∷ 30 ∷ 31 ∷ 31 ∷ 30 ∷ 31 ∷ 30 ∷ 31 ∷ []

-- the month and the day of the month, both from 1, of a day of the year from 0
abbrev pub month_and_day : ℕ → List ℕ → ℕ → ℕ × ℕ
month_and_day month [] day = (month, day + 1)
month_and_day month (days ∷ later) day = let next = month_and_day (month + 1) later (day - days) in if nat_lt day days then (month, day + 1) else next

-- ---- writing

-- a number in at least `width` digits
abbrev pub padded : ℕ → ℕ → List ℕ
padded width n = replicate (width - length (decimal n)) 48 ++ decimal n

-- the digits without their last zeros
abbrev pub without_last_zeros : List ℕ → List ℕ
without_last_zeros [] = []
without_last_zeros (d ∷ ds) = let rest = without_last_zeros ds in if (d == 48) && (length rest == 0) then [] else d ∷ rest

-- a dot and the digits of the nanoseconds, where they aren't zero
abbrev pub fraction_text : ℕ → List ℕ
fraction_text nanos = if nanos == 0 then [] else 46 ∷ without_last_zeros (padded 9 nanos)

-- a month and a day, in two digits each
abbrev pub month_text : ℕ × ℕ → List ℕ
month_text p = padded 2 p.0 ++ (codes "-" ++ padded 2 p.1)

-- the date of a day, which are numbered from the year 0 on
abbrev pub day_text : ℕ → List ℕ
day_text day = let year = year_of last_year day in padded 4 year ++ (codes "-" ++ month_text (month_and_day 1 (month_lengths year) (day - days_before year)))

-- the time of a second of a day
abbrev pub time_text : ℕ → List ℕ
time_text second = padded 2 (second / 3600) ++ (codes ":" ++ (padded 2 (second / 60 % 60) ++ (codes ":" ++ padded 2 (second % 60))))

-- the instant `nanos` nanoseconds after the start of the year 0
abbrev pub instant_text : ℕ → List ℕ
instant_text nanos = day_text (nanos / (86400 * 10 ^ 9)) ++ (codes "T" ++ (time_text (nanos / 10 ^ 9 % 86400) ++ (fraction_text (nanos % 10 ^ 9) ++ codes "Z")))

-- the nanoseconds between the years 0 and 1970
abbrev pub nanos_before_1970 : ℕ
nanos_before_1970 = days_before 1970 * 86400 * 10 ^ 9

-- a date, counted in nanoseconds since 1970
unfoldable pub date_text : ℤ → List ℕ
date_text nanos = instant_text (nat_abs (nanos +ℤ pos nanos_before_1970))
