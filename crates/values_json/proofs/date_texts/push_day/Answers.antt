-- The year, the month and the day are those of the definition.
use Rattle.std.proofs.Common.{ap, arith, codes, string_bytes, sym, ◌++◌, ◌-◌, ◌∙◌, ◌≡◌}
use Rattle.std.proofs.lemmas.Result.{on_ok_weaker}
use Rattle.definitions.specs.Dates.{month_text, padded}
use Rattle.values_json.proofs.Calendar.{civil_parts, five_parts, month_and_day_bounds}
use Rattle.values_json.specs.DateParts.{civil_text, month_and_day_in}
use Rattle.values_json.proofs.date_texts.push_day.Goals as goal

pub push_padded-requires-2-clause-fits : goal.push_padded-requires-2-clause-fits
push_padded-requires-2-clause-fits c =
    let bounds = month_and_day_bounds c.year_of-year.result (c.args.day - c.days_before.result) (omega (arith, c.days_before.ensures, c.year_of-year.ensures.ends)) in
    let same = ap (λ p. p.0) c.month_and_day-month.ensures in
    omega (arith, same, bounds.0)

pub push_padded-requires-3-clause-fits : goal.push_padded-requires-3-clause-fits
push_padded-requires-3-clause-fits c =
    let bounds = month_and_day_bounds c.year_of-year.result (c.args.day - c.days_before.result) (omega (arith, c.days_before.ensures, c.year_of-year.ensures.ends)) in
    let same = ap (λ p. p.1) c.month_and_day-month.ensures in
    omega (arith, same, bounds.1)

pub returns : goal.returns
returns c =
    let year = c.year_of-year.result in
    let found = c.month_and_day-month in
    let before = string_bytes c.args.text.now in
    let dash = codes "-" in
    let day_of_year = ap (λ d. month_and_day_in year (c.args.day - d)) c.days_before.ensures in
    let parts : civil_text c.args.day ≡ padded 4 year ++ (dash ++ (padded 2 found.result.0 ++ (dash ++ padded 2 found.result.1))) =
    civil_parts year c.args.day c.year_of-year.ensures.reached c.year_of-year.ensures.begins c.year_of-year.ensures.ends
    ∙ ap (λ p. padded 4 year ++ (dash ++ month_text p)) (sym (found.ensures ∙ day_of_year)) in
    on_ok_weaker c.push_padded-3.result (λ e.
    e
    ∙ ap (λ t. t ++ padded 2 found.result.1) c.in_ok-push_str-2.ensures.bytes
    ∙ ap (λ t. (t ++ dash) ++ padded 2 found.result.1) c.in_ok-push_padded-2.ensures
    ∙ ap (λ t. ((t ++ padded 2 found.result.0) ++ dash) ++ padded 2 found.result.1) c.in_ok-push_str.ensures.bytes
    ∙ ap (λ t. (((t ++ dash) ++ padded 2 found.result.0) ++ dash) ++ padded 2 found.result.1) c.in_ok-push_padded.ensures
    ∙ five_parts before (padded 4 year) dash (padded 2 found.result.0) dash (padded 2 found.result.1)
    ∙ ap (λ t. before ++ t) (sym parts)) c.push_padded-3.ensures
