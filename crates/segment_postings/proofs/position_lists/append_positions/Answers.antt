use Rattle.std.proofs.Common.{ap, arith, drop, length-append, length-drop, length-take, rules, sum, sym, take, ◌++◌, ◌+◌, ◌≡◌, ◌∙◌}
use Rattle.std.proofs.lemmas.Result.{on_err_weaker, on_ok_weaker}
use Rattle.segment_postings.proofs.PositionLists.{as_many, put_moved, sums_fit}
use Rattle.codes.specs.PositionPlaces.{places}
use Rattle.codes.specs.UnpackedBlocks.{listed}
use Rattle.segment_postings.proofs.position_lists.append_positions.Goals.{In-Some}
use Rattle.segment_postings.proofs.position_lists.append_positions.Goals as goal

numbers_are : (c : In-Some) → listed c.args.positions.now ≡ c.in-Some.reader
numbers_are c = ap listed c.in-Some.is

pub append_places-requires-clause-fits : goal.append_places-requires-clause-fits
append_places-requires-clause-fits c =
    let same = ap (λ ns. drop c.args.begin ns) (numbers_are (goal.at.append_places-requires-clause-fits c).In-Some) in
    let fits = sums_fit c.args.offset (take c.args.count (drop c.args.begin (listed c.args.positions.now))) (omega arith) c.requires.fits in
    let total = ap (λ ns. c.args.offset + sum (take c.args.count ns)) same in
    omega (arith, fits, total)

pub returns-in-Some-clause-ok : goal.returns-in-Some-clause-ok
returns-in-Some-clause-ok c = on_ok_weaker c.append_places.result (λ put. put_moved c.args.offset (take c.args.count (drop c.args.begin (listed c.args.positions.now))) c.args.output.now.items c.append_places.new.output.items (put ∙ ap (λ ns. c.args.output.now.items ++ places c.args.offset (take c.args.count (drop c.args.begin ns))) (sym (numbers_are (goal.at.returns-in-Some-clause-ok c).In-Some)))) c.append_places.ensures.ok

pub returns-in-Some-clause-full : goal.returns-in-Some-clause-full
returns-in-Some-clause-full c =
    let ns = listed c.args.positions.now in
    let long = as_many c.args.offset (take c.args.count (drop c.args.begin ns)) c.args.output.now.items in
    let room = c.requires.room (search rules) in
    let added = length-append c.args.output.now.items (take c.args.count (drop c.args.begin ns)) in
    let most = length-take c.args.count (drop c.args.begin ns) in
    let left = length-drop c.args.begin ns in
    on_err_weaker c.append_places.result (λ full. omega (arith, full, long, room, added, most, left)) c.append_places.ensures.full
