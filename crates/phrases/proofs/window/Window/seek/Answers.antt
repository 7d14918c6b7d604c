use Rattle.std.proofs.Common.{ap, arith, drop, get_or, length, ◌≡◌}
use Rattle.docsets.specs.Entries.{from}
use Rattle.phrases.specs.Rows.{docs_of, row_entries}
use Rattle.phrases.specs.Windows.{left_in}
use Rattle.phrases.proofs.WindowLaws.{left-sought}
use Rattle.phrases.proofs.window.Window.seek.Goals as goal
use Rattle.phrases.proofs.window.Window.seek.Goals.{After-first_row-self}

sought : (c : After-first_row-self) → row_entries c.args.self.now.places.items (drop c.first_row-self.result c.args.self.now.rows.items) ≡ from c.args.target (left_in c.args.self.now)
sought c =
    let w = c.args.self.now in
    let f = c.first_row-self.ensures in
    let value = c.deref.ensures.value in
    let long = ap length value in
    let to = f.to in
    left-sought w.places.items 0 c.args.target w.rows.items w.row c.first_row-self.result c.requires.rises f.from (omega (arith, to, long))
    (λ k b l. (let passed = f.passed k b l in let same = ap (λ rows. get_or (docs_of rows) k 0) value in omega (arith, passed, same)))
    (λ l. (let found = f.found (omega (arith, l, long)) in let same = ap (λ rows. get_or (docs_of rows) c.first_row-self.result 0) value in omega (arith, found, same)))

pub returns-then-self-len-clause-left : goal.returns-then-self-len-clause-left
returns-then-self-len-clause-left c = sought (goal.at.returns-then-self-len-clause-left c).After-first_row-self

pub returns-else-self-len-clause-left : goal.returns-else-self-len-clause-left
returns-else-self-len-clause-left c = sought (goal.at.returns-else-self-len-clause-left c).After-first_row-self
