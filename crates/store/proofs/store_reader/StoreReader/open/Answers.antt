use Rattle.std.proofs.Common.{subst}
use Rattle.store.specs.Slots.{IsFile}
use Rattle.store.specs.Writing.{blocks_in}
use Rattle.store.proofs.Opened.{holds_same, is_store}
use Rattle.store.proofs.store_reader.StoreReader.open.Goals as goal

pub returns-clause-ok : goal.returns-clause-ok
returns-clause-ok c = is_store c.args.file c.truncate.new.self c.in_ok-at.index c.in_ok-at.at (subst (IsFile c.in_ok-at.at c.in_ok-at.index) c.as_slice.ensures c.in_ok-at.ensures.ok) c.truncate.ensures

pub returns-clause-slots : goal.returns-clause-slots
returns-clause-slots c = λ slots is.
    let whole : IsFile c.in_ok-at.at c.in_ok-at.index c.args.file = subst (IsFile c.in_ok-at.at c.in_ok-at.index) c.as_slice.ensures c.in_ok-at.ensures.ok in
    let made = is_store c.args.file c.truncate.new.self c.in_ok-at.index c.in_ok-at.at whole c.truncate.ensures in
    holds_same c.args.file (blocks_in c.truncate.new.self c.in_ok-at.index) slots made.0 made.1 whole.fits is
