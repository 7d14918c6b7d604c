-- The width is the length of all bits together.
use Rattle.std.proofs.Common.{ℕ, List, length, ◌≡◌, ◌≤◌, arith, subst}
use Rattle.codes.proofs.LeastWidths.{Joins, length_holds, length_least, no_numbers, one_more}
use Rattle.codes.proofs.bit_packer.width_of.Goals as goal

pub loop-n-init : goal.loop-n-init
loop-n-init c = no_numbers c.args.numbers.now

pub loop-n-preserved : goal.loop-n-preserved
loop-n-preserved c = one_more c.args.numbers.now c.loop-n.n-index c.loop-n.all c.loop-n.invariant

-- after the last number
whole : (numbers : List ℕ) (count all : ℕ) → Joins numbers count all → count ≤ length numbers → length numbers ≤ count → Joins numbers (length numbers) all
whole numbers count all joins few end = (let P : ℕ → Type 0 = λ k. Joins numbers k all in let same : count ≡ length numbers = omega arith in subst P same joins)

pub returns-clause-holds : goal.returns-clause-holds
returns-clause-holds c = length_holds c.args.numbers.now c.loop-n.all c.loop-n.auto.all-fits.fits (whole c.args.numbers.now c.loop-n.n-index c.loop-n.all c.loop-n.invariant c.loop-n.auto.n-index-end c.loop-n-test.false)

pub returns-clause-least : goal.returns-clause-least
returns-clause-least c = length_least c.args.numbers.now c.loop-n.all c.loop-n.auto.all-fits.fits (whole c.args.numbers.now c.loop-n.n-index c.loop-n.all c.loop-n.invariant c.loop-n.auto.n-index-end c.loop-n-test.false)
