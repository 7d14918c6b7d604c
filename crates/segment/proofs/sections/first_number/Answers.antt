use Rattle.std.proofs.Common.{arith}
use Rattle.segment.proofs.sections.first_number.Goals as goal

pub returns-clause-ok : goal.returns-clause-ok
returns-clause-ok c =
    let some = c.if-num_docs-eq0.false in
    let few = c.if-num_docs-gt-TERMINATED.false in
    (c.in_ok-num_docs.field-0-1.now, c.in_ok-num_docs.ensures.ok, omega (arith, some), omega (arith, few))

pub returns-clause-bytes : goal.returns-clause-bytes
returns-clause-bytes c = λ i. (let f = (c.type_inv.bytes i).fits in omega (arith, f))
