use Rattle.std.proofs.Common.{◌≡◌, arith, get_or, inl, inr, length}
use Rattle.std.proofs.lemmas.Bool.{cases_lt}
use Rattle.std.proofs.lemmas.List.{get_or_past}
use Rattle.common.proofs.memory_device.record_call.Goals as goal

pub returns-clause-fits : goal.returns-clause-fits
returns-clause-fits c i =
    let items = c.match-call-2.bytes.items in
    elim (cases_lt i (length items)) [
      | inl below ↦ let fits = c.type_inv.bytes i 0 below in omega (arith, fits)
      | inr past ↦ let none : get_or items i 0 ≡ 0 = get_or_past items i 0 past in omega (arith, none)
    ]
