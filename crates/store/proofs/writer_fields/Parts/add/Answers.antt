use Rattle.std.proofs.Common.{arith, refl}
use Rattle.store.proofs.Writes.{stands_pushed}
use Rattle.store.proofs.writer_fields.Parts.add.Goals as goal

pub returns-clause-ok : goal.returns-clause-ok
returns-clause-ok c = λ bs ds st. stands_pushed c.args.doc.now _ st c.in_ok-extend_from_slice.ensures.items refl c.in_ok-push.ensures.items c.in_ok-reserve.ensures.items (omega (arith, c.args.self.now.out.ok.0))
