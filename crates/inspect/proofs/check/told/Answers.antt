use Rattle.std.proofs.Common.{IfNone, IfSome, Some, subst, sym, ◌∙◌, ◌≡◌, ℕ}
use Rattle.std.specs.Prelude.{slice_get}
use Rattle.inspect.proofs.Damages.{told_document}
use Rattle.inspect.proofs.Origins.{new_somewhere}
use Rattle.inspect.specs.Documents.{IsNewIn}
use Rattle.inspect.specs.declared.records.Record.{Record}
use Rattle.inspect.proofs.check.told.Goals as goal

pub unreachable-requires : goal.unreachable-requires
unreachable-requires c =
    let (bytes, file, are, told) = c.requires in
    let none = subst (λ o. IfNone o ((n : ℕ) (r : Record) → slice_get c.args.records.now n ≡ Some r → ¬ IsNewIn r.body.now c.as_slice.result.now)) c.in_default.is c.in_ok-number.ensures.none in
    new_somewhere bytes file c.args.records.now c.args.document.number told.member are told.stands (λ n r at is. none n r at (subst (IsNewIn r.body.now) (sym (c.as_slice.ensures ∙ told.bytes_are)) is))

pub returns : goal.returns
returns c = λ bytes file are told.
    let (listed, stands, offset, brings) = subst (λ o. IfSome o (λ p. (r : Record) × (slice_get c.args.records.now p.0 ≡ Some r) × (p.1 ≡ r.gate) × IsNewIn r.body.now c.as_slice.result.now)) c.in-Some.is c.in_ok-number.ensures.some in
    told_document bytes file c.args.records.now c.args.document c.in-Some.number c.in-Some.gate listed are told stands offset (subst (IsNewIn listed.body.now) c.as_slice.ensures brings)
