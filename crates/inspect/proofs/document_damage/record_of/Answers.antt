use Rattle.std.proofs.Common.{[], Some, arith, get_or, refl, subst, ◌≡◌}
use Rattle.std.proofs.lemmas.Option.{get_or_from_slice_get, slice_get-get_or, slice_get_within}
use Rattle.std.specs.Prelude.{slice_get}
use Rattle.inspect.proofs.Mapped.{one_more}
use Rattle.inspect.specs.Documents.{IsNewIn}
use Rattle.inspect.specs.declared.records.Record.{Record}
use Rattle.inspect.proofs.document_damage.record_of.Goals as goal

-- what stands past the end
abbrev past : Record
past = record { gate = 0; body = record { ref_ptr = (0, 0); now = [] } }

pub returns-then-found-clause-some : goal.returns-then-found-clause-some
returns-then-found-clause-some c =
    let i = c.loop-number.number in
    (get_or c.args.records.now i past, slice_get-get_or c.args.records.now i past c.loop-number-test.true, refl, c.in_ok-found.ensures.yes c.if-found.true)

pub loop-number-preserved : goal.loop-number-preserved
loop-number-preserved c =
    let i = c.loop-number.number in
    one_more (λ k. (listed : Record) → slice_get c.args.records.now k ≡ Some listed → ¬ IsNewIn listed.body.now c.args.segment.now) i c.loop-number.invariant
    (λ listed at. subst (λ (r : Record). ¬ IsNewIn r.body.now c.args.segment.now) (get_or_from_slice_get c.args.records.now i listed past at) (c.in_ok-found.ensures.no c.if-found.false))

pub returns-clause-none : goal.returns-clause-none
returns-clause-none c = λ number listed at.
    let within = slice_get_within c.args.records.now number listed at in
    c.loop-number.invariant number (omega (arith, within, c.loop-number-test.false)) listed at
