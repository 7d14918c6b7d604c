-- The block of an iteration's next document is the current one, or is opened.
use Rattle.std.proofs.Common.{Some, ap, arith, ◌∙◌}
use Rattle.std.proofs.lemmas.Result.{err_from_is_err_and}
use Rattle.store.specs.Slots.{Reader}
use Rattle.store.specs.Walking.{stand}
use Rattle.store.specs.Writing.{block_in}
use Rattle.store.proofs.Readers.{Fields, block_is, current_again, found, keeps_more, kept_open, not_found, refused_at, slot_fault, slot_there, tried_at, walked_at}
use Rattle.store.proofs.store_reader.StoreReader.next_slot.Goals as goal

pub returns-in-None-clause-err : goal.returns-in-None-clause-err
returns-in-None-clause-err c =
    let f : Fields c.args.self.now c.self.inside.whole c.self.inside.index c.self.inside.cache (stand c.self.inside.current) = record { is = c.self.view_is; holds = c.self.invariant.0 } in
    let past = not_found c.args.self.now c.self.inside.whole c.self.inside.index c.self.inside.cache c.args.doc f c.in-None.ensures.none in
    absurd (omega (arith, c.requires))

pub returns-in-None-clause-current : goal.returns-in-None-clause-current
returns-in-None-clause-current c =
    let f : Fields c.args.self.now c.self.inside.whole c.self.inside.index c.self.inside.cache (stand c.self.inside.current) = record { is = c.self.view_is; holds = c.self.invariant.0 } in
    let past = not_found c.args.self.now c.self.inside.whole c.self.inside.index c.self.inside.cache c.args.doc f c.in-None.ensures.none in
    absurd (omega (arith, c.requires))

pub returns-in-None-clause-missed : goal.returns-in-None-clause-missed
returns-in-None-clause-missed c =
    let f : Fields c.args.self.now c.self.inside.whole c.self.inside.index c.self.inside.cache (stand c.self.inside.current) = record { is = c.self.view_is; holds = c.self.invariant.0 } in
    let past = not_found c.args.self.now c.self.inside.whole c.self.inside.index c.self.inside.cache c.args.doc f c.in-None.ensures.none in
    absurd (omega (arith, c.requires))

pub open_current-requires-clause-within : goal.open_current-requires-clause-within
open_current-requires-clause-within c =
    let f : Fields c.args.self.now c.self.inside.whole c.self.inside.index c.self.inside.cache (stand c.self.inside.current) = record { is = c.self.view_is; holds = c.self.invariant.0 } in
    let at = found c.args.self.now c.self.inside.whole c.self.inside.index c.self.inside.cache c.args.doc c.in-Some.at c.in-Some.reach.now f c.in-Some.ensures.some in
    at.bytes

pub open_current-requires-clause-docs : goal.open_current-requires-clause-docs
open_current-requires-clause-docs c =
    let f : Fields c.args.self.now c.self.inside.whole c.self.inside.index c.self.inside.cache (stand c.self.inside.current) = record { is = c.self.view_is; holds = c.self.invariant.0 } in
    let at = found c.args.self.now c.self.inside.whole c.self.inside.index c.self.inside.cache c.args.doc c.in-Some.at c.in-Some.reach.now f c.in-Some.ensures.some in
    let start = at.start in
    let end = at.end in
    omega arith

pub open_current-requires-clause-kept : goal.open_current-requires-clause-kept
open_current-requires-clause-kept c =
    let f : Fields c.args.self.now c.self.inside.whole c.self.inside.index c.self.inside.cache (stand c.self.inside.current) = record { is = c.self.view_is; holds = c.self.invariant.0 } in
    kept_open c.args.self.now c.self.inside.whole c.self.inside.index c.self.inside.cache c.in-Some.at c.in-Some.reach.now f c.in-Some.ensures.some.1

pub open_current-requires-clause-current : goal.open_current-requires-clause-current
open_current-requires-clause-current c =
    tried_at c.self.inside.whole c.self.inside.index c.self.inside.current c.in-Some.at c.in-Some.reach.now c.self.invariant.1 c.in-Some.ensures.some.1

pub invariant_of-self : goal.invariant_of-self
invariant_of-self c =
    let f : Fields c.args.self.now c.self.inside.whole c.self.inside.index c.self.inside.cache (stand c.self.inside.current) = record { is = c.self.view_is; holds = c.self.invariant.0 } in
    (keeps_more c.args.self.now c.self.inside.whole c.self.inside.index c.self.inside.cache c.open_current.new.cache c.in-Some.at c.in-Some.reach.now f c.in-Some.ensures.some.1 c.in_err-block-in-Some.ensures.entries c.in_err-block-in-Some.ensures.room, current_again c.self.inside.whole c.self.inside.index c.open_current.new.current c.in-Some.at c.in-Some.reach.now c.in_err-block-in-Some.ensures.tried c.in_err-block-in-Some.ensures.stands c.in-Some.ensures.some.1)

pub returns-in_err-block-in-Some-clause-err : goal.returns-in_err-block-in-Some-clause-err
returns-in_err-block-in-Some-clause-err c =
    let p = err_from_is_err_and c.from_residual.result c.from_residual.ensures.1 in
    let f : Fields c.args.self.now c.self.inside.whole c.self.inside.index c.self.inside.cache (stand c.self.inside.current) = record { is = c.self.view_is; holds = c.self.invariant.0 } in
    let at = found c.args.self.now c.self.inside.whole c.self.inside.index c.self.inside.cache c.args.doc c.in-Some.at c.in-Some.reach.now f c.in-Some.ensures.some in
    rw (p.1, p.2) (slot_fault c.args.self.now c.self.inside.whole c.args.doc c.in-Some.at c.in-Some.reach.now _ at c.in_err-block-in-Some.ensures.err)

pub returns-in_err-block-in-Some-clause-current : goal.returns-in_err-block-in-Some-clause-current
returns-in_err-block-in-Some-clause-current c =
    let f : Fields c.args.self.now c.self.inside.whole c.self.inside.index c.self.inside.cache (stand c.self.inside.current) = record { is = c.self.view_is; holds = c.self.invariant.0 } in
    let at = found c.args.self.now c.self.inside.whole c.self.inside.index c.self.inside.cache c.args.doc c.in-Some.at c.in-Some.reach.now f c.in-Some.ensures.some in
    c.in_err-block-in-Some.ensures.stands ∙ ap Some at.number

pub returns-in_err-block-in-Some-clause-missed : goal.returns-in_err-block-in-Some-clause-missed
returns-in_err-block-in-Some-clause-missed c =
    let f : Fields c.args.self.now c.self.inside.whole c.self.inside.index c.self.inside.cache (stand c.self.inside.current) = record { is = c.self.view_is; holds = c.self.invariant.0 } in
    let at = found c.args.self.now c.self.inside.whole c.self.inside.index c.self.inside.cache c.args.doc c.in-Some.at c.in-Some.reach.now f c.in-Some.ensures.some in
    let p = err_from_is_err_and c.from_residual.result c.from_residual.ensures.1 in
    rw p.1 (refused_at c.in-Some.at _ _ _ _ _ _ c.in_err-block-in-Some.ensures.missed at.number (ap (λ (r : Reader). r.current) c.self.view_is) (ap (λ (r : Reader). r.kept) c.self.view_is))

pub slot_of-requires-clause-block : goal.slot_of-requires-clause-block
slot_of-requires-clause-block c =
    block_is (block_in c.self.inside.whole c.in-Some.reach.now) c.in_ok-block-in-Some.block c.in_ok-block-in-Some.ensures.ok

pub slot_of-requires-clause-doc : goal.slot_of-requires-clause-doc
slot_of-requires-clause-doc c =
    let f : Fields c.args.self.now c.self.inside.whole c.self.inside.index c.self.inside.cache (stand c.self.inside.current) = record { is = c.self.view_is; holds = c.self.invariant.0 } in
    let at = found c.args.self.now c.self.inside.whole c.self.inside.index c.self.inside.cache c.args.doc c.in-Some.at c.in-Some.reach.now f c.in-Some.ensures.some in
    (at.start, at.end)

pub invariant_of-self-in-Some : goal.invariant_of-self-in-Some
invariant_of-self-in-Some c =
    let f : Fields c.args.self.now c.self.inside.whole c.self.inside.index c.self.inside.cache (stand c.self.inside.current) = record { is = c.self.view_is; holds = c.self.invariant.0 } in
    (keeps_more c.args.self.now c.self.inside.whole c.self.inside.index c.self.inside.cache c.open_current.new.cache c.in-Some.at c.in-Some.reach.now f c.in-Some.ensures.some.1 c.in_ok-block-in-Some.ensures.entries c.in_ok-block-in-Some.ensures.room, current_again c.self.inside.whole c.self.inside.index c.open_current.new.current c.in-Some.at c.in-Some.reach.now c.in_ok-block-in-Some.ensures.tried c.in_ok-block-in-Some.ensures.stands c.in-Some.ensures.some.1)

pub returns-in_ok-block-in-Some-clause-ok : goal.returns-in_ok-block-in-Some-clause-ok
returns-in_ok-block-in-Some-clause-ok c =
    let f : Fields c.args.self.now c.self.inside.whole c.self.inside.index c.self.inside.cache (stand c.self.inside.current) = record { is = c.self.view_is; holds = c.self.invariant.0 } in
    let at = found c.args.self.now c.self.inside.whole c.self.inside.index c.self.inside.cache c.args.doc c.in-Some.at c.in-Some.reach.now f c.in-Some.ensures.some in
    slot_there c.args.self.now c.self.inside.whole c.args.doc c.in-Some.at c.in-Some.reach.now c.in_ok-block-in-Some.block c.slot_of.result at c.in_ok-block-in-Some.ensures.ok c.slot_of.ensures

pub returns-in_ok-block-in-Some-clause-current : goal.returns-in_ok-block-in-Some-clause-current
returns-in_ok-block-in-Some-clause-current c =
    let f : Fields c.args.self.now c.self.inside.whole c.self.inside.index c.self.inside.cache (stand c.self.inside.current) = record { is = c.self.view_is; holds = c.self.invariant.0 } in
    let at = found c.args.self.now c.self.inside.whole c.self.inside.index c.self.inside.cache c.args.doc c.in-Some.at c.in-Some.reach.now f c.in-Some.ensures.some in
    c.in_ok-block-in-Some.ensures.stands ∙ ap Some at.number

pub returns-in_ok-block-in-Some-clause-kept : goal.returns-in_ok-block-in-Some-clause-kept
returns-in_ok-block-in-Some-clause-kept c =
    let f : Fields c.args.self.now c.self.inside.whole c.self.inside.index c.self.inside.cache (stand c.self.inside.current) = record { is = c.self.view_is; holds = c.self.invariant.0 } in
    let at = found c.args.self.now c.self.inside.whole c.self.inside.index c.self.inside.cache c.args.doc c.in-Some.at c.in-Some.reach.now f c.in-Some.ensures.some in
    walked_at c.in-Some.at _ _ _ _ _ _ c.in_ok-block-in-Some.ensures.kept at.number (ap (λ (r : Reader). r.current) c.self.view_is) (ap (λ (r : Reader). r.kept) c.self.view_is)
