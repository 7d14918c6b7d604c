-- A document's block is found, opened, and cut down to the document.
use Rattle.std.proofs.Common.{arith, inl, inr, refl}
use Rattle.std.proofs.lemmas.Result.{err_from_is_err_and}
use Rattle.store.specs.Caches.{looked_up, opened}
use Rattle.store.specs.Walking.{stand}
use Rattle.store.specs.Writing.{block_in}
use Rattle.store.proofs.Readers.{Fields, block_is, fault_is, found, kept_at, kept_open, keeps_more, not_found, slot_fault, slot_is, slot_there}
use Rattle.store.proofs.store_reader.StoreReader.get_document_bytes.Goals as goal

pub returns-in_default-clause-err : goal.returns-in_default-clause-err
returns-in_default-clause-err c =
    let f : Fields c.args.self.now c.self.inside.whole c.self.inside.index c.self.inside.cache (stand c.self.inside.current) = record { is = c.self.view_is; holds = c.self.invariant.0 } in
    inr (inl (refl, not_found c.args.self.now c.self.inside.whole c.self.inside.index c.self.inside.cache c.args.doc f c.in_default.ensures.none))

pub returns-in_default-clause-refused : goal.returns-in_default-clause-refused
returns-in_default-clause-refused c = λ slots hold. fault_is c.args.self.now.blocks slots c.args.doc _ hold (returns-in_default-clause-err c)

pub returns-in_default-clause-missed : goal.returns-in_default-clause-missed
returns-in_default-clause-missed c = λ few.
    let f : Fields c.args.self.now c.self.inside.whole c.self.inside.index c.self.inside.cache (stand c.self.inside.current) = record { is = c.self.view_is; holds = c.self.invariant.0 } in
    let past = not_found c.args.self.now c.self.inside.whole c.self.inside.index c.self.inside.cache c.args.doc f c.in_default.ensures.none in
    absurd (omega arith)

pub open-requires-clause-within : goal.open-requires-clause-within
open-requires-clause-within c =
    let f : Fields c.args.self.now c.self.inside.whole c.self.inside.index c.self.inside.cache (stand c.self.inside.current) = record { is = c.self.view_is; holds = c.self.invariant.0 } in
    (found c.args.self.now c.self.inside.whole c.self.inside.index c.self.inside.cache c.args.doc c.in-Some.at c.in-Some.reach.now f c.in-Some.ensures.some).bytes

pub open-requires-clause-docs : goal.open-requires-clause-docs
open-requires-clause-docs c =
    let f : Fields c.args.self.now c.self.inside.whole c.self.inside.index c.self.inside.cache (stand c.self.inside.current) = record { is = c.self.view_is; holds = c.self.invariant.0 } in
    let at = found c.args.self.now c.self.inside.whole c.self.inside.index c.self.inside.cache c.args.doc c.in-Some.at c.in-Some.reach.now f c.in-Some.ensures.some in
    let start = at.start in
    let end = at.end in
    omega arith

pub open-requires-clause-kept : goal.open-requires-clause-kept
open-requires-clause-kept c =
    let f : Fields c.args.self.now c.self.inside.whole c.self.inside.index c.self.inside.cache (stand c.self.inside.current) = record { is = c.self.view_is; holds = c.self.invariant.0 } in
    kept_open c.args.self.now c.self.inside.whole c.self.inside.index c.self.inside.cache c.in-Some.at c.in-Some.reach.now f c.in-Some.ensures.some.1

pub returns-in_err-block-clause-err : goal.returns-in_err-block-clause-err
returns-in_err-block-clause-err c =
    let p = err_from_is_err_and c.from_residual.result c.from_residual.ensures.1 in
    let f : Fields c.args.self.now c.self.inside.whole c.self.inside.index c.self.inside.cache (stand c.self.inside.current) = record { is = c.self.view_is; holds = c.self.invariant.0 } in
    let at = found c.args.self.now c.self.inside.whole c.self.inside.index c.self.inside.cache c.args.doc c.in-Some.at c.in-Some.reach.now f c.in-Some.ensures.some in
    rw (p.1, p.2) (slot_fault c.args.self.now c.self.inside.whole c.args.doc c.in-Some.at c.in-Some.reach.now _ at c.in_err-block.ensures.err)

pub returns-in_err-block-clause-refused : goal.returns-in_err-block-clause-refused
returns-in_err-block-clause-refused c = λ slots hold.
    let p = err_from_is_err_and c.from_residual.result c.from_residual.ensures.1 in
    let f : Fields c.args.self.now c.self.inside.whole c.self.inside.index c.self.inside.cache (stand c.self.inside.current) = record { is = c.self.view_is; holds = c.self.invariant.0 } in
    let at = found c.args.self.now c.self.inside.whole c.self.inside.index c.self.inside.cache c.args.doc c.in-Some.at c.in-Some.reach.now f c.in-Some.ensures.some in
    rw (p.1, p.2) (fault_is c.args.self.now.blocks slots c.args.doc _ hold (slot_fault c.args.self.now c.self.inside.whole c.args.doc c.in-Some.at c.in-Some.reach.now _ at c.in_err-block.ensures.err))

pub returns-in_err-block-clause-missed : goal.returns-in_err-block-clause-missed
returns-in_err-block-clause-missed c = λ few.
    let p = err_from_is_err_and c.from_residual.result c.from_residual.ensures.1 in
    let f : Fields c.args.self.now c.self.inside.whole c.self.inside.index c.self.inside.cache (stand c.self.inside.current) = record { is = c.self.view_is; holds = c.self.invariant.0 } in
    let at = found c.args.self.now c.self.inside.whole c.self.inside.index c.self.inside.cache c.args.doc c.in-Some.at c.in-Some.reach.now f c.in-Some.ensures.some in
    rw p.1 (kept_at c.args.self.now c.self.inside.whole c.self.inside.index c.self.inside.cache c.args.doc c.in-Some.at c.in-Some.reach.now _ looked_up f at c.in_err-block.ensures.missed)

pub returns-in_err-block-clause-past : goal.returns-in_err-block-clause-past
returns-in_err-block-clause-past c = λ past.
    let f : Fields c.args.self.now c.self.inside.whole c.self.inside.index c.self.inside.cache (stand c.self.inside.current) = record { is = c.self.view_is; holds = c.self.invariant.0 } in
    let few = (found c.args.self.now c.self.inside.whole c.self.inside.index c.self.inside.cache c.args.doc c.in-Some.at c.in-Some.reach.now f c.in-Some.ensures.some).few in
    absurd (omega arith)

pub invariant_of-self-2 : goal.invariant_of-self-2
invariant_of-self-2 c =
    let f : Fields c.args.self.now c.self.inside.whole c.self.inside.index c.self.inside.cache (stand c.self.inside.current) = record { is = c.self.view_is; holds = c.self.invariant.0 } in
    (keeps_more c.args.self.now c.self.inside.whole c.self.inside.index c.self.inside.cache c.open.new.self c.in-Some.at c.in-Some.reach.now f c.in-Some.ensures.some.1 c.in_ok-block.ensures.entries c.in_ok-block.ensures.room, c.self.invariant.1)

pub returns-clause-kept : goal.returns-clause-kept
returns-clause-kept c =
    let f : Fields c.args.self.now c.self.inside.whole c.self.inside.index c.self.inside.cache (stand c.self.inside.current) = record { is = c.self.view_is; holds = c.self.invariant.0 } in
    let at = found c.args.self.now c.self.inside.whole c.self.inside.index c.self.inside.cache c.args.doc c.in-Some.at c.in-Some.reach.now f c.in-Some.ensures.some in
    kept_at c.args.self.now c.self.inside.whole c.self.inside.index c.self.inside.cache c.args.doc c.in-Some.at c.in-Some.reach.now _ (λ n k. opened n (looked_up n k)) f at c.in_ok-block.ensures.kept

pub returns-clause-past : goal.returns-clause-past
returns-clause-past c = λ past.
    let f : Fields c.args.self.now c.self.inside.whole c.self.inside.index c.self.inside.cache (stand c.self.inside.current) = record { is = c.self.view_is; holds = c.self.invariant.0 } in
    let few = (found c.args.self.now c.self.inside.whole c.self.inside.index c.self.inside.cache c.args.doc c.in-Some.at c.in-Some.reach.now f c.in-Some.ensures.some).few in
    absurd (omega arith)

pub slot_of-requires-clause-block : goal.slot_of-requires-clause-block
slot_of-requires-clause-block c = block_is (block_in c.self.inside.whole c.in-Some.reach.now) c.in_ok-block.block c.in_ok-block.ensures.ok

pub slot_of-requires-clause-doc : goal.slot_of-requires-clause-doc
slot_of-requires-clause-doc c =
    let f : Fields c.args.self.now c.self.inside.whole c.self.inside.index c.self.inside.cache (stand c.self.inside.current) = record { is = c.self.view_is; holds = c.self.invariant.0 } in
    let at = found c.args.self.now c.self.inside.whole c.self.inside.index c.self.inside.cache c.args.doc c.in-Some.at c.in-Some.reach.now f c.in-Some.ensures.some in
    (at.start, at.end)

pub returns-clause-ok : goal.returns-clause-ok
returns-clause-ok c =
    let f : Fields c.args.self.now c.self.inside.whole c.self.inside.index c.self.inside.cache (stand c.self.inside.current) = record { is = c.self.view_is; holds = c.self.invariant.0 } in
    let at = found c.args.self.now c.self.inside.whole c.self.inside.index c.self.inside.cache c.args.doc c.in-Some.at c.in-Some.reach.now f c.in-Some.ensures.some in
    slot_there c.args.self.now c.self.inside.whole c.args.doc c.in-Some.at c.in-Some.reach.now c.in_ok-block.block c.slot_of.result at c.in_ok-block.ensures.ok c.slot_of.ensures

pub returns-clause-slot : goal.returns-clause-slot
returns-clause-slot c = λ slots hold. slot_is c.args.self.now.blocks slots c.args.doc c.slot_of.result hold (returns-clause-ok c)
