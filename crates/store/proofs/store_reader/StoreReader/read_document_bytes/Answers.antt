-- A document's block is found, checked, and cut down to the document.
use Rattle.std.proofs.Common.{arith, inl, inr, refl}
use Rattle.std.proofs.lemmas.Result.{err_from_is_err_and}
use Rattle.store.specs.Walking.{stand}
use Rattle.store.specs.Writing.{block_in}
use Rattle.store.proofs.Readers.{Fields, block_is, fault_is, found, not_found, slot_fault, slot_is, slot_there}
use Rattle.store.proofs.store_reader.StoreReader.read_document_bytes.Goals as goal

pub returns-in_default-clause-err : goal.returns-in_default-clause-err
returns-in_default-clause-err c =
    let f : Fields c.args.self.now c.self.inside.whole c.self.inside.index c.self.inside.cache (stand c.self.inside.current) = record { is = c.self.view_is; holds = c.self.invariant.0 } in
    inr (inl (refl, not_found c.args.self.now c.self.inside.whole c.self.inside.index c.self.inside.cache c.args.doc f c.in_default.ensures.none))

pub returns-in_default-clause-refused : goal.returns-in_default-clause-refused
returns-in_default-clause-refused c = λ slots hold. fault_is c.args.self.now.blocks slots c.args.doc _ hold (returns-in_default-clause-err c)

pub open_block-requires-clause-within : goal.open_block-requires-clause-within
open_block-requires-clause-within c =
    let f : Fields c.args.self.now c.self.inside.whole c.self.inside.index c.self.inside.cache (stand c.self.inside.current) = record { is = c.self.view_is; holds = c.self.invariant.0 } in
    (found c.args.self.now c.self.inside.whole c.self.inside.index c.self.inside.cache c.args.doc c.in-Some.field-0-0 c.in-Some.reach.now f c.in-Some.ensures.some).bytes

pub open_block-requires-clause-docs : goal.open_block-requires-clause-docs
open_block-requires-clause-docs c =
    let f : Fields c.args.self.now c.self.inside.whole c.self.inside.index c.self.inside.cache (stand c.self.inside.current) = record { is = c.self.view_is; holds = c.self.invariant.0 } in
    let at = found c.args.self.now c.self.inside.whole c.self.inside.index c.self.inside.cache c.args.doc c.in-Some.field-0-0 c.in-Some.reach.now f c.in-Some.ensures.some in
    let start = at.start in
    let end = at.end in
    omega arith

pub returns-in_err-block-clause-err : goal.returns-in_err-block-clause-err
returns-in_err-block-clause-err c =
    let p = err_from_is_err_and c.from_residual.result c.from_residual.ensures.1 in
    let f : Fields c.args.self.now c.self.inside.whole c.self.inside.index c.self.inside.cache (stand c.self.inside.current) = record { is = c.self.view_is; holds = c.self.invariant.0 } in
    let at = found c.args.self.now c.self.inside.whole c.self.inside.index c.self.inside.cache c.args.doc c.in-Some.field-0-0 c.in-Some.reach.now f c.in-Some.ensures.some in
    rw (p.1, p.2) (slot_fault c.args.self.now c.self.inside.whole c.args.doc c.in-Some.field-0-0 c.in-Some.reach.now _ at c.in_err-block.ensures.err)

pub returns-in_err-block-clause-refused : goal.returns-in_err-block-clause-refused
returns-in_err-block-clause-refused c = λ slots hold.
    let p = err_from_is_err_and c.from_residual.result c.from_residual.ensures.1 in
    let f : Fields c.args.self.now c.self.inside.whole c.self.inside.index c.self.inside.cache (stand c.self.inside.current) = record { is = c.self.view_is; holds = c.self.invariant.0 } in
    let at = found c.args.self.now c.self.inside.whole c.self.inside.index c.self.inside.cache c.args.doc c.in-Some.field-0-0 c.in-Some.reach.now f c.in-Some.ensures.some in
    rw (p.1, p.2) (fault_is c.args.self.now.blocks slots c.args.doc _ hold (slot_fault c.args.self.now c.self.inside.whole c.args.doc c.in-Some.field-0-0 c.in-Some.reach.now _ at c.in_err-block.ensures.err))

pub slot_of-requires-clause-block : goal.slot_of-requires-clause-block
slot_of-requires-clause-block c = block_is (block_in c.self.inside.whole c.in-Some.reach.now) c.in_ok-block.block c.in_ok-block.ensures.ok

pub slot_of-requires-clause-doc : goal.slot_of-requires-clause-doc
slot_of-requires-clause-doc c =
    let f : Fields c.args.self.now c.self.inside.whole c.self.inside.index c.self.inside.cache (stand c.self.inside.current) = record { is = c.self.view_is; holds = c.self.invariant.0 } in
    let at = found c.args.self.now c.self.inside.whole c.self.inside.index c.self.inside.cache c.args.doc c.in-Some.field-0-0 c.in-Some.reach.now f c.in-Some.ensures.some in
    (at.start, at.end)

pub returns-clause-ok : goal.returns-clause-ok
returns-clause-ok c =
    let f : Fields c.args.self.now c.self.inside.whole c.self.inside.index c.self.inside.cache (stand c.self.inside.current) = record { is = c.self.view_is; holds = c.self.invariant.0 } in
    let at = found c.args.self.now c.self.inside.whole c.self.inside.index c.self.inside.cache c.args.doc c.in-Some.field-0-0 c.in-Some.reach.now f c.in-Some.ensures.some in
    slot_there c.args.self.now c.self.inside.whole c.args.doc c.in-Some.field-0-0 c.in-Some.reach.now c.in_ok-block.block c.slot_of.result at c.in_ok-block.ensures.ok c.slot_of.ensures

pub returns-clause-slot : goal.returns-clause-slot
returns-clause-slot c = λ slots hold. slot_is c.args.self.now.blocks slots c.args.doc c.slot_of.result hold (returns-clause-ok c)
