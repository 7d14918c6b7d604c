use Rattle.std.proofs.Common.{ap, arith, flat_map, length, ◌++◌, ◌+◌, ◌<◌, ◌∙◌}
use Rattle.definitions.specs.NumberCodes.{u32_bytes}
use Rattle.store.proofs.Stacked.{shut_some}
use Rattle.store.proofs.Writes.{pending_long}
use Rattle.store.proofs.writer_fields.Parts.put_pending.Goals as goal

pub put_block_end-requires : goal.put_block_end-requires
put_block_end-requires c = (let few = c.requires.3 in let many = (pending_long c.requires.2).1 in omega (arith, ap length c.deref.ensures.value))

pub overflow_cast-reach : goal.overflow_cast-reach
overflow_cast-reach c = (let few = c.requires.3 in let many = (pending_long c.requires.2).1 in omega arith)

pub overflow_add-reach : goal.overflow_add-reach
overflow_add-reach c = (let few = c.requires.3 in let first = c.requires.2.doc in let many = (pending_long c.requires.2).1 in omega arith)

pub returns-clause-ok : goal.returns-clause-ok
returns-clause-ok c = λ bs ds st.
    let some : 0 < length c.args.self.now.starts.items = omega (arith, c.args.self.now.starts.ok.0) in
    shut_some c.args.self.now _ bs ds (c.args.self.now.first_doc + c.len-2.result) c.len-3.result st some
    (c.in_ok-put_block_end.ensures.ok ∙ ap (λ ss. c.args.self.now.out.items ++ (flat_map u32_bytes ss ++ u32_bytes (length ss))) c.deref.ensures.value)
    (omega (arith, c.args.self.now.starts.ok.0))
    (omega (arith, c.put_block_end.new.out.ok.0))
    c.in_ok-push.ensures.items
