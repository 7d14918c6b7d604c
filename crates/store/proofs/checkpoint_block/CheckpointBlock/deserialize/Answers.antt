use Rattle.std.proofs.Common.{arith}
use Rattle.store.proofs.TakenGroups.{group_read, group_unread}
use Rattle.store.proofs.checkpoint_block.CheckpointBlock.deserialize.Goals as goal

pub returns-in-Ok-clause-ok : goal.returns-in-Ok-clause-ok
returns-in-Ok-clause-ok c = group_read c.args.bytes.now c.take_group.new.out.items c.clear.new.self.items c.in-Ok.rest.now (λ i. omega (arith, c.type_inv.bytes i)) c.clear.ensures.items c.in-Ok.ensures.ok

pub returns-in-Err-clause-err : goal.returns-in-Err-clause-err
returns-in-Err-clause-err c = group_unread c.args.bytes.now c.in-Err.fault c.in-Err.ensures.err
