-- A document stands from its start to the next one's, the last to the end of all.
use Rattle.std.proofs.Common.{arith}
use Rattle.store.proofs.Blocks.{block_long, slot_else, slot_then}
use Rattle.store.proofs.block.slot_range.Goals as goal

pub overflow_sub-starts-2 : goal.overflow_sub-starts-2
overflow_sub-starts-2 c = (let long = block_long c.args.block.now c.args.count c.requires.block in omega arith)

pub u32_at-start-requires : goal.u32_at-start-requires
u32_at-start-requires c = (let long = block_long c.args.block.now c.args.count c.requires.block in omega arith)

pub u32_at-requires : goal.u32_at-requires
u32_at-requires c = (let long = block_long c.args.block.now c.args.count c.requires.block in omega arith)

pub returns-then-at-count-clause-within : goal.returns-then-at-count-clause-within
returns-then-at-count-clause-within c = (let h = c.requires.block in let at = slot_then h.0 _ _ _ _ _ h.1 h.2 c.if-at-count.true c.u32_at-start.ensures c.u32_at.ensures in (at.order, at.inside))

pub returns-then-at-count-clause-slot : goal.returns-then-at-count-clause-slot
returns-then-at-count-clause-slot c = λ docs many block. (slot_then docs _ _ _ _ _ many block c.if-at-count.true c.u32_at-start.ensures c.u32_at.ensures).slot

pub returns-else-at-count-clause-within : goal.returns-else-at-count-clause-within
returns-else-at-count-clause-within c = (let h = c.requires.block in let at = slot_else h.0 _ _ _ _ h.1 h.2 c.requires.at c.if-at-count.false c.u32_at-start.ensures in (at.order, at.inside))

pub returns-else-at-count-clause-slot : goal.returns-else-at-count-clause-slot
returns-else-at-count-clause-slot c = λ docs many block. (slot_else docs _ _ _ _ many block c.requires.at c.if-at-count.false c.u32_at-start.ensures).slot
