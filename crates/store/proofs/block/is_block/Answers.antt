-- The bytes are cut into three parts, and each is tested.
use Rattle.std.proofs.Common.{arith, sym, ap, ◌∙◌, ◌++◌}
use Rattle.store.proofs.Blocks.{InParts, block_long, block_other, block_test}
use Rattle.store.proofs.block.is_block.Goals as goal

pub returns-then-bytes-starts_len : goal.returns-then-bytes-starts_len
returns-then-bytes-starts_len c = (λ h. cc, λ h. let few = block_long c.args.bytes.now c.args.count h in absurd (omega arith))

pub returns-then-u32_at-count : goal.returns-then-u32_at-count
returns-then-u32_at-count c =
    let parts : InParts c.args.bytes.now c.split_at.result.0.now c.split_at-2.result.0.now c.split_at-2.result.1.now c.args.count = record {
      whole = c.split_at.ensures.by_index.0 ∙ ap (λ xs. c.split_at.result.0.now ++ xs) c.split_at-2.ensures.by_index.0;
      offsets_long = c.split_at-2.ensures.front_len;
      last_long = omega arith;
    } in
    block_test c.args.bytes.now _ _ _ c.args.count c.are_starts.result (λ i. omega (arith, c.type_inv.bytes i)) parts (sym c.u32_at.ensures ∙ c.if-u32_at-count.true) (sym c.are_starts.ensures)

pub returns-else-u32_at-count : goal.returns-else-u32_at-count
returns-else-u32_at-count c =
    let parts : InParts c.args.bytes.now c.split_at.result.0.now c.split_at-2.result.0.now c.split_at-2.result.1.now c.args.count = record {
      whole = c.split_at.ensures.by_index.0 ∙ ap (λ xs. c.split_at.result.0.now ++ xs) c.split_at-2.ensures.by_index.0;
      offsets_long = c.split_at-2.ensures.front_len;
      last_long = omega arith;
    } in
    block_other c.args.bytes.now _ _ _ c.args.count c.u32_at.result parts (sym c.u32_at.ensures) c.if-u32_at-count.false
