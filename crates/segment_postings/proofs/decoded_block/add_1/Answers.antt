use Rattle.std.proofs.Common.{arith, refl, ◌∙◌}
use Rattle.std.proofs.lemmas.List.{length-set}
use Rattle.segment_postings.proofs.BlockLists.{put_more_1, room_for_1}
use Rattle.segment_postings.proofs.decoded_block.add_1.Goals as goal

pub overflow_add-counts : goal.overflow_add-counts
overflow_add-counts c = (let room = room_for_1 c.args.numbers.now c.loop-index.index c.loop-index-test.true c.requires.fit in omega (arith, room))

pub loop-index-preserved : goal.loop-index-preserved
loop-index-preserved c =
    let few = c.requires.few in
    let long = c.loop-index.invariant.long in
    record {
      told = put_more_1 c.args.numbers.now c.loop-index.counts c.loop-index.index _ c.loop-index.invariant.told c.loop-index-test.true (omega (arith, few, long, c.loop-index-test.true)) refl;
      long = length-set c.loop-index.counts c.loop-index.index _ ∙ long;
    }
