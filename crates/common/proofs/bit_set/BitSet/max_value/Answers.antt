use Rattle.common.proofs.SetSteps.{seen_length}
use Rattle.common.proofs.bit_set.BitSet.max_value.Goals as goal

pub returns : goal.returns
returns c = seen_length c.self.inside.max_value c.self.inside.words.items c.args.self.now c.self.view_is
