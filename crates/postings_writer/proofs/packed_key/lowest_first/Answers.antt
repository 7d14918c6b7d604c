use Rattle.postings_writer.proofs.PackedKeys.{lowest}
use Rattle.postings_writer.proofs.packed_key.lowest_first.Goals as goal

pub returns : goal.returns
returns c = lowest c.args.count c.args.n c.requires
