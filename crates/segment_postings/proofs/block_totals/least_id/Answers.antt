use Rattle.std.proofs.Common.{ap, map, sym, ◌∙◌}
use Rattle.codes.specs.UnpackedBlocks.{listed}
use Rattle.definitions.specs.Blocks.{least_of}
use Rattle.layouts.specs.TermPostings.{id_of}
use Rattle.segment_postings.proofs.NumberFolds.{no_ids}
use Rattle.segment_postings.proofs.block_totals.least_id.Goals as goal

pub returns-in_default : goal.returns-in_default
returns-in_default c = sym (ap (λ ids. least_of (map (id_of (listed ids)) c.args.docs.now)) c.in_default.is ∙ no_ids c.args.docs.now c.requires.some)
