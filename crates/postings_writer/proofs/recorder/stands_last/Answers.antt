use Rattle.std.proofs.Common.{sym}
use Rattle.postings_writer.proofs.Groups.{ends_at_pair}
use Rattle.postings_writer.proofs.recorder.stands_last.Goals as goal

pub returns-in-Some : goal.returns-in-Some
returns-in-Some c = ends_at_pair c.args.doc c.in-Some.last.now c.args.pairs.now (sym c.in-Some.ensures.value)
