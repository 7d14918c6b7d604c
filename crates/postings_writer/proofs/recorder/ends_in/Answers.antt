use Rattle.std.proofs.Common.{sym}
use Rattle.postings_writer.proofs.Groups.{ends_at}
use Rattle.postings_writer.proofs.recorder.ends_in.Goals as goal

pub returns-in-Some : goal.returns-in-Some
returns-in-Some c = ends_at c.args.doc c.in-Some.last.now c.args.docs.now (sym c.in-Some.ensures.value)
