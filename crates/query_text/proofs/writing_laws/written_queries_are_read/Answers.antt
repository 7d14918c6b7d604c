use Rattle.query_text.proofs.Written.{written_read}
use Rattle.query_text.proofs.writing_laws.written_queries_are_read.Goals as goal

pub returns : goal.returns
returns c = written_read
