use Rattle.schema.proofs.ReadBack.{written_back}
use Rattle.schema.proofs.json_laws.written_schemas_are_read_back.Goals as goal

pub returns : goal.returns
returns c = written_back
