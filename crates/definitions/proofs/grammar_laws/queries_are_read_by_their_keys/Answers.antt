use Rattle.definitions.proofs.QueriesByKeys.{queries_by_keys}
use Rattle.definitions.proofs.grammar_laws.queries_are_read_by_their_keys.Goals as goal

pub returns-clause-keys : goal.returns-clause-keys
returns-clause-keys c = queries_by_keys
