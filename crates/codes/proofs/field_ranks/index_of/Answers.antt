use Rattle.codes.proofs.AscendingNumbers.{not_found}
use Rattle.codes.proofs.field_ranks.index_of.Goals as goal

pub returns-clause-none : goal.returns-clause-none
returns-clause-none c = not_found c.args.fields.now c.args.field c.binary_search.result c.ok.result c.requires c.binary_search.ensures.position c.ok.ensures.value
