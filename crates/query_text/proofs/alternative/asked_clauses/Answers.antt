-- Each asks the same of its query.
use Rattle.std.proofs.Common.{ap, map, ◌∙◌}
use Rattle.query_text.specs.Clauses.{clause_of}
use Rattle.query_text.proofs.ClauseLists.{each_asked}
use Rattle.query_text.proofs.alternative.asked_clauses.Goals as goal

pub returns : goal.returns
returns c = ap (map clause_of) c.in_ok-clauses.ensures ∙ each_asked c.args.occur c.args.queries.items
