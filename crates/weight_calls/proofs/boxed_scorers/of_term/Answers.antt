use Rattle.std.proofs.Common.{arith}
use Rattle.weight_calls.proofs.boxed_scorers.of_term.Goals as goal

pub term_scorer-requires-clause-fits : goal.term_scorer-requires-clause-fits
term_scorer-requires-clause-fits c = let small = c.args.weight.now.small in omega (arith, small)
