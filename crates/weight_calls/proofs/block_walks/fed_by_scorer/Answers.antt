use Rattle.std.proofs.Common.{arith}
use Rattle.docsets.proofs.EntryLaws.{few}
use Rattle.term_scorer.specs.ScoredTerms.{scored_left}
use Rattle.term_scorer.specs.ScoredTermsLaws.{rising_scored}
use Rattle.weight_calls.proofs.block_walks.fed_by_scorer.Goals as goal

pub term_scorer-requires-clause-fits : goal.term_scorer-requires-clause-fits
term_scorer-requires-clause-fits c = let small = c.args.weight.now.small in omega (arith, small)

pub block_wand_single_scorer-requires-clause-room : goal.block_wand_single_scorer-requires-clause-room
block_wand_single_scorer-requires-clause-room c =
    let scorer = c.in-Some.scorer in
    let most = few 0 (scored_left scorer) (rising_scored scorer) in
    omega (arith, most)
