use Rattle.std.proofs.Common.{subst, sym}
use Rattle.segment_postings.proofs.Finding.{goes_on}
use Rattle.segment_postings.specs.Ahead.{IsAhead}
use Rattle.segment_postings.specs.Reading.{HasPassed}
use Rattle.codes.specs.SkipBlocks.{Skips}
use Rattle.segment_postings.proofs.block_segment_postings.find_block.Goals as goal

pub returns-in-Some-clause-passed : goal.returns-in-Some-clause-passed
returns-in-Some-clause-passed c = λ reads sums bytes stands found.
    (let ahead = c.in-Some.ahead in
    let before = c.args.before in
    let here = c.args.skips.now in
    let first : HasPassed reads sums ahead.target before here ahead.before ahead.skips bytes = subst (λ a. IsAhead reads sums before here a bytes) c.in-Some.is found in
    let copy : HasPassed reads sums ahead.target before here ahead.before c.copied.result bytes = subst (λ (s : Skips). HasPassed reads sums ahead.target before here ahead.before s bytes) (sym c.copied.ensures) first in
    goes_on reads sums ahead.target c.args.target before here ahead.before c.copied.result c.pass_blocks.result c.pass_blocks.new.skips bytes c.if-ahead-target.true copy (c.pass_blocks.ensures.passed reads sums bytes copy.stands))
