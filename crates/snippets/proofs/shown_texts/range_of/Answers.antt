-- What is cut at the last piece is the range.
use Rattle.std.proofs.Common.{arith, length, min, ◌≡◌}
use Rattle.snippets.proofs.ShownTexts.{range_shown}
use Rattle.snippets.proofs.shown_texts.range_of.Goals as goal

pub returns : goal.returns
returns c =
    let to : c.min-to.result ≡ min c.args.end (length c.args.pieces.now) = omega (arith, c.min-to.ensures) in
    let first : c.min-first.result ≡ min c.args.start c.min-to.result = omega (arith, c.min-first.ensures) in
    range_shown c.args.pieces.now c.args.start c.args.end c.min-to.result c.min-first.result to first
