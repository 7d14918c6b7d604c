use Rattle.std.proofs.Common.{[], ap, arith, map, sym, ◌∙◌}
use Rattle.std.proofs.lemmas.List.{get_or-map, length-map}
use Rattle.docsets.specs.Entries.{most_positions}
use Rattle.phrases.proofs.SuffixCounts.{most-take}
use Rattle.phrases.proofs.phrase_prefix_scorer.most_of_suffixes.Goals as goal

pub loop-i-preserved : goal.loop-i-preserved
loop-i-preserved g c =
    let entries = g.P.DocSet.entries in
    let items = c.args.suffixes.now.items in
    let len = c.len-i-end.ensures in
    let long = length-map items entries in
    let more = most-take (map entries items) c.loop-i.i (omega (arith, len, long, c.loop-i-test.true)) in
    let is = ap most_positions (get_or-map entries items c.loop-i.i c.index.result.now [] (omega (arith, len, c.loop-i-test.true)) ∙ ap entries (sym c.index.ensures)) in
    let inv = c.loop-i.invariant in
    let here = c.most_positions.ensures in
    let next = c.max-most.ensures in
    omega (arith, more, is, inv, here, next)
