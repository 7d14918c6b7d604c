use Rattle.std.proofs.Common.{ap, ◌∙◌}
use Rattle.scorer_answers.proofs.Places.{missed_at, stood_on}
use Rattle.scorer_answers.proofs.ScoresThere.{one_score, score_there}
use Rattle.scorer_answers.proofs.explanations.seek_match.Goals as goal

-- src/explanations.rt:46:9
pub returns-in-Found-clause-ok : goal.returns-in-Found-clause-ok
returns-in-Found-clause-ok g c schema analyze sim b q docs r stands passes scores =
    let before = g.D.DocSet.entries c.args.docset.now in
    let after = g.D.DocSet.entries c.seek_danger.new.self in
    let found = c.in-Found.ensures in
    score_there schema analyze sim b q docs r before stands passes scores c.args.doc
    ∙ ap one_score (stood_on c.args.doc before after (g.met.D.DocSet.rising c.seek_danger.new.self) c.if-doc-ge-TERMINATED.false found.0 found.1)

-- src/explanations.rt:47:9
pub returns-in-SeekLowerBound-clause-err : goal.returns-in-SeekLowerBound-clause-err
returns-in-SeekLowerBound-clause-err g c schema analyze sim b q docs r stands passes scores =
    let before = g.D.DocSet.entries c.args.docset.now in
    let after = g.D.DocSet.entries c.seek_danger.new.self in
    score_there schema analyze sim b q docs r before stands passes scores c.args.doc
    ∙ ap one_score (missed_at c.args.doc c.in-SeekLowerBound.field-0 before after (g.met.D.DocSet.rising c.args.docset.now) c.in-SeekLowerBound.ensures)
