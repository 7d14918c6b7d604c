use Rattle.std.proofs.Common.{ap, map, subst, sym, ◌∙◌}
use Rattle.docsets.specs.ScoredEntries.{AreScores, naturals, pairs_of}
use Rattle.docsets.proofs.ScoredEntryLaws.{pairs-scored}
use Rattle.scorers.specs.FillingsLaws.{Rising-windowed}
use Rattle.scorers.specs.Windows.{windowed}
use Rattle.scorers.proofs.SignedScores.{naturals_of, scores_rise}
use Rattle.scorers.proofs.buffered_union.BufferedUnionScorer.into_list.Goals as goal

pub new-requires : goal.new-requires
new-requires g c =
    let s = c.args.self in
    let answer = g.C.ScoreCombiner.answer in
    let total = g.C.ScoreCombiner.total in
    let ess = map g.S.DocSet.entries s.docsets.items in
    subst (AreScores 0) (sym c.in_ok-pairs.ensures.pairs) (scores_rise 0 (windowed answer s.present s.slots.items s.fresh s.start ess s.doc) (Rising-windowed answer total g.met.C.ScoreCombiner.bounded s.present s.slots.items s.fresh s.start ess s.doc s.standing))

pub returns : goal.returns
returns g c =
    let s = c.args.self in
    ap pairs_of c.new.ensures
    ∙ (pairs-scored (naturals c.in_ok-pairs.pairs.items)
    ∙ (ap naturals c.in_ok-pairs.ensures.pairs ∙ naturals_of (windowed g.C.ScoreCombiner.answer s.present s.slots.items s.fresh s.start (map g.S.DocSet.entries s.docsets.items) s.doc)))
