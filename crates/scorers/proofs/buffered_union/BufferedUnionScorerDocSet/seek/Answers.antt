use Rattle.std.proofs.Common.{arith, map, sym, ◌∙◌}
use Rattle.docsets.proofs.MemberLaws.{from-listed}
use Rattle.scorers.specs.Windows.{is_ahead, entry_ahead}
use Rattle.scorers.proofs.buffered_union.BufferedUnionScorerDocSet.seek.Goals as goal

pub returns-clause-rest : goal.returns-clause-rest
returns-clause-rest g c =
    let s = c.args.self.now in
    let ess = map g.S.DocSet.entries s.docsets.items in
    let at = s.standing.at in
    let ahead = c.requires.ahead in
    c.settle_at-start.ensures.same ∙ sym (from-listed (is_ahead s.present s.start ess) (entry_ahead g.C.ScoreCombiner.answer s.present s.slots.items s.fresh s.start ess) s.doc c.args.target (omega (arith, at, ahead)) c.requires.small)
