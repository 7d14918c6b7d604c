use Rattle.std.proofs.Common.{ap, arith, drop, map, sym, ◌<◌, ◌∙◌}
use Rattle.definitions.specs.Postings.{terminated}
use Rattle.docsets.proofs.MemberLaws.{entries-least, listed-end}
use Rattle.scorers.specs.Windows.{entry_ahead, is_ahead}
use Rattle.scorers.proofs.PassedDocuments.{cleared-on, first-on, rest-on, window-on, word-within}
use Rattle.scorers.proofs.buffered_union.BufferedUnionScorerDocSet.advance.Goals as goal

pub returns-then-self-eq-TERMINATED-clause-rest : goal.returns-then-self-eq-TERMINATED-clause-rest
returns-then-self-eq-TERMINATED-clause-rest g c =
    let s = c.args.self.now in
    let ess = map g.S.DocSet.entries s.docsets.items in
    let none = listed-end (is_ahead s.present s.start ess) (entry_ahead g.C.ScoreCombiner.answer s.present s.slots.items s.fresh s.start ess) s.doc (omega arith) in
    none ∙ sym (ap (drop 1) none)

pub next_after-found-requires : goal.next_after-found-requires
next_after-found-requires g c =
    let s = c.args.self.now in
    let ess = map g.S.DocSet.entries s.docsets.items in
    let small = s.standing.small in
    let l : s.doc < terminated = omega (arith, small) in
    word-within g.C.ScoreCombiner.answer g.C.ScoreCombiner.total s.present s.slots.items s.fresh s.start ess s.doc s.bucket (record { standing = s.standing; cleared = s.cleared; bucketed = s.bucketed }) l

pub settle-start-requires-clause-window : goal.settle-start-requires-clause-window
settle-start-requires-clause-window g c =
    let s = c.args.self.now in
    let ess = map g.S.DocSet.entries s.docsets.items in
    let small = s.standing.small in
    let l : s.doc < terminated = omega (arith, small) in
    window-on g.C.ScoreCombiner.answer g.C.ScoreCombiner.total s.present c.next_after-found.new.self s.slots.items s.fresh s.start ess s.doc s.bucket (record { standing = s.standing; cleared = s.cleared; bucketed = s.bucketed }) (λ d b. entries-least g.S.DocSet.entries g.met.S.DocSet.rising d s.docsets.items b) c.next_after-found.ensures.removed l

pub settle-start-requires-clause-cleared : goal.settle-start-requires-clause-cleared
settle-start-requires-clause-cleared g c =
    let s = c.args.self.now in
    let ess = map g.S.DocSet.entries s.docsets.items in
    let small = s.standing.small in
    let l : s.doc < terminated = omega (arith, small) in
    cleared-on g.C.ScoreCombiner.answer g.C.ScoreCombiner.total s.present c.next_after-found.new.self s.slots.items s.fresh s.start ess s.doc s.bucket (record { standing = s.standing; cleared = s.cleared; bucketed = s.bucketed }) (λ d b. entries-least g.S.DocSet.entries g.met.S.DocSet.rising d s.docsets.items b) c.next_after-found.ensures.removed l

pub settle-start-requires-clause-found : goal.settle-start-requires-clause-found
settle-start-requires-clause-found g c =
    let s = c.args.self.now in
    let ess = map g.S.DocSet.entries s.docsets.items in
    let small = s.standing.small in
    let l : s.doc < terminated = omega (arith, small) in
    first-on g.C.ScoreCombiner.answer g.C.ScoreCombiner.total s.present c.next_after-found.new.self s.slots.items s.fresh s.start ess s.doc s.bucket c.next_after-found.result (record { standing = s.standing; cleared = s.cleared; bucketed = s.bucketed }) (λ d b. entries-least g.S.DocSet.entries g.met.S.DocSet.rising d s.docsets.items b) c.next_after-found.ensures.removed l c.next_after-found.ensures.first

pub returns-clause-rest : goal.returns-clause-rest
returns-clause-rest g c =
    let s = c.args.self.now in
    let ess = map g.S.DocSet.entries s.docsets.items in
    let small = s.standing.small in
    let l : s.doc < terminated = omega (arith, small) in
    c.settle-start.ensures.same ∙ sym (ap (drop 1) (rest-on g.C.ScoreCombiner.answer g.C.ScoreCombiner.total s.present c.next_after-found.new.self s.slots.items s.fresh s.start ess s.doc s.bucket (record { standing = s.standing; cleared = s.cleared; bucketed = s.bucketed }) (λ d b. entries-least g.S.DocSet.entries g.met.S.DocSet.rising d s.docsets.items b) c.next_after-found.ensures.removed l))
