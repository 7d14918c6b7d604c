use Rattle.std.proofs.Common.{[], ap, append-nil, append_assoc, arith, length, map, of_z, sym, to_z, ◌++◌, ◌<◌, ◌∙◌, ◌∷◌}
use Rattle.definitions.specs.Postings.{terminated}
use Rattle.docsets.proofs.MemberLaws.{entries-least, listed-end}
use Rattle.scorers.specs.Signed.{signed}
use Rattle.scorers.specs.Windows.{entry_ahead, is_ahead, windowed}
use Rattle.scorers.proofs.PassedDocuments.{cleared-on, first-on, rest-on, score-there, window-on}
use mir.Syntax.{w64}
use Rattle.scorers.proofs.union_list.list_rest.Goals as goal

pub settle-next_start-requires-clause-window : goal.settle-next_start-requires-clause-window
settle-next_start-requires-clause-window g c =
    let s = c.loop-doc.invariant.stands in
    let entries = g.S.DocSet.entries in
    let answer = g.C.ScoreCombiner.answer in
    let total = g.C.ScoreCombiner.total in
    let ess = map entries c.loop-doc.docsets.items in
    let small = s.standing.small in
    let l : c.loop-doc.doc < terminated = omega (arith, small, c.loop-doc-test.true) in
    window-on answer total c.loop-doc.present c.next_after-found.new.self c.loop-doc.slots.items c.args.fresh c.loop-doc.start ess c.loop-doc.doc c.loop-doc.bucket s (λ d b. entries-least entries g.met.S.DocSet.rising d c.loop-doc.docsets.items b) c.next_after-found.ensures.removed l

pub settle-next_start-requires-clause-cleared : goal.settle-next_start-requires-clause-cleared
settle-next_start-requires-clause-cleared g c =
    let s = c.loop-doc.invariant.stands in
    let entries = g.S.DocSet.entries in
    let answer = g.C.ScoreCombiner.answer in
    let total = g.C.ScoreCombiner.total in
    let ess = map entries c.loop-doc.docsets.items in
    let small = s.standing.small in
    let l : c.loop-doc.doc < terminated = omega (arith, small, c.loop-doc-test.true) in
    cleared-on answer total c.loop-doc.present c.next_after-found.new.self c.loop-doc.slots.items c.args.fresh c.loop-doc.start ess c.loop-doc.doc c.loop-doc.bucket s (λ d b. entries-least entries g.met.S.DocSet.rising d c.loop-doc.docsets.items b) c.next_after-found.ensures.removed l

pub settle-next_start-requires-clause-found : goal.settle-next_start-requires-clause-found
settle-next_start-requires-clause-found g c =
    let s = c.loop-doc.invariant.stands in
    let entries = g.S.DocSet.entries in
    let answer = g.C.ScoreCombiner.answer in
    let total = g.C.ScoreCombiner.total in
    let ess = map entries c.loop-doc.docsets.items in
    let small = s.standing.small in
    let l : c.loop-doc.doc < terminated = omega (arith, small, c.loop-doc-test.true) in
    first-on answer total c.loop-doc.present c.next_after-found.new.self c.loop-doc.slots.items c.args.fresh c.loop-doc.start ess c.loop-doc.doc c.loop-doc.bucket c.next_after-found.result s (λ d b. entries-least entries g.met.S.DocSet.rising d c.loop-doc.docsets.items b) c.next_after-found.ensures.removed l c.next_after-found.ensures.first

pub loop-doc-smaller : goal.loop-doc-smaller
loop-doc-smaller g c =
    let s = c.loop-doc.invariant.stands in
    let entries = g.S.DocSet.entries in
    let answer = g.C.ScoreCombiner.answer in
    let total = g.C.ScoreCombiner.total in
    let ess = map entries c.loop-doc.docsets.items in
    let small = s.standing.small in
    let l : c.loop-doc.doc < terminated = omega (arith, small, c.loop-doc-test.true) in
    let rest = ap length (rest-on answer total c.loop-doc.present c.next_after-found.new.self c.loop-doc.slots.items c.args.fresh c.loop-doc.start ess c.loop-doc.doc c.loop-doc.bucket s (λ d b. entries-least entries g.met.S.DocSet.rising d c.loop-doc.docsets.items b) c.next_after-found.ensures.removed l) in
    let same = ap length c.settle-next_start.ensures.same in
    omega (arith, rest, same)

pub loop-doc-preserved : goal.loop-doc-preserved
loop-doc-preserved g c =
    let s = c.loop-doc.invariant.stands in
    let entries = g.S.DocSet.entries in
    let answer = g.C.ScoreCombiner.answer in
    let total = g.C.ScoreCombiner.total in
    let ess = map entries c.loop-doc.docsets.items in
    let small = s.standing.small in
    let l : c.loop-doc.doc < terminated = omega (arith, small, c.loop-doc-test.true) in
    let score = score-there answer total g.met.C.ScoreCombiner.bounded c.loop-doc.present c.loop-doc.slots.items c.args.fresh c.loop-doc.start ess c.loop-doc.doc c.loop-doc.bucket c.index.result.now c.score.result s (λ d b. entries-least entries g.met.S.DocSet.rising d c.loop-doc.docsets.items b) l c.index.ensures c.score.ensures in
    let rest = rest-on answer total c.loop-doc.present c.next_after-found.new.self c.loop-doc.slots.items c.args.fresh c.loop-doc.start ess c.loop-doc.doc c.loop-doc.bucket s (λ d b. entries-least entries g.met.S.DocSet.rising d c.loop-doc.docsets.items b) c.next_after-found.ensures.removed l in
    let then = c.settle-next_start.ensures.same in
    record {
      stands = record { standing = c.settle-next_start.ensures.standing; cleared = c.settle-next_start.ensures.cleared; bucketed = c.settle-next_start.ensures.bucket };
      all = ap (λ xs. xs ++ signed (windowed answer c.settle-next_start.new.present c.settle-next_start.new.slots.items c.args.fresh c.settle-next_start.result.0 (map entries c.settle-next_start.new.docsets.items) c.settle-next_start.result.1)) c.in_ok-push.ensures.items
          ∙ (append_assoc c.loop-doc.pairs.items ((c.loop-doc.doc, to_z w64 (of_z w64 c.score.result)) ∷ []) _
          ∙ (ap (λ z. c.loop-doc.pairs.items ++ (c.loop-doc.doc, z) ∷ signed (windowed answer c.settle-next_start.new.present c.settle-next_start.new.slots.items c.args.fresh c.settle-next_start.result.0 (map entries c.settle-next_start.new.docsets.items) c.settle-next_start.result.1)) score
          ∙ (ap (λ es. c.loop-doc.pairs.items ++ signed (entry_ahead answer c.loop-doc.present c.loop-doc.slots.items c.args.fresh c.loop-doc.start ess c.loop-doc.doc ∷ es)) then
          ∙ (ap (λ es. c.loop-doc.pairs.items ++ signed es) (sym rest) ∙ c.loop-doc.invariant.all))));
    }

pub returns : goal.returns
returns g c =
    let s = c.loop-doc.invariant.stands in
    let answer = g.C.ScoreCombiner.answer in
    let ess = map g.S.DocSet.entries c.loop-doc.docsets.items in
    let none = listed-end (is_ahead c.loop-doc.present c.loop-doc.start ess) (entry_ahead answer c.loop-doc.present c.loop-doc.slots.items c.args.fresh c.loop-doc.start ess) c.loop-doc.doc (omega (arith, c.loop-doc-test.false)) in
    record { pairs = sym (append-nil c.loop-doc.pairs.items) ∙ (ap (λ es. c.loop-doc.pairs.items ++ signed es) (sym none) ∙ c.loop-doc.invariant.all) }
