use Rattle.std.proofs.Common.{[], Bool, List, ap, arith, drop, get_or, length, set, subst, sum, sym, ◌-◌, ◌∙◌, ◌∷◌, ◌≡◌}
use Rattle.std.proofs.lemmas.List.{get_or_default}
use Rattle.docsets.specs.Entries.{first, first_score, from}
use Rattle.docsets.proofs.EntryLaws.{from-first, from-step}
use Rattle.docsets.specs.CombiningLaws.{sum-cons}
use Rattle.docsets.specs.Members.{entries_of}
use Rattle.docsets.proofs.MemberLaws.{entries-low, first-next, scores-on}
use Rattle.scorers.proofs.Clearings.{cleared-set, held-answer, held-total}
use Rattle.scorers.specs.Windows.{IsCleared}
use Rattle.scorers.proofs.WindowLaws.{Moves-next, Moves-on, Moves-same}
use Rattle.scorers.proofs.window.collect.Given.{Over}
use Rattle.scorers.proofs.window.collect.Goals.{After-index_mut}
use Rattle.scorers.proofs.window.collect.Goals as goal

-- the slot of the document on which the cursor stands
slot : (g : Over) (c : After-index_mut g) → c.index_mut.result.now ≡ get_or c.loop-doc.slots.items (c.loop-doc.doc - c.args.start) c.args.fresh
slot g c =
    let k = c.loop-doc.doc - c.args.start in
    let long : length c.loop-doc.slots.items ≡ 4096 = c.loop-doc.invariant.moved.slots_fit ∙ c.requires.slots in
    let ahead = c.loop-doc.invariant.ahead in
    let near = c.requires.near in
    c.index_mut.ensures.value ∙ get_or_default c.loop-doc.slots.items k c.index_mut.result.now c.args.fresh (omega (arith, long, ahead, near))

pub update-requires-clause-fits : goal.update-requires-clause-fits
update-requires-clause-fits g c =
    let entries = g.S.DocSet.entries in
    let answer = g.C.ScoreCombiner.answer in
    let total = g.C.ScoreCombiner.total in
    let inv = c.loop-doc.invariant in
    let es = entries c.loop-doc.scorer in
    let at = inv.at in
    let ahead = inv.ahead in
    let k = c.loop-doc.doc - c.args.start in
    let here = ap total (slot g (goal.at.update-requires-clause-fits g c).After-index_mut) in
    let same = held-total answer total c.loop-doc.present c.loop-doc.slots.items c.args.fresh 0 k inv.cleared in
    let kept = inv.moved.totals c.loop-doc.doc ahead (omega arith) in
    let fits = c.requires.fits c.loop-doc.doc ahead (omega arith) in
    let small = c.requires.small in
    let one = ap sum (scores-on c.loop-doc.doc es (g.met.S.DocSet.rising c.loop-doc.scorer) (sym at) (omega (arith, small))) in
    let single = sum-cons (first_score es) [] in
    omega (arith, here, same, kept, fits, one, single)

pub loop-doc-preserved : goal.loop-doc-preserved
loop-doc-preserved g c =
    let entries = g.S.DocSet.entries in
    let answer = g.C.ScoreCombiner.answer in
    let total = g.C.ScoreCombiner.total in
    let inv = c.loop-doc.invariant in
    let es = entries c.loop-doc.scorer in
    let rises = g.met.S.DocSet.rising c.loop-doc.scorer in
    let at = inv.at in
    let ahead = inv.ahead in
    let near = c.requires.near in
    let k = c.loop-doc.doc - c.args.start in
    let slots = c.loop-doc.slots.items in
    let long : length c.loop-doc.present ≡ 4096 = inv.moved.flags_fit ∙ c.requires.flags in
    let slots_long : length slots ≡ 4096 = inv.moved.slots_fit ∙ c.requires.slots in
    let here = slot g (goal.at.loop-doc-preserved g c).After-index_mut in
    let C : List Bool → Type 0 = λ flags. IsCleared answer total flags (set slots k c.update.new.self) c.args.fresh 0 in
    record {
      at = c.advance-doc.ensures.at;
      ahead = (let later = first-next 0 es rises in let next = c.advance-doc.ensures.at in let same = ap first (c.advance-doc.ensures.rest ∙ ap (drop 1) c.update.ensures.same) in omega (arith, ahead, later, next, same, at));
      rest = ap (from c.args.horizon) (c.advance-doc.ensures.rest ∙ ap (drop 1) c.update.ensures.same) ∙ (from-step c.args.horizon es (omega (arith, at)) ∙ inv.rest);
      moved = Moves-on answer total c.args.fresh c.args.start c.args.horizon c.args.present.now c.args.slots.now.items (λ d. entries_of d (entries c.args.scorer.now)) c.loop-doc.present slots (λ d. entries_of d es) c.insert.new.self _ (λ d. entries_of d (entries c.advance-doc.new.self)) inv.moved
          (Moves-next answer total c.args.fresh c.update.new.self c.args.start c.args.horizon c.loop-doc.doc c.loop-doc.present c.insert.new.self slots es (entries c.advance-doc.new.self) inv.at (c.advance-doc.ensures.rest ∙ ap (drop 1) c.update.ensures.same) c.insert.ensures rises inv.ahead (omega arith) (omega (arith, long, near)) (slots_long ∙ sym long) (c.requires.small)
          (let held = ap total here ∙ held-total answer total c.loop-doc.present slots c.args.fresh 0 k inv.cleared in let more = c.update.ensures.total in omega (arith, held, more))
          (λ xs. c.update.ensures.answer xs ∙ (ap (λ x. answer x (first_score es ∷ xs)) here ∙ held-answer answer total c.loop-doc.present slots c.args.fresh 0 k (first_score es ∷ xs) inv.cleared)));
      cleared = subst C (sym c.insert.ensures) (cleared-set answer total c.loop-doc.present slots c.args.fresh c.update.new.self k inv.cleared (omega (arith, long, near, ahead)));
    }

pub returns-clause-rest : goal.returns-clause-rest
returns-clause-rest g c =
    let at = c.loop-doc.invariant.at in
    sym (from-first c.args.horizon 0 (g.S.DocSet.entries c.loop-doc.scorer) (omega (arith, at)) (g.met.S.DocSet.rising c.loop-doc.scorer)) ∙ c.loop-doc.invariant.rest

pub returns-clause-moved : goal.returns-clause-moved
returns-clause-moved g c =
    let entries = g.S.DocSet.entries in
    let answer = g.C.ScoreCombiner.answer in
    let total = g.C.ScoreCombiner.total in
    let at = c.loop-doc.invariant.at in
    let es = entries c.loop-doc.scorer in
    Moves-on answer total c.args.fresh c.args.start c.args.horizon c.args.present.now c.args.slots.now.items (λ d. entries_of d (entries c.args.scorer.now)) c.loop-doc.present c.loop-doc.slots.items (λ d. entries_of d es) c.loop-doc.present c.loop-doc.slots.items (λ d. []) c.loop-doc.invariant.moved
    (Moves-same answer total c.args.fresh c.args.start c.args.horizon c.loop-doc.present c.loop-doc.slots.items (λ d. entries_of d es) (λ d. []) (λ d l h. sym (entries-low d 0 es (g.met.S.DocSet.rising c.loop-doc.scorer) (omega (arith, at, h)))))
