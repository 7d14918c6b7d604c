use Rattle.std.proofs.Common.{None, Option, Some, arith, false, map, slice_index_or, subst, sym, ◌-◌, ◌<◌, ◌∙◌, IfSome, ℕ}
use Rattle.common.specs.BitSets.{IsFirst}
use Rattle.docsets.proofs.MemberLaws.{entries-least}
use Rattle.scorers.proofs.Clearings.{cleared-to, first-late}
use Rattle.scorers.proofs.Fillings.{window-empty, window-found}
use Rattle.scorers.proofs.buffered_union.settle.Goals as goal

pub returns-in-Some-clause-same : goal.returns-in-Some-clause-same
returns-in-Some-clause-same g c =
    let entries = g.S.DocSet.entries in
    let answer = g.C.ScoreCombiner.answer in
    let total = g.C.ScoreCombiner.total in
    let items = c.args.docsets.now.items in
    let P : Option ℕ → Type 0 = λ r. IsFirst (λ k. slice_index_or c.args.present.now k false) 0 r in
    let Q : Option ℕ → Type 0 = λ r. IfSome r (λ k. k < 4096) in
    let first : P (Some c.in-Some.k) = subst P c.in-Some.is c.requires.found in
    let within : Q (Some c.in-Some.k) = subst Q c.in-Some.is c.requires.within in
    let late = first-late c.args.present.now (c.args.low - c.args.start) c.in-Some.k c.requires.cleared.passed first.1 in
    (window-found answer total c.args.present.now c.args.slots.now.items c.args.fresh c.args.start (map entries items) c.args.low c.in-Some.k c.min.result c.requires.window (λ d l. entries-least entries g.met.S.DocSet.rising d items l) c.requires.begun c.requires.small late within first.1 (λ i l. first.2 i (omega arith)) c.min.ensures).0

pub returns-in-Some-clause-standing : goal.returns-in-Some-clause-standing
returns-in-Some-clause-standing g c =
    let entries = g.S.DocSet.entries in
    let answer = g.C.ScoreCombiner.answer in
    let total = g.C.ScoreCombiner.total in
    let items = c.args.docsets.now.items in
    let P : Option ℕ → Type 0 = λ r. IsFirst (λ k. slice_index_or c.args.present.now k false) 0 r in
    let Q : Option ℕ → Type 0 = λ r. IfSome r (λ k. k < 4096) in
    let first : P (Some c.in-Some.k) = subst P c.in-Some.is c.requires.found in
    let within : Q (Some c.in-Some.k) = subst Q c.in-Some.is c.requires.within in
    let late = first-late c.args.present.now (c.args.low - c.args.start) c.in-Some.k c.requires.cleared.passed first.1 in
    (window-found answer total c.args.present.now c.args.slots.now.items c.args.fresh c.args.start (map entries items) c.args.low c.in-Some.k c.min.result c.requires.window (λ d l. entries-least entries g.met.S.DocSet.rising d items l) c.requires.begun c.requires.small late within first.1 (λ i l. first.2 i (omega arith)) c.min.ensures).1

pub returns-in-Some-clause-cleared : goal.returns-in-Some-clause-cleared
returns-in-Some-clause-cleared g c =
    let answer = g.C.ScoreCombiner.answer in
    let total = g.C.ScoreCombiner.total in
    let P : Option ℕ → Type 0 = λ r. IsFirst (λ k. slice_index_or c.args.present.now k false) 0 r in
    let first : P (Some c.in-Some.k) = subst P c.in-Some.is c.requires.found in
    let is = c.min.ensures in
    cleared-to answer total c.args.present.now c.args.slots.now.items c.args.fresh (c.args.low - c.args.start) (c.min.result - c.args.start) c.requires.cleared (λ k l. first.2 k (omega arith) (omega (arith, l, is)))

pub refill-next-requires-clause-cleared : goal.refill-next-requires-clause-cleared
refill-next-requires-clause-cleared g c =
    let answer = g.C.ScoreCombiner.answer in
    let total = g.C.ScoreCombiner.total in
    let P : Option ℕ → Type 0 = λ r. IsFirst (λ k. slice_index_or c.args.present.now k false) 0 r in
    let none : P None = subst P c.in_default.is c.requires.found in
    cleared-to answer total c.args.present.now c.args.slots.now.items c.args.fresh (c.args.low - c.args.start) 4096 c.requires.cleared (λ k l. none k (omega arith))

pub returns-clause-same : goal.returns-clause-same
returns-clause-same g c =
    let entries = g.S.DocSet.entries in
    let answer = g.C.ScoreCombiner.answer in
    let items = c.args.docsets.now.items in
    let P : Option ℕ → Type 0 = λ r. IsFirst (λ k. slice_index_or c.args.present.now k false) 0 r in
    let none : P None = subst P c.in_default.is c.requires.found in
    c.refill-next.ensures.same ∙ sym (window-empty answer c.args.present.now c.args.slots.now.items c.args.fresh c.args.start (map entries items) c.args.low (λ d l. entries-least entries g.met.S.DocSet.rising d items l) c.requires.small c.requires.ahead (λ d l. none (d - c.args.start) (omega arith)))
