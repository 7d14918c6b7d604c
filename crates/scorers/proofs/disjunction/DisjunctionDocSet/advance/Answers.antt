use Rattle.std.proofs.Common.{ap, arith, drop, map, sym, ◌+◌, ◌∙◌}
use Rattle.docsets.specs.Entries.{from}
use Rattle.docsets.proofs.EntryLaws.{drop-one}
use Rattle.docsets.proofs.AtLeastLaws.{chosen-end}
use Rattle.docsets.specs.Members.{at_least, combining}
use Rattle.docsets.proofs.MemberLaws.{entries-least, least-small}
use Rattle.scorers.specs.ChoicesLaws.{Rising-chosen}
use Rattle.scorers.proofs.disjunction.DisjunctionDocSet.advance.Goals as goal

pub returns-then-self-eq-TERMINATED-clause-rest : goal.returns-then-self-eq-TERMINATED-clause-rest
returns-then-self-eq-TERMINATED-clause-rest g c =
    let s = c.args.self.now in
    let leads = s.chosen.leads in
    let some = s.chosen.some in
    let none = chosen-end s.minimum (combining (g.C.ScoreCombiner.answer s.combiner)) (map g.S.DocSet.entries s.docsets.items) (omega (arith, some)) (omega (arith, leads)) (λ d l. entries-least g.S.DocSet.entries g.met.S.DocSet.rising d s.docsets.items l) in
    none ∙ sym (ap (drop 1) none)

pub invariant_of-self : goal.invariant_of-self
invariant_of-self g c =
    let s = c.args.self.now in
    let entries = g.S.DocSet.entries in
    let leads = c.choose-self.ensures.leads in
    let small = least-small entries g.met.S.DocSet.rising c.choose-self.new.docsets.items in
    record {
      chosen = record {
        at = c.choose-self.ensures.at (combining (g.C.ScoreCombiner.answer s.combiner));
        leads = leads;
        small = omega (arith, leads, small);
        some = s.chosen.some;
        unused = s.chosen.unused;
        fits = λ d. (let kept = c.choose-self.ensures.scores d in let bound = s.chosen.fits d in omega (arith, kept, bound));
      };
    }

pub returns-clause-rest : goal.returns-clause-rest
returns-clause-rest g c =
    let s = c.args.self.now in
    let answer = g.C.ScoreCombiner.answer in
    let make = combining (answer s.combiner) in
    let ess = map g.S.DocSet.entries s.docsets.items in
    let rises = Rising-chosen answer g.C.ScoreCombiner.total g.met.C.ScoreCombiner.bounded s.minimum s.combiner ess s.doc s.chosen in
    c.choose-self.ensures.same make ∙ (ap (λ n. from (n + 1) (at_least s.minimum make ess)) s.chosen.at ∙ sym (drop-one 0 (at_least s.minimum make ess) rises))
