use Rattle.std.proofs.Common.{arith}
use Rattle.docsets.specs.Members.{combining}
use Rattle.docsets.proofs.MemberLaws.{least-small}
use Rattle.scorers.proofs.disjunction.DisjunctionDocSet.seek.Goals as goal

pub invariant_of-self : goal.invariant_of-self
invariant_of-self g c =
    let s = c.args.self.now in
    let entries = g.S.DocSet.entries in
    let leads = c.choose-self.ensures.leads in
    let small = least-small entries g.met.S.DocSet.rising c.choose-self.new.docsets.items in
    record {
      chosen = record {
        at = c.choose-self.ensures.at (combining (g.C.ScoreCombiner.answer s.combiner));
        leads = leads;
        small = omega (arith, leads, small);
        some = s.chosen.some;
        unused = s.chosen.unused;
        fits = λ d. (let kept = c.choose-self.ensures.scores d in let bound = s.chosen.fits d in omega (arith, kept, bound));
      };
    }

pub returns-clause-rest : goal.returns-clause-rest
returns-clause-rest g c =
    let s = c.args.self.now in
    c.choose-self.ensures.same (combining (g.C.ScoreCombiner.answer s.combiner))
