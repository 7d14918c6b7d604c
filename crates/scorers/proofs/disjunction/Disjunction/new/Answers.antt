use Rattle.std.proofs.Common.{ap, arith, map, ◌∙◌}
use Rattle.docsets.proofs.MemberLaws.{from-zero, least-small, sum-greatest}
use Rattle.docsets.specs.Members.{at_least, combining, scores_in, with_score}
use Rattle.docsets.proofs.AtLeastLaws.{same-making}
use Rattle.scorers.proofs.disjunction.Disjunction.new.Goals as goal

pub invariant_of-result : goal.invariant_of-result
invariant_of-result g c =
    let entries = g.S.DocSet.entries in
    let rising = g.met.S.DocSet.rising in
    let leads = c.choose-doc.ensures.leads in
    let small = least-small entries rising c.choose-doc.new.docsets.items in
    let greatest = c.requires.fits in
    let some = c.requires.some in
    record {
      chosen = record {
        at = c.choose-doc.ensures.at (combining (g.C.ScoreCombiner.answer c.clear.new.self));
        leads = leads;
        small = omega (arith, leads, small);
        some = some;
        unused = c.clear.ensures.total;
        fits = λ d. (let kept = c.choose-doc.ensures.scores d in let bound = sum-greatest entries rising d c.args.docsets.items in omega (arith, kept, bound, greatest));
      };
    }

pub returns : goal.returns
returns g c =
    let answer = g.C.ScoreCombiner.answer c.clear.new.self in
    let ess = map g.S.DocSet.entries c.args.docsets.items in
    c.choose-doc.ensures.same (combining answer)
    ∙ (from-zero (at_least c.args.minimum (combining answer) ess)
    ∙ same-making c.args.minimum (combining answer) (combining (g.C.ScoreCombiner.anew c.args.combiner)) ess (λ d es. ap (with_score d) (c.clear.ensures.answer (scores_in es))))
