use Rattle.std.proofs.Common.{ap, arith, false, map, slice_index_or, ◌∙◌}
use Rattle.std.proofs.lemmas.List.{get_or-replicate}
use Rattle.docsets.proofs.AtLeastLaws.{same-making}
use Rattle.docsets.specs.Members.{combining, scores_in, with_score}
use Rattle.docsets.proofs.MemberLaws.{sum-greatest}
use Rattle.scorers.proofs.Clearings.{cleared-all}
use Rattle.scorers.proofs.buffered_union.BufferedUnionScorer.build.Goals as goal

pub refill-doc-requires-clause-fits : goal.refill-doc-requires-clause-fits
refill-doc-requires-clause-fits g c = λ d l h. (let bound = sum-greatest g.S.DocSet.entries g.met.S.DocSet.rising d c.args.docsets.items in let fits = c.requires in omega (arith, bound, fits))

pub refill-doc-requires-clause-cleared : goal.refill-doc-requires-clause-cleared
refill-doc-requires-clause-cleared g c =
    cleared-all g.C.ScoreCombiner.answer g.C.ScoreCombiner.total c.in_ok-present.present c.in_ok-slots.slots.items c.clear.new.self 4096 c.in_ok-slots.ensures.fresh
    (λ k l. ap (λ flags. slice_index_or flags k false) c.in_ok-present.ensures ∙ get_or-replicate 4096 k false false l)

pub returns : goal.returns
returns g c = c.refill-doc.ensures.same ∙ same-making 1 (combining (g.C.ScoreCombiner.answer c.clear.new.self)) (combining (g.C.ScoreCombiner.anew c.args.combiner)) (map g.S.DocSet.entries c.args.docsets.items) (λ d es. ap (with_score d) (c.clear.ensures.answer (scores_in es)))
