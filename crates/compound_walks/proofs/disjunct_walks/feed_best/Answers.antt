use Rattle.std.proofs.Common.{ap, map, of_z, rules, to_z, ◌∙◌, ◌≡◌}
use Rattle.std.proofs.lemmas.Int.{to_z-of_z}
use mir.Syntax.{w64}
use mir.Val.{SFits}
use Rattle.any_scorer.proofs.Bounded.{natural_below}
use Rattle.any_scorer.specs.Clauses.{by_best}
use Rattle.definitions.specs.Scoring.{natural}
use Rattle.compound_walks.proofs.BestAnswers.{complete_best}
use Rattle.joint_walks.proofs.ClauseLists.{is_fed_such}
use Rattle.compound_walks.proofs.disjunct_walks.feed_best.Goals as goal

pub for_each_pruning_scorer-requires-clause-room : goal.for_each_pruning_scorer-requires-clause-room
for_each_pruning_scorer-requires-clause-room g c =
    let fits : SFits w64 c.args.tie_breaker = search rules in
    let tie : natural (to_z w64 (of_z w64 c.args.tie_breaker)) ≡ natural c.args.tie_breaker = ap natural (to_z-of_z w64 c.args.tie_breaker fits) in
    let ess = map g.S.DocSet.entries c.args.disjuncts.items in
    let best = c.in_ok-best.ensures in
    c.requires.room _ (complete_best g.S.DocSet.entries g.met.S.DocSet.rising (natural c.args.tie_breaker) (natural_below c.args.tie_breaker 1000 c.requires.share) c.args.disjuncts.items _ best.rises (λ d l. best.scores d l ∙ ap (λ n. by_best n ess d) tie))

pub returns-clause-fed : goal.returns-clause-fed
returns-clause-fed g c =
    let fits : SFits w64 c.args.tie_breaker = search rules in
    let tie : natural (to_z w64 (of_z w64 c.args.tie_breaker)) ≡ natural c.args.tie_breaker = ap natural (to_z-of_z w64 c.args.tie_breaker fits) in
    let ess = map g.S.DocSet.entries c.args.disjuncts.items in
    let best = c.in_ok-best.ensures in
    is_fed_such g.K.Sink.limit g.K.Sink.taken _ _ _ _ (complete_best g.S.DocSet.entries g.met.S.DocSet.rising (natural c.args.tie_breaker) (natural_below c.args.tie_breaker 1000 c.requires.share) c.args.disjuncts.items _ best.rises (λ d l. best.scores d l ∙ ap (λ n. by_best n ess d) tie)) c.for_each_pruning_scorer.ensures.state
