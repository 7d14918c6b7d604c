use Rattle.std.proofs.Common.{ap, of_z, refl, rules, subst, sym, to_z, ◌∙◌, ◌≡◌, ◌≤◌}
use Rattle.std.proofs.lemmas.Int.{to_z-of_z}
use Rattle.std.proofs.lemmas.Result.{on_ok_weaker}
use mir.Syntax.{w64}
use mir.Val.{SFits}
use Rattle.definitions.specs.Query as definitions
use Rattle.query_trees.specs.Queries.{queries_of}
use Rattle.compound_walks.specs.Fed.{IsFedBy}
use Rattle.segment_reader.specs.SegmentReaders.{max_doc_of}
use Rattle.weights.proofs.FedLaws.{fed_answers, fed_within}
use Rattle.weights.proofs.TreeLaws.{weighed_accepted}
use Rattle.weights.proofs.disjunction_max_weight.DisjunctionMaxWeightWeight.for_each_pruning.Goals as goal

pub feed_disjuncts-requires : goal.feed_disjuncts-requires
feed_disjuncts-requires g c κs =
    let w = c.args.self.now in
    let qs = queries_of w.disjuncts.now in
    let fits : SFits w64 c.args.threshold = search rules in
    let fit : SFits w64 w.tie_breaker = search rules in
    let accepted = weighed_accepted (g.W.LeafWeights.similarity w.weights) (g.W.LeafWeights.similarity c.new-forms.result.weights.now) 1 1 (definitions.disjunction_max qs w.tie_breaker) (definitions.disjunction_max qs (to_z w64 (of_z w64 w.tie_breaker))) (ap g.W.LeafWeights.similarity c.new-forms.ensures.weights) refl (ap (λ z. definitions.disjunction_max qs z) (to_z-of_z w64 w.tie_breaker fit)) c.requires.accepted in
    let room = subst (λ r. max_doc_of r ≤ g.K.Sink.room c.args.sink.now) (sym c.new-forms.ensures.segment) c.requires.room in
    (search rules, (accepted, (to_z-of_z w64 c.args.threshold fits ∙ c.requires.threshold, room)))

pub returns-clause-fed : goal.returns-clause-fed
returns-clause-fed g c schema analyze sim docs stands by passes =
    let w = c.args.self.now in
    let qs = queries_of w.disjuncts.now in
    let fit : SFits w64 w.tie_breaker = search rules in
    let q = definitions.disjunction_max qs w.tie_breaker in
    let same : definitions.disjunction_max qs (to_z w64 (of_z w64 w.tie_breaker)) ≡ q = ap (λ z. definitions.disjunction_max qs z) (to_z-of_z w64 w.tie_breaker fit) in
    on_ok_weaker c.feed_disjuncts.result (λ is. fed_answers g.K.Sink.limit g.K.Sink.taken (g.K.Sink.state c.args.sink.now) 1 q (g.K.Sink.state c.feed_disjuncts.new.sink) _ sim _ c.args.reader.now (ap g.W.LeafWeights.similarity c.new-forms.ensures.weights ∙ sym by) c.new-forms.ensures.segment schema analyze docs stands passes (subst (λ p. IsFedBy g.K.Sink.limit g.K.Sink.taken (g.K.Sink.state c.args.sink.now) (g.W.LeafWeights.similarity c.new-forms.result.weights.now) 1 p c.new-forms.result.reader.now (g.K.Sink.state c.feed_disjuncts.new.sink)) same is)) c.feed_disjuncts.ensures.fed

pub returns-clause-listed : goal.returns-clause-listed
returns-clause-listed g c =
    let w = c.args.self.now in
    on_ok_weaker c.feed_disjuncts.result (fed_within g.K.Sink.limit g.K.Sink.taken (g.K.Sink.state c.args.sink.now) 1 (definitions.disjunction_max (queries_of w.disjuncts.now) (to_z w64 (of_z w64 w.tie_breaker))) (g.K.Sink.state c.feed_disjuncts.new.sink) _ _ c.args.reader.now c.new-forms.ensures.segment) c.feed_disjuncts.ensures.fed
