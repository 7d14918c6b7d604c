use Rattle.std.proofs.Common.{ap, refl, rules, subst, sym, ◌∙◌, ◌≤◌}
use Rattle.std.proofs.lemmas.Int.{to_z-of_z}
use Rattle.std.proofs.lemmas.Result.{on_ok_weaker}
use mir.Syntax.{w64}
use mir.Val.{SFits}
use Rattle.definitions.specs.Query as definitions
use Rattle.query_trees.specs.Queries.{clauses_of}
use Rattle.segment_reader.specs.SegmentReaders.{max_doc_of}
use Rattle.weights.proofs.FedLaws.{fed_answers, fed_within}
use Rattle.weights.proofs.TreeLaws.{weighed_accepted}
use Rattle.weights.proofs.boolean_weight.BooleanWeightWeight.for_each_pruning.Goals as goal

pub feed_clauses-requires : goal.feed_clauses-requires
feed_clauses-requires g c κs =
    let w = c.args.self.now in
    let q = definitions.boolean (clauses_of w.clauses.now) w.minimum_number_should_match in
    let fits : SFits w64 c.args.threshold = search rules in
    let accepted = weighed_accepted (g.W.LeafWeights.similarity w.weights) (g.W.LeafWeights.similarity c.new-forms.result.weights.now) 1 1 q q (ap g.W.LeafWeights.similarity c.new-forms.ensures.weights) refl refl c.requires.accepted in
    let room = subst (λ r. max_doc_of r ≤ g.K.Sink.room c.args.sink.now) (sym c.new-forms.ensures.segment) c.requires.room in
    (search rules, (accepted, (to_z-of_z w64 c.args.threshold fits ∙ c.requires.threshold, room)))

pub returns-clause-fed : goal.returns-clause-fed
returns-clause-fed g c schema analyze sim docs stands by passes =
    let w = c.args.self.now in
    let q = definitions.boolean (clauses_of w.clauses.now) w.minimum_number_should_match in
    on_ok_weaker c.feed_clauses.result (fed_answers g.K.Sink.limit g.K.Sink.taken (g.K.Sink.state c.args.sink.now) 1 q (g.K.Sink.state c.feed_clauses.new.sink) _ sim _ c.args.reader.now (ap g.W.LeafWeights.similarity c.new-forms.ensures.weights ∙ sym by) c.new-forms.ensures.segment schema analyze docs stands passes) c.feed_clauses.ensures.fed

pub returns-clause-listed : goal.returns-clause-listed
returns-clause-listed g c =
    let w = c.args.self.now in
    let q = definitions.boolean (clauses_of w.clauses.now) w.minimum_number_should_match in
    on_ok_weaker c.feed_clauses.result (fed_within g.K.Sink.limit g.K.Sink.taken (g.K.Sink.state c.args.sink.now) 1 q (g.K.Sink.state c.feed_clauses.new.sink) _ _ c.args.reader.now c.new-forms.ensures.segment) c.feed_clauses.ensures.fed
