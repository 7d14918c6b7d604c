use Rattle.std.proofs.Common.{List, ap, arith, length, map, sym, ◌∙◌, ◌≡◌}
use Rattle.definitions.proofs.Lists.{emptied}
use Rattle.definitions.specs.Sinks.{fed}
use Rattle.docsets.specs.Entries.{Entry}
use Rattle.docsets.specs.Members.{enough}
use Rattle.docsets.specs.ScoredEntries.{pairs_of}
use Rattle.intersections.specs.Differences.{without}
use Rattle.joint_walks.proofs.ClauseLists.{without_agree, without_none}
use Rattle.joint_walks.proofs.joint_walks.feed_without.Goals as goal

pub for_each_pruning_scorer-requires-clause-room : goal.for_each_pruning_scorer-requires-clause-room
for_each_pruning_scorer-requires-clause-room g c =
    let es = g.D.DocSet.entries c.args.scorer in
    let none = emptied c.args.must_nots.items _ _ (sym c.args.must_nots.ok.0) c.is_empty.ensures c.if-is_empty.true in
    let all : without (enough 1 (map g.N.DocSet.entries c.args.must_nots.items)) es ≡ es = ap (λ xs. without (enough 1 (map g.N.DocSet.entries xs)) es) none ∙ without_none es in
    let long = ap length all in
    let room = c.requires.room in
    omega (arith, long, room)

pub returns-then-is_empty : goal.returns-then-is_empty
returns-then-is_empty g c =
    let es = g.D.DocSet.entries c.args.scorer in
    let none = emptied c.args.must_nots.items _ _ (sym c.args.must_nots.ok.0) c.is_empty.ensures c.if-is_empty.true in
    let all : without (enough 1 (map g.N.DocSet.entries c.args.must_nots.items)) es ≡ es = ap (λ xs. without (enough 1 (map g.N.DocSet.entries xs)) es) none ∙ without_none es in
    c.for_each_pruning_scorer.ensures.state ∙ ap (λ xs. fed g.K.Sink.limit g.K.Sink.taken (g.K.Sink.state c.args.sink.now) (pairs_of xs)) (sym all)

pub for_each_pruning_scorer-requires-2-clause-room : goal.for_each_pruning_scorer-requires-2-clause-room
for_each_pruning_scorer-requires-2-clause-room g c =
    let es = g.D.DocSet.entries c.args.scorer in
    let long = ap (λ (xs : List Entry). length xs) (c.new-scorer.ensures ∙ without_agree _ (enough 1 (map g.N.DocSet.entries c.args.must_nots.items)) 0 es (g.met.D.DocSet.rising c.args.scorer) c.new.ensures.excludes) in
    let room = c.requires.room in
    omega (arith, long, room)

pub returns : goal.returns
returns g c =
    let es = g.D.DocSet.entries c.args.scorer in
    c.for_each_pruning_scorer-2.ensures.state
    ∙ ap (λ xs. fed g.K.Sink.limit g.K.Sink.taken (g.K.Sink.state c.args.sink.now) (pairs_of xs)) (c.new-scorer.ensures ∙ without_agree _ (enough 1 (map g.N.DocSet.entries c.args.must_nots.items)) 0 es (g.met.D.DocSet.rising c.args.scorer) c.new.ensures.excludes)
