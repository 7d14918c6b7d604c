use Rattle.std.proofs.Common.{refl}
use Rattle.definitions.specs.Calls as calls
use Rattle.engine.specs.Indexes.{IndexStands}
use Rattle.histories.proofs.Calling.{counted_so, kept_called, no_limit, read_stands, tests_alone, told_limit, told_own}
use Rattle.histories.specs.Calls.{number, outcome_of}
use Rattle.query_trees.specs.Queries.{query_of}
use Rattle.histories.proofs.calls.count.Goals as goal

pub returns : goal.returns
returns g c =
    let analyze = g.A.Analyzer.analyze in
    let index = c.args.index.now in
    let call = calls.count_all (query_of c.args.query.now) in
    let result = c.count.result in
    let made = c.count.ensures in
    kept_called analyze g.met.D.Device.only_now index index call (outcome_of number result)
    (λ k x s. read_stands number result k x call (IndexStands analyze index k) refl refl (counted_so result k x (query_of c.args.query.now) (made.ok k x s)) (made.err k x s) (made.own k x s) s)
    (λ k x s. told_own number k x call result (tests_alone k x call result (made.err k x s)))
    (λ k x s. told_limit number result ⊥ (no_limit k x call result ⊥ (made.err k x s)))
    (record { analyzer = refl; schema = refl; settings = refl }) (refl, refl, refl)
