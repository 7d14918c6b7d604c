use Rattle.std.proofs.Common.{map, refl}
use Rattle.definitions.specs.Calls as calls
use Rattle.engine.specs.Hits.{hit_of}
use Rattle.engine.specs.Indexes.{IndexStands}
use Rattle.histories.proofs.Calling.{found_so, kept_called, no_limit, read_stands, tests_alone, told_limit, told_own}
use Rattle.histories.specs.Calls.{hits, outcome_of}
use Rattle.query_trees.specs.Queries.{query_of}
use Rattle.histories.proofs.calls.search.Goals as goal

pub returns : goal.returns
returns g c =
    let analyze = g.A.Analyzer.analyze in
    let new = c.search.new.self in
    let call = calls.search_best (query_of c.args.query.now) c.args.k in
    let result = c.search.result in
    let made = c.search.ensures in
    kept_called analyze g.met.D.Device.only_now c.args.index.now new call (outcome_of (λ found. hits (map hit_of found.items)) result)
    (λ k x s. read_stands (λ found. hits (map hit_of found.items)) result k x call (IndexStands analyze new k) refl refl (found_so (λ found. map hit_of found.items) result k x (query_of c.args.query.now) c.args.k (made.ok k x s)) (made.err k x s) (made.own k x s) (made.left k x s))
    (λ k x s. told_own (λ found. hits (map hit_of found.items)) k x call result (tests_alone k x call result (made.err k x s)))
    (λ k x s. told_limit (λ found. hits (map hit_of found.items)) result ⊥ (no_limit k x call result ⊥ (made.err k x s)))
    made.made made.file
