use Rattle.std.proofs.Common.{ap, map, subst, sym, ◌∙◌}
use Rattle.std.proofs.lemmas.Result.{err_from_is_err_and}
use Rattle.std.specs.List.{AllByRecursion}
use Rattle.definitions.proofs.Ranking.{All_weaker}
use Rattle.query_trees.specs.Queries.{query_of}
use Rattle.segment_search.proofs.BestFound.{best_scanned, best_within}
use Rattle.segment_search.proofs.Flagging.{flagged_kept}
use Rattle.segment_search.proofs.HitsRead.{held_alive}
use Rattle.segment_search.specs.Answered.{AreBest}
use Rattle.segment_search.specs.Hits.{IsHeld}
use Rattle.segment_search.specs.Best.{IsFound, address_of}
use Rattle.segment_search.proofs.searches.search_counted.Goals as goal

pub read_hits-requires : goal.read_hits-requires
read_hits-requires g c =
    let segments = c.args.segments.now in
    let sets = c.args.alive.now in
    let found = subst (AllByRecursion (IsFound sets)) (sym c.deref.ensures.value) c.in_ok-best.ensures.found in
    record { held = All_weaker (IsFound sets) (IsHeld segments) (held_alive segments sets c.requires.flagged) c.deref.result.now found }

pub returns-clause-ok : goal.returns-clause-ok
returns-clause-ok g c analyze docs stands =
    let schema = c.args.schema.now in
    let sets = c.args.alive.now in
    let sim = g.S.Statistics.similarity c.args.statistics.now in
    let q = query_of c.args.query.now in
    let found = subst (AllByRecursion (IsFound sets)) (sym c.deref.ensures.value) c.in_ok-best.ensures.found in
    let addresses = ap (map address_of) c.deref.ensures.value ∙ c.in_ok-best.ensures.best analyze docs stands in
    let scanned = best_scanned schema analyze docs c.args.segments.now sets stands c.requires.flagged sim q c.args.limit c.deref.result.now found addresses in
    c.in_ok-hits.ensures.hits analyze docs stands ∙ scanned

pub returns-in_err-hits-clause-refused : goal.returns-in_err-hits-clause-refused
returns-in_err-hits-clause-refused g c analyze docs stands =
    let schema = c.args.schema.now in
    let sets = c.args.alive.now in
    let sim = g.S.Statistics.similarity c.args.statistics.now in
    let q = query_of c.args.query.now in
    let found = subst (AllByRecursion (IsFound sets)) (sym c.deref.ensures.value) c.in_ok-best.ensures.found in
    let addresses = ap (map address_of) c.deref.ensures.value ∙ c.in_ok-best.ensures.best analyze docs stands in
    let within = best_within schema analyze docs c.args.segments.now sets stands c.requires.flagged sim q c.args.limit c.deref.result.now found addresses in
    let told = c.in_err-hits.ensures.fault analyze docs stands within in
    let e = err_from_is_err_and c.from_residual-in_err-hits.result c.from_residual-in_err-hits.ensures.1 in
    rw (e.1, e.2) (λ other. absurd (other told))

pub returns-clause-flagged : goal.returns-clause-flagged
returns-clause-flagged g c = flagged_kept c.args.segments.now c.read_hits.new.segments c.args.alive.now c.read_hits.ensures.kept.counts c.requires.flagged

pub returns-in_err-hits-clause-flagged : goal.returns-in_err-hits-clause-flagged
returns-in_err-hits-clause-flagged g c = flagged_kept c.args.segments.now c.read_hits.new.segments c.args.alive.now c.read_hits.ensures.kept.counts c.requires.flagged

pub returns-clause-answered : goal.returns-clause-answered
returns-clause-answered g c = record {
  found = c.deref.result.now;
  best = subst (AreBest c.args.alive.now c.args.limit) (sym c.deref.ensures.value) c.in_ok-best.ensures.any;
  shown = c.in_ok-hits.ensures.shown;
}
