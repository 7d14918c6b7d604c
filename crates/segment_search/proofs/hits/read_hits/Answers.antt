use Rattle.std.proofs.Common.{[], ap, arith, map, ◌∙◌, ◌∷◌}
use Rattle.best_k.specs.Kept.{ScoredAddress}
use Rattle.std.proofs.lemmas.List.{map-append}
use Rattle.segment_search.proofs.AnswersGiven.{shows_next, shows_whole}
use Rattle.segment_search.proofs.HitsRead.{held_kept, kept_then, one_at, read_next}
use Rattle.segment_search.specs.Hits.{IsHeld, shown_hit, shown_of}
use Rattle.segment_search.proofs.hits.read_hits.Goals as goal

pub read_hit-requires : goal.read_hit-requires
read_hit-requires c =
    let segments = c.args.segments.now in
    let l = c.loop-found in
    record { held = held_kept segments l.segments _ l.invariant.kept.counts (one_at (IsHeld segments) _ c.args.best.now l.found-index c.requires.held c.loop-found-test.true) }

-- src/hits.rt:48:19
pub returns-in_err-read_hit-clause-kept : goal.returns-in_err-read_hit-clause-kept
returns-in_err-read_hit-clause-kept c = kept_then c.args.segments.now c.loop-found.segments c.read_hit.new.segments c.loop-found.invariant.kept c.read_hit.ensures.kept

-- src/hits.rt:48:9
pub returns-in_err-push-clause-kept : goal.returns-in_err-push-clause-kept
returns-in_err-push-clause-kept c = kept_then c.args.segments.now c.loop-found.segments c.read_hit.new.segments c.loop-found.invariant.kept c.read_hit.ensures.kept

-- src/hits.rt:47:5
pub loop-found-preserved : goal.loop-found-preserved
loop-found-preserved c =
    let l = c.loop-found in
    let schema = c.args.schema.now in
    let show = shown_hit schema in
    let other : ScoredAddress = (0, 0, 0) in
    record {
      hits = λ analyze docs stands.
          let told = c.in_ok-read_hit.ensures.hit analyze docs (l.invariant.kept.stands schema analyze docs stands) in
          read_next show (shown_of schema docs) l.hits.items c.push.new.self.items c.args.best.now l.found-index c.in_ok-read_hit.field-0 other (map (shown_of schema docs) c.args.best.now) c.in_ok-push.ensures.items told c.loop-found-test.true (l.invariant.hits analyze docs stands);
      shown = shows_next schema c.args.segments.now l.segments c.args.best.now l.found-index other (map show l.hits.items) (map show c.push.new.self.items) (show c.in_ok-read_hit.field-0) c.loop-found-test.true (ap (map show) c.in_ok-push.ensures.items ∙ map-append show l.hits.items (c.in_ok-read_hit.field-0 ∷ [])) l.invariant.kept c.in_ok-read_hit.ensures.shown l.invariant.shown;
      kept = kept_then c.args.segments.now l.segments c.read_hit.new.segments l.invariant.kept c.read_hit.ensures.kept;
    }

pub returns-clause-shown : goal.returns-clause-shown
returns-clause-shown c =
    let l = c.loop-found in
    let past = c.loop-found-test.false in
    shows_whole c.args.schema.now c.args.segments.now c.args.best.now l.found-index (map (shown_hit c.args.schema.now) l.hits.items) (omega (arith, past)) l.invariant.shown
