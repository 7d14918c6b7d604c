use Rattle.std.proofs.Common.{refl}
use Rattle.std.proofs.lemmas.Result.{IfOk-weaker}
use Rattle.definitions.proofs.Lists.{emptied}
use Rattle.index_state.proofs.NothingDeleted.{all_counted, all_flagged, all_left}
use Rattle.index_state.proofs.commit_record.commit_record.Goals as goal

pub returns-then-is_empty-clause-flagged : goal.returns-then-is_empty-clause-flagged
returns-then-is_empty-clause-flagged c =
    let behind = c.record_in_place.ensures.behind in
    IfOk-weaker c.record_in_place.result _ _ (λ prepared are. all_flagged c.args.segments.now.items behind.0 c.record_in_place.new.segments.items c.args.alive.now prepared.alive.items behind.1 c.requires.each are c.requires.flagged) c.record_in_place.ensures.sets

pub returns-then-is_empty-clause-each : goal.returns-then-is_empty-clause-each
returns-then-is_empty-clause-each c =
    let behind = c.record_in_place.ensures.behind in
    IfOk-weaker c.record_in_place.result _ _ (λ prepared are. all_counted c.args.segments.now.items behind.0 c.record_in_place.new.segments.items c.args.alive.now prepared.alive.items behind.1 c.requires.each are) c.record_in_place.ensures.sets

pub returns-then-is_empty-clause-rows : goal.returns-then-is_empty-clause-rows
returns-then-is_empty-clause-rows c =
    let behind = c.record_in_place.ensures.behind in
    let none = emptied c.args.deletions.now _ _ refl c.is_empty.ensures c.if-is_empty.true in
    IfOk-weaker c.record_in_place.result _ _ (λ prepared are. all_left c.args.segments.now.items behind.0 c.record_in_place.new.segments.items c.args.alive.now prepared.alive.items behind.1 c.requires.each are c.args.deletions.now none) c.record_in_place.ensures.sets
