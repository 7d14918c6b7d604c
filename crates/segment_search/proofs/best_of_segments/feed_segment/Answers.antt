use Rattle.std.proofs.Common.{Some, ap, map, slice_get, subst, sym, ◌++◌, ◌∙◌, ◌≡◌}
use Rattle.std.proofs.lemmas.Result.{IfOk-weaker, on_ok_weaker}
use Rattle.std.specs.List.{AllByRecursion}
use Rattle.best_k.proofs.Feeding.{fed_best}
use Rattle.best_k.specs.Contents.{best_in}
use Rattle.best_k.specs.Kept as kept
use Rattle.best_k.specs.Kept.{Best, best_by, living_in, score_of}
use Rattle.definitions.specs.Answers.{answers}
use Rattle.definitions.specs.Merging.{documents_in}
use Rattle.definitions.specs.Sinks.{fed}
use Rattle.definitions.specs.TermBlocks.{scored_blocks}
use Rattle.segment_definitions.specs.Found.{places_in}
use Rattle.segment_search.proofs.BestAddresses.{all_found, segment_addresses, still_wanted}
use Rattle.segment_search.specs.Best.{IsFound, address_of, best_addresses}
use Rattle.segment_search.specs.CountedWeights.{counted_query}
use Rattle.leaf_weights.specs.DecodedBlocks.{decoded_for}
use Rattle.segment_search.proofs.best_of_segments.feed_segment.Goals as goal

pub returns-clause-best : goal.returns-clause-best
returns-clause-best g c schema analyze sim rows has by passes =
    let q = counted_query c.args.weight.now in
    let r = c.args.reader.now in
    let room = c.reserve.new.self in
    let same = c.reserve.ensures.same in
    let alive = ap (λ (b : Best). b.alive) same ∙ c.requires.alive in
    on_ok_weaker c.for_each_pruning_counted.result (λ is. subst (λ (b : Best). map address_of (best_in c.for_each_pruning_counted.new.sink).hits ≡ best_addresses b.wanted (map address_of b.hits ++ places_in schema analyze sim q b.segment rows)) same (segment_addresses schema analyze sim q rows r (best_in room) (best_in c.for_each_pruning_counted.new.sink) room.falls room.few alive has is)) (c.for_each_pruning_counted.ensures.fed schema analyze sim (documents_in rows) has.stands by passes)

pub returns-clause-found : goal.returns-clause-found
returns-clause-found g c sets at found =
    let room = c.reserve.new.self in
    let same = c.reserve.ensures.same in
    let there = subst (λ (b : Best). slice_get sets b.segment ≡ Some b.alive) (sym same) at in
    let before = subst (λ (b : Best). AllByRecursion (IsFound sets) b.hits) (sym same) found in
    on_ok_weaker c.for_each_pruning_counted.result (λ listed. all_found sets (best_in room) (best_in c.for_each_pruning_counted.new.sink) listed.pairs room.falls room.few there listed.ascend listed.fed before) c.for_each_pruning_counted.ensures.listed

pub returns-clause-wanted : goal.returns-clause-wanted
returns-clause-wanted g c =
    let room = c.reserve.new.self in
    on_ok_weaker c.for_each_pruning_counted.result (λ listed. still_wanted (best_in room) (best_in c.for_each_pruning_counted.new.sink) listed.pairs listed.fed ∙ ap (λ (b : Best). b.wanted) c.reserve.ensures.same) c.for_each_pruning_counted.ensures.listed

pub returns-clause-fed : goal.returns-clause-fed
returns-clause-fed g c schema analyze sim rows has by passes =
    let pairs = answers schema analyze sim 1 (counted_query c.args.weight.now) (documents_in rows) in
    on_ok_weaker c.for_each_pruning_counted.result (λ is. is ∙ ap (λ (b : Best). fed kept.limit kept.taken b pairs) c.reserve.ensures.same) (c.for_each_pruning_counted.ensures.fed schema analyze sim (documents_in rows) has.stands by passes)

pub returns-clause-counted : goal.returns-clause-counted
returns-clause-counted g c schema analyze sim rows t option has by is =
    let pairs = answers schema analyze sim 1 (counted_query c.args.weight.now) (documents_in rows) in
    let blocks = scored_blocks schema analyze sim 1 t option (documents_in rows) in
    IfOk-weaker c.for_each_pruning_counted.result _ _ (λ n told. told ∙ ap (λ (b : Best). decoded_for kept.limit kept.taken b pairs blocks) c.reserve.ensures.same) (c.for_each_pruning_counted.ensures.counted schema analyze sim (documents_in rows) t option has.stands by is)

pub returns-clause-any : goal.returns-clause-any
returns-clause-any g c =
    let room = c.reserve.new.self in
    let same = c.reserve.ensures.same in
    on_ok_weaker c.for_each_pruning_counted.result (λ listed. record {
      pairs = listed.pairs;
      ascend = listed.ascend;
      best = ap (λ (b : Best). b.hits) listed.fed
          ∙ fed_best (best_in room) listed.pairs (record { falls = room.falls; few = room.few })
          ∙ ap (λ (b : Best). best_by score_of b.wanted (b.hits ++ living_in b.segment b.alive listed.pairs)) same;
    }) c.for_each_pruning_counted.ensures.listed
