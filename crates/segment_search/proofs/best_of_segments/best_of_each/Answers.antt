use Rattle.std.proofs.Common.{Some, ap, ap₂, arith, drop, length, map, refl, rules, slice_get, subst, sym, ◌+◌, ◌++◌, ◌<◌, ◌∙◌, ◌≡◌, ◌≤◌}
use Rattle.std.proofs.lemmas.List.{length-map}
use Rattle.std.proofs.lemmas.Option.{slice_get_read}
use Rattle.std.specs.List.{AllByRecursion}
use Rattle.best_k.specs.Contents.{best_in}
use Rattle.best_k.specs.Kept.{Best, limit, taken}
use Rattle.definitions.proofs.Lists.{nothing_left, zip_length}
use Rattle.definitions.specs.Answers.{answers}
use Rattle.definitions.specs.Merging.{documents_in}
use Rattle.definitions.specs.Query.{term}
use Rattle.definitions.specs.Sinks.{fed}
use Rattle.definitions.specs.TermBlocks.{scored_blocks}
use Rattle.scorer_answers.specs.Rows.{HasRows, flags_in}
use Rattle.segment_definitions.specs.Found.{places_from, places_in}
use Rattle.segment_search.proofs.AnswersGiven.{best_next, best_whole}
use Rattle.segment_search.proofs.BestAddresses.{after_segment, all_segments, flags_there}
use Rattle.segment_search.proofs.BlocksCounted.{all_counted, one_more}
use Rattle.segment_search.proofs.Places.{zip_at}
use Rattle.segment_search.specs.Best.{IsFound, address_of, best_addresses}
use Rattle.segment_search.specs.Counted.{at_segment, blocks_decoded}
use Rattle.segment_search.specs.CountedWeights.{counted_query}
use Rattle.leaf_weights.specs.DecodedBlocks.{decoded_for}
use Rattle.segment_search.proofs.best_of_segments.best_of_each.Goals as goal

pub bounds-alive-segment_ord : goal.bounds-alive-segment_ord
bounds-alive-segment_ord g c =
    let many = ap length c.requires.flags in
    let long = length-map c.args.readers.now flags_in in
    let there = c.loop-segment_ord-test.true in
    omega (arith, many, long, there)

pub feed_segment-requires : goal.feed_segment-requires
feed_segment-requires g c κs =
    let readers = c.args.readers.now in
    let sets = c.args.alive.now in
    let i = c.loop-segment_ord.segment_ord in
    let there = slice_get_read readers (length readers) i c.index-readers-segment_ord.result refl c.loop-segment_ord-test.true c.index-readers-segment_ord.is in
    let alive = ap (λ (b : Best). b.alive) c.enter.ensures.best ∙ flags_there readers sets i c.index-readers-segment_ord.result c.index-alive-segment_ord.result c.requires.flags there c.index-alive-segment_ord.is in
    (search rules, (c.requires.accepted, (c.requires.counts, alive)))

pub loop-segment_ord-preserved : goal.loop-segment_ord-preserved
loop-segment_ord-preserved g c =
    let q = counted_query c.args.weight.now in
    let readers = c.args.readers.now in
    let sets = c.args.alive.now in
    let l = c.loop-segment_ord in
    let i = l.segment_ord in
    let k = c.args.limit in
    let old = best_in l.best in
    let new = best_in c.feed_segment.new.best in
    let entered = c.enter.ensures.best in
    record {
      best = λ schema analyze sim rows zip by passes.
          let found = zip_at (HasRows schema analyze) rows readers i c.index-readers-segment_ord.result zip c.loop-segment_ord-test.true c.index-readers-segment_ord.is in
          let told : map address_of new.hits ≡ best_addresses k (map address_of old.hits ++ places_in schema analyze sim q i found.one) =
          c.in_ok-blocks.ensures.best schema analyze sim found.one found.stands by passes
          ∙ ap (λ (b : Best). best_addresses b.wanted (map address_of b.hits ++ places_in schema analyze sim q b.segment found.one)) entered
          ∙ ap (λ n. best_addresses n (map address_of old.hits ++ places_in schema analyze sim q i found.one)) l.invariant.limit in
          after_segment schema analyze sim q k i found.one (drop i rows) (drop (i + 1) rows) (map address_of old.hits) (map address_of new.hits) (places_from schema analyze sim q 0 rows) found.here told (l.invariant.best schema analyze sim rows zip by passes);
      limit = c.in_ok-blocks.ensures.wanted ∙ ap (λ (b : Best). b.wanted) entered ∙ l.invariant.limit;
      found =
          let many = ap length c.requires.flags in
          let long = length-map readers flags_in in
          let there = c.loop-segment_ord-test.true in
          let inside : i < length sets = omega (arith, many, long, there) in
          let at : slice_get sets i ≡ Some c.index-alive-segment_ord.result = slice_get_read sets (length sets) i c.index-alive-segment_ord.result refl inside c.index-alive-segment_ord.is in
          c.in_ok-blocks.ensures.found sets (subst (λ (b : Best). slice_get sets b.segment ≡ Some b.alive) (sym entered) at) (subst (λ (b : Best). AllByRecursion (IsFound sets) b.hits) (sym entered) l.invariant.found);
      any =
          let many = ap length c.requires.flags in
          let long = length-map readers flags_in in
          let there = c.loop-segment_ord-test.true in
          best_next sets i k c.index-alive-segment_ord.result old (best_in c.enter.new.self) new (omega (arith, many, long, there)) c.index-alive-segment_ord.is entered l.invariant.limit c.in_ok-blocks.ensures.any l.invariant.any;
      counted = λ schema analyze sim rows t option zip by passes is.
          let found = zip_at (HasRows schema analyze) rows readers i c.index-readers-segment_ord.result zip c.loop-segment_ord-test.true c.index-readers-segment_ord.is in
          let docs = documents_in found.one in
          let there = slice_get_read readers (length readers) i c.index-readers-segment_ord.result refl c.loop-segment_ord-test.true c.index-readers-segment_ord.is in
          let flags = flags_there readers sets i c.index-readers-segment_ord.result c.index-alive-segment_ord.result c.requires.flags there c.index-alive-segment_ord.is ∙ sym found.stands.flags_are in
          let at = entered ∙ ap (λ fs. record old { segment = i; alive = fs }) flags in
          let exact : c.in_ok-blocks.blocks ≡ decoded_for limit taken (at_segment i found.one old) (answers schema analyze sim 1 (term t option) docs) (scored_blocks schema analyze sim 1 t option docs) =
          c.in_ok-blocks.ensures.counted schema analyze sim found.one t option found.stands by is
          ∙ ap₂ (λ (b : Best) p. decoded_for limit taken b (answers schema analyze sim 1 p docs) (scored_blocks schema analyze sim 1 t option docs)) at is in
          let now = c.in_ok-blocks.ensures.fed schema analyze sim found.one found.stands by passes ∙ ap (λ (b : Best). fed limit taken b (answers schema analyze sim 1 q docs)) at ∙ ap (λ p. fed limit taken (at_segment i found.one old) (answers schema analyze sim 1 p docs)) is in
          let summed = c.saturating_add-decoded_blocks.ensures in
          one_more schema analyze sim t option old new i found.one (drop i rows) (drop (i + 1) rows) l.decoded_blocks c.in_ok-blocks.blocks c.saturating_add-decoded_blocks.result _ found.here exact now (omega (arith, summed)) (l.invariant.counted schema analyze sim rows t option zip by passes is);
      few = (let summed = c.saturating_add-decoded_blocks.ensures in omega (arith, summed));
      uncounted = λ other.
          let summed = c.saturating_add-decoded_blocks.ensures in
          let before = l.invariant.uncounted other in
          let none = c.in_ok-blocks.ensures.uncounted other in
          omega (arith, summed, before, none);
    }

pub returns-clause-best : goal.returns-clause-best
returns-clause-best g c schema analyze sim rows zip by passes =
    let q = counted_query c.args.weight.now in
    let l = c.loop-segment_ord in
    let past = c.loop-segment_ord-test.false in
    let same = zip_length (HasRows schema analyze) rows c.args.readers.now zip in
    let over : length rows ≤ l.segment_ord = omega (arith, same, past) in
    ap (map address_of) c.into_hits.ensures
    ∙ all_segments schema analyze sim q l.segment_ord c.args.limit (drop l.segment_ord rows) (best_in l.best) (places_from schema analyze sim q 0 rows) l.best.falls l.best.few l.invariant.limit (nothing_left rows l.segment_ord over) (l.invariant.best schema analyze sim rows zip by passes)

pub returns-clause-counted : goal.returns-clause-counted
returns-clause-counted g c schema analyze sim rows t option zip by passes is =
    let l = c.loop-segment_ord in
    let past = c.loop-segment_ord-test.false in
    let same = zip_length (HasRows schema analyze) rows c.args.readers.now zip in
    let none = ap (blocks_decoded schema analyze sim t option (best_in l.best) l.segment_ord) (nothing_left rows l.segment_ord (omega (arith, same, past))) in
    all_counted l.decoded_blocks _ _ l.invariant.few none (l.invariant.counted schema analyze sim rows t option zip by passes is)

pub returns-clause-any : goal.returns-clause-any
returns-clause-any g c =
    let l = c.loop-segment_ord in
    let sets = c.args.alive.now in
    let many = ap length c.requires.flags in
    let long = length-map c.args.readers.now flags_in in
    let past = c.loop-segment_ord-test.false in
    best_whole sets l.segment_ord c.args.limit (best_in l.best).hits c.into_hits.result.items (omega (arith, many, long, past)) c.into_hits.ensures l.invariant.any
