use Rattle.docsets.specs.Bounds.{Covers}
use Rattle.std.proofs.Common.{List, ap, ap₂, arith, false, length, min, nat_lt, pos, rules, subst, sym, to_z-of_z, true, w64, ◌+◌, ◌∙◌, ◌≡◌, ◌≤◌, ◌≤ℤ◌}
use Rattle.std.specs.Prelude.{int_lt}
use mir.Val.{SFits}
use Rattle.definitions.specs.Blocks.{block_len}
use Rattle.definitions.specs.Postings.{terminated}
use Rattle.definitions.specs.Sinks.{fed}
use Rattle.docsets.proofs.EntryLaws.{first_at_most, from-first, from-from}
use Rattle.docsets.specs.Entries.{Entry, from}
use Rattle.docsets.specs.EntryLaws.{Rising-from}
use Rattle.docsets.specs.ScoredEntries.{pairs_of}
use Rattle.walks.proofs.BlockWalks.{block_decoded, block_fed, block_left_out, comes_first, comes_next, counted, low_fed, next_begins, next_of_block, next_of_stayed, not_less, nothing_to_come, some_found, split_block, starts, tail_of}
use Rattle.walks.proofs.EntryCuts.{fed_cut, length-from, none_behind}
use Rattle.walks.proofs.ScorerBlocks.{IsSameBlock, stands_from}
use Rattle.walks.specs.BlocksLeft.{docs_held, skips_found, up_to}
use Rattle.segment_postings.specs.Reading.{below}
use Rattle.term_scorer.specs.BlockScores.{block_score, until_of}
use Rattle.term_scorer.specs.ScoredTerms.{scored_left, similarity_of}
use Rattle.term_scorer.specs.ScoredTermsLaws.{rising_scored}
use Rattle.walks.proofs.term_walk.block_wand_single_scorer.Goals as goal

pub loop-target-init : goal.loop-target-init
loop-target-init g c =
    let es = scored_left c.args.scorer.now in
    let rises = rising_scored c.args.scorer.now in
    let at = c.doc-target.ensures in
    let whole : from c.doc-target.result es ≡ es = from-first c.doc-target.result 0 es (omega (arith, at)) rises in
    let room = c.requires.room in
    let len = ap length whole in
    let most = first_at_most 0 es rises in
    let count = comes_first g.K.Sink.limit g.K.Sink.taken (g.K.Sink.state c.args.sink.now) c.doc-target.result c.args.scorer.now at in
    record {
      limit = to_z-of_z c.ranges.threshold ∙ c.requires.threshold;
      room = omega (arith, room, len);
      small = omega (arith, at, most);
      begins = λ on. rw at (starts c.args.scorer.now (omega (arith, at, on)));
      fed = ap (λ (xs : List Entry). fed g.K.Sink.limit g.K.Sink.taken (g.K.Sink.state c.args.sink.now) (pairs_of xs)) whole;
      counted = omega (arith, count);
    }

pub loop-target-preserved-then-block_max_score-threshold : goal.loop-target-preserved-then-block_max_score-threshold
loop-target-preserved-then-block_max_score-threshold g c =
    let limit = g.K.Sink.limit in
    let taken = g.K.Sink.taken in
    let target = c.loop-target.target in
    let until = c.next_doc-until.result in
    let here = c.loop-target.scorer in
    let looked = c.seek_block.new.self in
    let after = c.feed_block-threshold.new.scorer in
    let es = scored_left here in
    let s = g.K.Sink.state c.loop-target.sink in
    let next = g.K.Sink.state c.feed_block-threshold.new.sink in
    let found = skips_found looked in
    let more = c.loop-target-test.true in
    let stop = c.next_doc-until.ensures in
    let end : until ≡ until_of found = stop ∙ ap (λ n. min terminated (n + 1)) c.last_doc_in_block.ensures in
    let ahead = c.seek_block.ensures.ahead in
    let far : target ≤ until = omega (arith, ahead, more, end) in
    let reached = c.seek_block.ensures.reached in
    let ends = c.seek_block.ensures.ends in
    let split = split_block target until here found (c.loop-target.invariant.begins more) far end reached ends in
    let stayed = c.seek_block.ensures.stayed in
    let same : IsSameBlock here looked = record { docs = stayed.docs; skips = stayed.entries; decoded = stayed.decoded; similarity = c.seek_block.ensures.similarity } in
    let block = stands_from target here looked after same c.feed_block-threshold.ensures.block in
    let given : next ≡ fed limit taken s (pairs_of (up_to until (from target es))) = c.feed_block-threshold.ensures.state ∙ ap (λ (xs : List Entry). fed limit taken s (pairs_of (up_to until (from target xs)))) c.seek_block.ensures.same in
    let left : from until (scored_left after) ≡ from until es = c.feed_block-threshold.ensures.left ∙ ap (from until) c.seek_block.ensures.same in
    let fits : SFits w64 c.block_max_score.result = search rules in
    let next_fits : SFits w64 c.feed_block-threshold.result = search rules in
    let bound = to_z-of_z fits ∙ (c.block_max_score.ensures ∙ ap (λ sim. pos (block_score sim found)) same.similarity) in
    let above : int_lt (limit s) (pos (block_score (similarity_of here) found)) ≡ true = ap₂ int_lt (sym c.loop-target.invariant.limit) (sym bound) ∙ c.if-block_max_score-threshold.true in
    let behind = next_of_block target until found here after end reached ends block in
    let come = comes_next limit taken next until found here after end block.similarity left behind in
    let exact = block_fed limit taken s next (nat_lt (below target (docs_held here)) block_len) (block_score (similarity_of here) found) _ (pairs_of (up_to until (from target es))) (tail_of (similarity_of here) found (from until es)) given above (block_decoded target until here after found split block) in
    let was = ap (counted limit taken s (nat_lt (below target (docs_held here)) block_len)) split.blocks in
    let decoded = block.decoded in
    let so_far = c.loop-target.invariant.counted in
    record {
      limit = to_z-of_z next_fits ∙ c.feed_block-threshold.ensures.next;
      room = c.feed_block-threshold.ensures.room;
      small = omega (arith, stop);
      begins = λ on. next_begins until found after (behind (some_found found (omega (arith, on, end))));
      fed = ap (λ (xs : List Entry). fed limit taken next (pairs_of xs)) left
          ∙ (ap (λ u. fed limit taken u (pairs_of (from until es))) given
          ∙ (ap (λ (xs : List Entry). fed limit taken (fed limit taken s (pairs_of (up_to until (from target es)))) (pairs_of xs)) (sym (from-from target until es far))
          ∙ (fed_cut limit taken s until 0 (from target es) (Rising-from target 0 es (rising_scored here))
          ∙ c.loop-target.invariant.fed)));
      counted = omega (arith, come, exact, was, decoded, so_far);
    }

pub loop-target-preserved : goal.loop-target-preserved
loop-target-preserved g c =
    let limit = g.K.Sink.limit in
    let taken = g.K.Sink.taken in
    let target = c.loop-target.target in
    let until = c.next_doc-until.result in
    let here = c.loop-target.scorer in
    let looked = c.seek_block.new.self in
    let es = scored_left here in
    let s = g.K.Sink.state c.loop-target.sink in
    let found = skips_found looked in
    let bound = block_score (similarity_of looked) found in
    let more = c.loop-target-test.true in
    let stop = c.next_doc-until.ensures in
    let end : until ≡ until_of found = stop ∙ ap (λ n. min terminated (n + 1)) c.last_doc_in_block.ensures in
    let ahead = c.seek_block.ensures.ahead in
    let far : target ≤ until = omega (arith, ahead, more, end) in
    let reached = c.seek_block.ensures.reached in
    let ends = c.seek_block.ensures.ends in
    let split = split_block target until here found (c.loop-target.invariant.begins more) far end reached ends in
    let stayed = c.seek_block.ensures.stayed in
    let fits : SFits w64 c.block_max_score.result = search rules in
    let low : pos bound ≤ℤ limit s = subst (λ u. pos bound ≤ℤ u) c.loop-target.invariant.limit (not_less _ _ (pos bound) c.if-block_max_score-threshold.false (to_z-of_z fits ∙ c.block_max_score.ensures)) in
    let under : int_lt (limit s) (pos (block_score (similarity_of here) found)) ≡ false = ap₂ int_lt (sym c.loop-target.invariant.limit) (sym (to_z-of_z fits ∙ (c.block_max_score.ensures ∙ ap (λ sim. pos (block_score sim found)) c.seek_block.ensures.similarity))) ∙ c.if-block_max_score-threshold.false in
    let same : fed limit taken s (pairs_of (up_to until (from target es))) ≡ s = low_fed limit taken s bound target until es low (subst (λ u. Covers target u bound es) (sym end) (c.seek_block.ensures.covers more)) in
    let left : from until (scored_left looked) ≡ from until es = ap (from until) c.seek_block.ensures.same in
    let behind = next_of_stayed target until found here looked end reached ends stayed.docs stayed.entries in
    let come = comes_next limit taken s until found here looked end c.seek_block.ensures.similarity left behind in
    let out = block_left_out limit taken s (nat_lt (below target (docs_held here)) block_len) (block_score (similarity_of here) found) (pairs_of (up_to until (from target es))) (tail_of (similarity_of here) found (from until es)) same under in
    let was = ap (counted limit taken s (nat_lt (below target (docs_held here)) block_len)) split.blocks in
    let decoded = stayed.decoded in
    let so_far = c.loop-target.invariant.counted in
    let room = c.loop-target.invariant.room in
    let fewer = length-from until (from target es) in
    let cut = ap length (from-from target until es far) in
    let len = ap length left in
    record {
      limit = c.loop-target.invariant.limit;
      room = omega (arith, room, fewer, cut, len);
      small = omega (arith, stop);
      begins = λ on. next_begins until found looked (behind (some_found found (omega (arith, on, end))));
      fed = ap (λ (xs : List Entry). fed limit taken s (pairs_of xs)) left
          ∙ (ap (λ u. fed limit taken u (pairs_of (from until es))) (sym same)
          ∙ (ap (λ (xs : List Entry). fed limit taken (fed limit taken s (pairs_of (up_to until (from target es)))) (pairs_of xs)) (sym (from-from target until es far))
          ∙ (fed_cut limit taken s until 0 (from target es) (Rising-from target 0 es (rising_scored here))
          ∙ c.loop-target.invariant.fed)));
      counted = omega (arith, come, out, was, decoded, so_far);
    }

pub returns-clause-state : goal.returns-clause-state
returns-clause-state g c =
    let es = scored_left c.loop-target.scorer in
    let late = c.loop-target-test.false in
    let none = none_behind c.loop-target.target 0 es (omega (arith, late)) (rising_scored c.loop-target.scorer) in
    sym (ap (λ (xs : List Entry). fed g.K.Sink.limit g.K.Sink.taken (g.K.Sink.state c.loop-target.sink) (pairs_of xs)) none) ∙ c.loop-target.invariant.fed

pub returns-clause-counted : goal.returns-clause-counted
returns-clause-counted g c =
    let none = nothing_to_come g.K.Sink.limit g.K.Sink.taken (g.K.Sink.state c.loop-target.sink) c.loop-target.target c.loop-target.scorer (omega (arith, c.loop-target-test.false)) in
    let so_far = c.loop-target.invariant.counted in
    omega (arith, none, so_far)
