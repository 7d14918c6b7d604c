use Rattle.std.proofs.Common.{ap, arith, cond, drop, false, length, min, nat_lt, refl, sym, true, ◌*◌, ◌+◌, ◌/◌, ◌<◌, ◌∙◌, ◌≡◌}
use Rattle.std.proofs.Math.Logic.{∥∥₁_map}
use Rattle.std.proofs.lemmas.Bool.Decides.{nat_tests}
use Rattle.codes.specs.UnpackedBlocks.{listed}
use Rattle.segment_postings.proofs.BoundedCounts.{still_told}
use Rattle.segment_postings.proofs.EntryMoves.{block_on, one_on, single_on}
use Rattle.segment_postings.specs.Cursors.{counts_left, docs_left, entries_left, skips_left, skips_reached}
use Rattle.segment_postings.specs.TermEntries.{entries_from}
use Rattle.segment_postings.proofs.segment_postings.SegmentPostingsDocSet.advance.Goals.{After-advance, Else-self-eq127}
use Rattle.segment_postings.proofs.segment_postings.SegmentPostingsDocSet.advance.Goals as goal

over : (c : After-advance) → entries_from 0 c.advance.new.self.skips.position_offset (docs_left c.advance.new.self) (counts_left c.advance.new.self) (listed c.args.self.now.positions) ≡ drop 1 (entries_left c.args.self.now)
over c = block_on c.args.self.now.cur c.args.self.now.blocks.skips.position_offset c.advance.new.self.skips.position_offset (docs_left c.args.self.now.blocks) (counts_left c.args.self.now.blocks) (docs_left c.advance.new.self) (counts_left c.advance.new.self) c.args.self.now.positions c.if-self-eq127.true c.advance.ensures.docs c.advance.ensures.counts (λ some. c.advance.ensures.offset (c.args.self.now.placed some))

on : (c : Else-self-eq127) → entries_from (c.args.self.now.cur + 1) c.args.self.now.blocks.skips.position_offset (docs_left c.args.self.now.blocks) (counts_left c.args.self.now.blocks) (listed c.args.self.now.positions) ≡ drop 1 (entries_left c.args.self.now)
on c = one_on c.args.self.now.cur c.args.self.now.blocks.skips.position_offset (docs_left c.args.self.now.blocks) (counts_left c.args.self.now.blocks) (listed c.args.self.now.positions)

pub invariant_of-self : goal.invariant_of-self
invariant_of-self c =
    let is = over (goal.at.invariant_of-self c).After-advance in
    let kept = c.advance.ensures.kept.2 in
    record {
      inside = omega arith;
      placed = λ some. kept ∙ c.args.self.now.placed some;
      told = λ some. ∥∥₁_map (c.args.self.now.told some) (still_told 1 _ c.args.self.now.blocks.skips c.advance.new.self.skips (counts_left c.args.self.now.blocks) (counts_left c.advance.new.self) c.advance.ensures.entries c.advance.ensures.counts (c.advance.ensures.room (c.args.self.now.placed some)));
      of_one_term = single_on (entries_left c.args.self.now) _ is c.args.self.now.of_one_term;
    }

pub invariant_of-self-2 : goal.invariant_of-self-2
invariant_of-self-2 c =
    let is = on (goal.at.invariant_of-self-2 c).Else-self-eq127 in
    let inside = c.args.self.now.inside in
    record {
      inside = omega (arith, inside, c.if-self-eq127.false);
      placed = c.args.self.now.placed;
      told = c.args.self.now.told;
      of_one_term = single_on (entries_left c.args.self.now) _ is c.args.self.now.of_one_term;
    }

pub returns-then-self-eq127-clause-rest : goal.returns-then-self-eq127-clause-rest
returns-then-self-eq127-clause-rest c = over (goal.at.returns-then-self-eq127-clause-rest c).After-advance

pub returns-clause-rest : goal.returns-clause-rest
returns-clause-rest c = on (goal.at.returns-clause-rest c).Else-self-eq127

-- ---- to which index

pub returns-then-self-eq127-clause-moved : goal.returns-then-self-eq127-clause-moved
returns-then-self-eq127-clause-moved c =
    let index = c.args.self.now.cur + 1 in
    let last = c.if-self-eq127.true in
    let one : 1 ≡ index / 128 = omega (arith, last) in
    let block : 128 ≡ 128 * (index / 128) = omega (arith, last) in
    let no : nat_lt index 128 ≡ false = (let past : index ≡ 128 = omega (arith, last) in grind (arith, nat_tests)) in
    let more = ap (λ b. cond b 0 (min 1 (length (docs_left c.advance.new.self)))) no in
    let count = c.advance.ensures.decoded in
    record {
      index_is = omega (arith, last);
      docs = c.advance.ensures.docs ∙ ap (λ k. drop k (docs_left c.args.self.now.blocks)) block;
      counts = c.advance.ensures.counts ∙ ap (λ k. drop k (counts_left c.args.self.now.blocks)) block;
      entries = c.advance.ensures.entries ∙ ap (λ k. drop k c.args.self.now.blocks.skips.left) one;
      decoded = omega (arith, more, count);
      doc_freq = c.advance.ensures.kept.0;
      positions = refl;
    }

pub returns-clause-moved : goal.returns-clause-moved
returns-clause-moved c =
    let index = c.args.self.now.cur + 1 in
    let inside = c.args.self.now.inside in
    let other = c.if-self-eq127.false in
    let within : index < 128 = omega (arith, inside, other) in
    let none : 0 ≡ index / 128 = omega (arith, within) in
    let start : 0 ≡ 128 * (index / 128) = omega (arith, within) in
    let yes : nat_lt index 128 ≡ true = grind (arith, nat_tests) in
    let more = ap (λ b. cond b 0 (min 1 (length (docs_left c.args.self.now.blocks)))) yes in
    record {
      index_is = omega (arith, within);
      docs = ap (λ k. drop k (docs_left c.args.self.now.blocks)) start;
      counts = ap (λ k. drop k (counts_left c.args.self.now.blocks)) start;
      entries = ap (λ k. drop k c.args.self.now.blocks.skips.left) none;
      decoded = omega (arith, more);
      doc_freq = refl;
      positions = refl;
    }

-- ---- which block is reached

pub returns-then-self-eq127-clause-reached : goal.returns-then-self-eq127-clause-reached
returns-then-self-eq127-clause-reached c =
    let last = c.if-self-eq127.true in
    let no : nat_lt (c.args.self.now.cur + 1) 128 ≡ false = (let past : c.args.self.now.cur + 1 ≡ 128 = omega (arith, last) in grind (arith, nat_tests)) in
    c.advance.ensures.reached ∙ sym (ap (λ b. cond b (skips_reached c.args.self.now.blocks) (skips_left c.advance.new.self)) no)

pub returns-clause-reached : goal.returns-clause-reached
returns-clause-reached c =
    let inside = c.args.self.now.inside in
    let other = c.if-self-eq127.false in
    let within : c.args.self.now.cur + 1 < 128 = omega (arith, inside, other) in
    let yes : nat_lt (c.args.self.now.cur + 1) 128 ≡ true = grind (arith, nat_tests) in
    sym (ap (λ b. cond b (skips_reached c.args.self.now.blocks) (skips_left c.args.self.now.blocks)) yes)
