use Rattle.std.proofs.Common.{List, ap, arith, cond, drop, false, length, length-drop, min, nat_lt, subst, sum, sym, take, true, ◌*◌, ◌/◌, ◌<◌, ◌∙◌, ◌≡◌, ◌≤◌, ℕ}
use Rattle.std.proofs.lemmas.Bool.Decides.{nat_tests}
use Rattle.segment_postings.proofs.HeldBlocks.{none_summed}
use Rattle.segment_postings.proofs.Passing.{room_of, below_held, order_held, passes_some, stops_here}
use Rattle.segment_postings.specs.Reading.{Ascends, HasPassed, below, counts_at, docs_at}
use Rattle.segment_postings.proofs.block_segment_postings.BlockSegmentPostings.seek.Goals.{After-find_block-self, Then-target-last_doc_in_block}
use Rattle.segment_postings.proofs.block_segment_postings.BlockSegmentPostings.seek.Goals as goal
use Rattle.segment_postings.specs.TermEntryLaws.{Ascends-behind}

-- ---- the block stays

here : (c : Then-target-last_doc_in_block) → below c.args.target (docs_at c.args.self.now.before c.args.self.now.skips c.args.self.now.bytes.now) < 128
here c =
    let last = c.last_doc_in_block.ensures in
    let late = c.if-target-last_doc_in_block.true in
    stops_here c.args.self.now.reads_counts c.args.self.now.reads_positions c.args.target c.args.self.now.before c.args.self.now.skips c.args.self.now.bytes.now c.args.self.now.stands (omega (arith, last, late))

none : (c : Then-target-last_doc_in_block) → 0 ≡ below c.args.target (docs_at c.args.self.now.before c.args.self.now.skips c.args.self.now.bytes.now) / 128
none c = (let few = here c in omega (arith, few))

held : (c : Then-target-last_doc_in_block) → (below c.args.target c.args.self.now.docs ≡ below c.args.target (docs_at c.args.self.now.before c.args.self.now.skips c.args.self.now.bytes.now)) × (below c.args.target c.args.self.now.docs < 128)
held c = below_held c.args.target c.args.self.now.len c.args.self.now.docs c.args.self.now.counts _ _ c.args.self.now.held c.requires (here c)

pub first_from-requires : goal.first_from-requires
first_from-requires c = record {
  within = (held (goal.at.first_from-requires c).Then-target-last_doc_in_block).1;
  order = order_held c.args.target c.args.self.now.len c.args.self.now.docs c.args.self.now.counts _ _ c.args.self.now.held c.args.self.now.ascends c.requires;
}

pub returns-then-target-last_doc_in_block-clause-docs : goal.returns-then-target-last_doc_in_block-clause-docs
returns-then-target-last_doc_in_block-clause-docs c = ap (λ k. drop (128 * k) (docs_at c.args.self.now.before c.args.self.now.skips c.args.self.now.bytes.now)) (none (goal.at.returns-then-target-last_doc_in_block-clause-docs c).Then-target-last_doc_in_block)

pub returns-then-target-last_doc_in_block-clause-counts : goal.returns-then-target-last_doc_in_block-clause-counts
returns-then-target-last_doc_in_block-clause-counts c = ap (λ k. drop (128 * k) (counts_at c.args.self.now.reads_counts c.args.self.now.before c.args.self.now.skips c.args.self.now.bytes.now)) (none (goal.at.returns-then-target-last_doc_in_block-clause-counts c).Then-target-last_doc_in_block)

pub returns-then-target-last_doc_in_block-clause-entries : goal.returns-then-target-last_doc_in_block-clause-entries
returns-then-target-last_doc_in_block-clause-entries c = ap (λ k. drop k c.args.self.now.skips.left) (none (goal.at.returns-then-target-last_doc_in_block-clause-entries c).Then-target-last_doc_in_block)

pub returns-then-target-last_doc_in_block-clause-index : goal.returns-then-target-last_doc_in_block-clause-index
returns-then-target-last_doc_in_block-clause-index c =
    let at = (goal.at.returns-then-target-last_doc_in_block-clause-index c).Then-target-last_doc_in_block in
    let same = (held at).0 in
    let few = here at in
    let is = c.first_from.ensures in
    omega (arith, same, few, is)

pub returns-then-target-last_doc_in_block-clause-decoded : goal.returns-then-target-last_doc_in_block-clause-decoded
returns-then-target-last_doc_in_block-clause-decoded c =
    let few = here (goal.at.returns-then-target-last_doc_in_block-clause-decoded c).Then-target-last_doc_in_block in
    let docs = docs_at c.args.self.now.before c.args.self.now.skips c.args.self.now.bytes.now in
    let yes : nat_lt (below c.args.target docs) 128 ≡ true = grind (arith, nat_tests) in
    let nothing = ap (λ b. cond b 0 (min 1 (length docs))) yes in
    omega (arith, nothing)

pub returns-then-target-last_doc_in_block-clause-offset : goal.returns-then-target-last_doc_in_block-clause-offset
returns-then-target-last_doc_in_block-clause-offset c = λ yes.
    (let zero_there = ap (λ k. sum (take (128 * k) (counts_at c.args.self.now.reads_counts c.args.self.now.before c.args.self.now.skips c.args.self.now.bytes.now))) (none (goal.at.returns-then-target-last_doc_in_block-clause-offset c).Then-target-last_doc_in_block) in
    omega (arith, zero_there))

pub invariant_of-self : goal.invariant_of-self
invariant_of-self c = (let self = c.args.self.now in record { stands = self.stands; held = self.held; ascends = self.ascends; few = self.few; adds_up = self.adds_up; found = tt })

-- ---- another block

passed : (c : After-find_block-self) → HasPassed c.args.self.now.reads_counts c.args.self.now.reads_positions c.args.target c.args.self.now.before c.args.self.now.skips c.find_block-self.result c.find_block-self.new.skips c.args.self.now.bytes.now
passed c = (let self = c.args.self.now in c.find_block-self.ensures.passed self.reads_counts self.reads_positions self.bytes.now self.stands self.found)

more : (c : After-find_block-self) → 128 ≤ below c.args.target (docs_at c.args.self.now.before c.args.self.now.skips c.args.self.now.bytes.now)
more c =
    let last = c.last_doc_in_block.ensures in
    let early = c.if-target-last_doc_in_block.false in
    passes_some c.args.self.now.reads_counts c.args.self.now.reads_positions c.args.target c.args.self.now.before c.args.self.now.skips c.args.self.now.bytes.now c.args.self.now.stands (omega (arith, last, early)) c.requires

ascends_on : (k : ℕ) (all left : List ℕ) → left ≡ drop (128 * k) all → Ascends 0 all → Ascends 0 left
ascends_on k all left cut ascends = subst (λ xs. Ascends 0 xs) (sym cut) (Ascends-behind (128 * k) 0 all ascends)

pub invariant_of-self-2 : goal.invariant_of-self-2
invariant_of-self-2 c =
    let on = passed (goal.at.invariant_of-self-2 c).After-find_block-self in
    let some = more (goal.at.invariant_of-self-2 c).After-find_block-self in
    let held = c.decode_block-self.ensures in
    let all = docs_at c.args.self.now.before c.args.self.now.skips c.args.self.now.bytes.now in
    let few = c.args.self.now.few in
    let long = ap length on.docs in
    let len = held.len_is in
    let one = c.count_block.ensures in
    let k = below c.args.target all / 128 in
    let cut = length-drop (128 * k) all in
    record {
      stands = on.stands;
      held = held;
      ascends = ascends_on k all _ on.docs c.args.self.now.ascends;
      few = omega (arith, few, long, len, one, cut, some);
      adds_up = none_summed c.decode_block-self.new.counts;
      found = tt;
    }

held_then : (c : After-find_block-self) → below c.args.target (docs_at c.find_block-self.result c.find_block-self.new.skips c.args.self.now.bytes.now) < 128
held_then c = (let index = (passed c).index in omega (arith, index))

pub first_from-requires-2 : goal.first_from-requires-2
first_from-requires-2 c =
    let on = passed (goal.at.first_from-requires-2 c).After-find_block-self in
    let all = docs_at c.args.self.now.before c.args.self.now.skips c.args.self.now.bytes.now in
    record {
      within = (below_held c.args.target c.decode_block-self.result c.decode_block-self.new.docs c.decode_block-self.new.counts _ _ c.decode_block-self.ensures c.requires (held_then (goal.at.first_from-requires-2 c).After-find_block-self)).1;
      order = order_held c.args.target c.decode_block-self.result c.decode_block-self.new.docs c.decode_block-self.new.counts _ _ c.decode_block-self.ensures (ascends_on (below c.args.target all / 128) all _ on.docs c.args.self.now.ascends) c.requires;
    }

pub returns-clause-index : goal.returns-clause-index
returns-clause-index c =
    let at = (goal.at.returns-clause-index c).After-find_block-self in
    let same = (below_held c.args.target c.decode_block-self.result c.decode_block-self.new.docs c.decode_block-self.new.counts _ _ c.decode_block-self.ensures c.requires (held_then at)).0 in
    c.first_from-2.ensures ∙ (same ∙ (passed at).index)

pub returns-clause-decoded : goal.returns-clause-decoded
returns-clause-decoded c =
    let some = more (goal.at.returns-clause-decoded c).After-find_block-self in
    let docs = docs_at c.args.self.now.before c.args.self.now.skips c.args.self.now.bytes.now in
    let after = docs_at c.find_block-self.result c.find_block-self.new.skips c.args.self.now.bytes.now in
    let no : nat_lt (below c.args.target docs) 128 ≡ false = grind (arith, nat_tests) in
    let one = ap (λ b. cond b 0 (min 1 (length after))) no in
    let len = c.decode_block-self.ensures.len_is in
    let is = c.count_block.ensures in
    omega (arith, one, len, is)

pub returns-clause-room : goal.returns-clause-room
returns-clause-room c = λ told.
    (let on = passed (goal.at.returns-clause-room c).After-find_block-self in
    room_of c.args.self.now.skips.position_offset c.find_block-self.new.skips.position_offset (128 * (below c.args.target (docs_at c.args.self.now.before c.args.self.now.skips c.args.self.now.bytes.now) / 128)) (counts_at c.args.self.now.reads_counts c.args.self.now.before c.args.self.now.skips c.args.self.now.bytes.now) (counts_at c.args.self.now.reads_counts c.find_block-self.result c.find_block-self.new.skips c.args.self.now.bytes.now) (on.offset told) on.counts)
