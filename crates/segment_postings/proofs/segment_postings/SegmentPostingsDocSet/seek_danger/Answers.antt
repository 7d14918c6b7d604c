use Rattle.std.proofs.Common.{ap, arith, cond, drop, false, max, nat_lt, subst, sum, sym, take, true, ◌+◌, ◌∙◌, ◌≡◌, ◌≤◌}
use Rattle.std.proofs.lemmas.Bool.Decides.{nat_tests}
use Rattle.codes.specs.UnpackedBlocks.{listed}
use Rattle.docsets.proofs.DangerLaws.{missed-seek}
use Rattle.docsets.specs.Entries.{first, from}
use Rattle.docsets.proofs.EntryLaws.{first-from}
use Rattle.segment_postings.proofs.CursorMoves.{stays}
use Rattle.segment_postings.proofs.EntryMoves.{below_behind, below_from}
use Rattle.segment_postings.specs.Cursors.{HasMoved, counts_left, docs_left, entries_left, skips_left, skips_reached}
use Rattle.segment_postings.specs.CursorsLaws.{rising_left}
use Rattle.segment_postings.specs.Reading.{below}
use Rattle.segment_postings.proofs.segment_postings.SegmentPostingsDocSet.seek_danger.Goals as goal

pub returns-then-target-doc-clause-moved : goal.returns-then-target-doc-clause-moved
returns-then-target-doc-clause-moved c =
    let s = c.args.self.now in
    let counts = counts_left s.blocks in
    let at = c.doc-doc.ensures in
    let late = c.if-target-doc.true in
    let few = below_behind c.args.target s.cur (docs_left s.blocks) (drop s.cur counts) (drop (s.blocks.skips.position_offset + sum (take s.cur counts)) (listed s.positions)) (omega (arith, at, late)) in
    let here : s.cur ≡ max s.cur (below c.args.target (docs_left s.blocks)) = omega (arith, few) in
    subst (λ p. HasMoved p s s) here (stays s)

pub returns-then-target-doc-2-clause-answer : goal.returns-then-target-doc-2-clause-answer
returns-then-target-doc-2-clause-answer c = missed-seek c.args.target c.seek-doc.result 0 (entries_left c.args.self.now) (entries_left c.seek-doc.new.self) (rising_left c.args.self.now) c.seek-doc.ensures.rest c.seek-doc.ensures.at (omega arith)

pub returns-clause-answer : goal.returns-clause-answer
returns-clause-answer c =
    let at = c.seek-doc.ensures.at in
    let index = ap first c.seek-doc.ensures.rest in
    let least : c.args.target ≤ first (from c.args.target (entries_left c.args.self.now)) = first-from c.args.target (entries_left c.args.self.now) (omega arith) in
    (omega (arith, at, index, least), c.seek-doc.ensures.rest)

pub returns-then-target-doc-2-clause-moved : goal.returns-then-target-doc-2-clause-moved
returns-then-target-doc-2-clause-moved c =
    let s = c.args.self.now in
    let counts = counts_left s.blocks in
    let at = c.doc-doc.ensures in
    let early = c.if-target-doc.false in
    let small = c.requires in
    let all = below_from c.args.target s.cur (docs_left s.blocks) (drop s.cur counts) (drop (s.blocks.skips.position_offset + sum (take s.cur counts)) (listed s.positions)) s.blocks.ascends (omega (arith, at, early)) small in
    let there : below c.args.target (docs_left s.blocks) ≡ max s.cur (below c.args.target (docs_left s.blocks)) = omega (arith, all) in
    subst (λ p. HasMoved p s c.seek-doc.new.self) there c.seek-doc.ensures.moved

pub returns-clause-moved : goal.returns-clause-moved
returns-clause-moved c =
    let s = c.args.self.now in
    let counts = counts_left s.blocks in
    let at = c.doc-doc.ensures in
    let early = c.if-target-doc.false in
    let small = c.requires in
    let all = below_from c.args.target s.cur (docs_left s.blocks) (drop s.cur counts) (drop (s.blocks.skips.position_offset + sum (take s.cur counts)) (listed s.positions)) s.blocks.ascends (omega (arith, at, early)) small in
    let there : below c.args.target (docs_left s.blocks) ≡ max s.cur (below c.args.target (docs_left s.blocks)) = omega (arith, all) in
    subst (λ p. HasMoved p s c.seek-doc.new.self) there c.seek-doc.ensures.moved

-- ---- which block is reached

pub returns-then-target-doc-clause-reached : goal.returns-then-target-doc-clause-reached
returns-then-target-doc-clause-reached c =
    let s = c.args.self.now in
    let at = c.doc-doc.ensures in
    let late = c.if-target-doc.true in
    let yes : nat_lt c.args.target (first (entries_left s)) ≡ true = grind (arith, nat_tests) in
    sym (ap (λ b. cond b (skips_reached s.blocks) (skips_left s.blocks)) yes)

pub returns-then-target-doc-2-clause-reached : goal.returns-then-target-doc-2-clause-reached
returns-then-target-doc-2-clause-reached c =
    let s = c.args.self.now in
    let at = c.doc-doc.ensures in
    let early = c.if-target-doc.false in
    let no : nat_lt c.args.target (first (entries_left s)) ≡ false = grind (arith, nat_tests) in
    c.seek-doc.ensures.reached ∙ sym (ap (λ b. cond b (skips_reached s.blocks) (skips_left c.seek-doc.new.self.blocks)) no)

pub returns-clause-reached : goal.returns-clause-reached
returns-clause-reached c =
    let s = c.args.self.now in
    let at = c.doc-doc.ensures in
    let early = c.if-target-doc.false in
    let no : nat_lt c.args.target (first (entries_left s)) ≡ false = grind (arith, nat_tests) in
    c.seek-doc.ensures.reached ∙ sym (ap (λ b. cond b (skips_reached s.blocks) (skips_left c.seek-doc.new.self.blocks)) no)
