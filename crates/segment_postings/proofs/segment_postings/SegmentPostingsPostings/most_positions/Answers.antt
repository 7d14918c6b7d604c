use Rattle.std.proofs.Common.{[], IsSome, None, ap, arith, drop, length, refl, subst, sum, sym, take, ◌+◌, ◌≡◌, ◌∙◌}
use Rattle.std.proofs.Math.Logic.{∥∥₁_elim, ∥∥₁_map}
use Rattle.std.proofs.Props.{props}
use Rattle.std.proofs.lemmas.List.{get_or-drop}
use Rattle.codes.specs.UnpackedBlocks.{listed}
use Rattle.segment_postings.proofs.EntryMoves.{no_positions, numbers_same}
use Rattle.segment_postings.proofs.PlacedEntries.{most_counted}
use Rattle.segment_postings.specs.CountBounds.{TellCounts}
use Rattle.segment_postings.specs.Cursors.{counts_left, docs_left}
use Rattle.segment_postings.proofs.segment_postings.SegmentPostingsPostings.most_positions.Goals.{After-greatest_count}
use Rattle.segment_postings.proofs.segment_postings.SegmentPostingsPostings.most_positions.Goals as goal

many : (c : After-greatest_count) → length (listed c.args.self.now.positions) ≡ c.num_positions.result
many c = ap (λ o. length (listed o)) c.in-Some.is ∙ sym c.num_positions.ensures

-- the entries tell the counts
told : (c : After-greatest_count) → ∥ TellCounts c.num_positions.result c.args.self.now.blocks.skips (counts_left c.args.self.now.blocks) ∥₁
told c = ∥∥₁_map (c.args.self.now.told (subst IsSome (sym c.in-Some.is) refl)) (λ known. subst (λ n. TellCounts n c.args.self.now.blocks.skips (counts_left c.args.self.now.blocks)) (many c) known)

pub returns-in-Some-clause-most : goal.returns-in-Some-clause-most
returns-in-Some-clause-most c =
    let here = c in
    let s = c.args.self.now in
    let docs = docs_left s.blocks in
    let counts = counts_left s.blocks in
    let behind = drop (s.blocks.skips.position_offset + sum (take s.cur counts)) (listed s.positions) in
    ∥∥₁_elim (told here) (hlevel props) (λ known. most_counted (drop s.cur docs) (drop s.cur counts) behind c.greatest_count.result (λ i. (let each = c.greatest_count.ensures.above counts known (s.cur + i) in let at = get_or-drop s.cur counts i 0 in omega (arith, each, at))))

pub returns-in-Some-clause-few : goal.returns-in-Some-clause-few
returns-in-Some-clause-few c =
    let here = c in
    let count = many here in
    ∥∥₁_elim (told here) (hlevel props) (λ known. (let least = c.greatest_count.ensures.few (counts_left c.args.self.now.blocks) known in omega (arith, least, count)))

pub returns-in-None-clause-most : goal.returns-in-None-clause-most
returns-in-None-clause-most c =
    let s = c.args.self.now in
    let counts = counts_left s.blocks in
    let behind = s.blocks.skips.position_offset + sum (take s.cur counts) in
    let none : drop behind (listed s.positions) ≡ [] = ap (λ o. drop behind (listed o)) c.in-None.is ∙ numbers_same None behind 0 (λ some. absurd cc) in
    let same = (no_positions (drop s.cur (docs_left s.blocks)) (drop s.cur counts) (drop behind (listed s.positions)) none).1 in
    omega (arith, same)
