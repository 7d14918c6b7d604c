use Rattle.std.proofs.Common.{map, refl, subst, sym, ◌∙◌}
use Rattle.std.proofs.Math.Logic.{∥∥₁_map}
use Rattle.definitions.specs.Postings.{Posting}
use Rattle.definitions.specs.Schema.{with_freqs_and_positions}
use Rattle.layouts.specs.Positions.{position_numbers}
use Rattle.segment_postings.specs.TermEntries.{HasPositions}
use Rattle.segment_reader.proofs.OpenedPostings.{has_positions_in, has_postings, placed_as}
use Rattle.scorer_cases.proofs.terms_with_positions.opened.Goals as goal

pub new-reader-requires : goal.new-reader-requires
new-reader-requires c = ∥∥₁_map c.requires (λ known. (position_numbers (map (λ (p : Posting). p.positions) known.0), (has_positions_in with_freqs_and_positions c.args.doc_freq c.args.postings.now c.args.positions.now known.0 refl known.1).1))

pub with_positions-requires-clause-known : goal.with_positions-requires-clause-known
with_positions-requires-clause-known c =
    ∥∥₁_map c.requires (λ known.
    let positions = has_positions_in with_freqs_and_positions c.args.doc_freq c.args.postings.now c.args.positions.now known.0 refl known.1 in (
      map (λ (p : Posting). p.doc) known.0,
      map (λ (p : Posting). p.count) known.0,
      map (λ (p : Posting). p.positions) known.0,
      has_postings with_freqs_and_positions c.args.doc_freq c.args.postings.now c.args.positions.now known.0 known.1,
      subst (λ ns. HasPositions (map (λ (p : Posting). p.count) known.0) (map (λ (p : Posting). p.positions) known.0) ns) (sym (c.new-reader.ensures (position_numbers (map (λ (p : Posting). p.positions) known.0)) positions.1)) positions.0,
    ))

pub returns : goal.returns
returns c ps known =
    let positions = has_positions_in with_freqs_and_positions c.args.doc_freq c.args.postings.now c.args.positions.now ps refl known in
    c.with_positions.ensures.entries (map (λ (p : Posting). p.doc) ps) (map (λ (p : Posting). p.count) ps) (map (λ (p : Posting). p.positions) ps)
    (has_postings with_freqs_and_positions c.args.doc_freq c.args.postings.now c.args.positions.now ps known)
    (subst (λ ns. HasPositions (map (λ (p : Posting). p.count) ps) (map (λ (p : Posting). p.positions) ps) ns) (sym (c.new-reader.ensures (position_numbers (map (λ (p : Posting). p.positions) ps)) positions.1)) positions.0)
    ∙ placed_as with_freqs_and_positions with_freqs_and_positions ps refl
