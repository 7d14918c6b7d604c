-- Nothing is shown behind all pieces; one piece more.
use Rattle.std.proofs.Common.{ap, arith, drop, le_refl, length, map, max, sym, ◌+◌, ◌<◌, ◌∙◌, ◌≡◌}
use Rattle.std.proofs.lemmas.List.{take_rest}
use Rattle.snippets.proofs.Windows.{most_more, most_same, none_left}
use Rattle.snippets.specs.Passages.{most, shown, window}
use Rattle.snippets.specs.Views.{piece_of}
use Rattle.snippets.proofs.passages.best_start.Goals as goal
use Rattle.snippets.proofs.passages.best_start.Goals.{then-is_some+then-count-most, then-is_some+else-count-most, else-is_some}

pub loop-index-init : goal.loop-index-init
loop-index-init c = record {
  most = omega arith;
  shown = none_left c.args.words c.args.pieces.now;
  within = le_refl _;
}

pub loop-index-preserved : goal.loop-index-preserved
loop-index-preserved c =
    let n = c.args.words in
    let ps = c.args.pieces.now in
    let i = c.loop-index.index in
    let lt : i < length ps = c.loop-index-test.true in
    let more : most n (map piece_of (drop i ps)) ≡ max (shown n (window (map piece_of (drop i ps)))) (most n (map piece_of (drop (i + 1) ps))) = most_more n i (i + 1) ps (omega arith) lt in
    elim c.if-is_some.branch [
      | then-is_some+then-count-most w ↦
          let count : w.shown-count.result ≡ shown n (window (map piece_of (drop i ps))) = w.shown-count.ensures ∙ ap (shown n) w.window.ensures ∙ ap (λ qs. shown n (window (map piece_of qs))) (take_rest ps i) in
          record {
            most = omega (arith, more, count, w.most-is, w.if-count-most.true, c.loop-index.invariant.most);
            shown = ap (λ k. shown n (window (map piece_of (drop k ps)))) w.start-is ∙ sym count ∙ sym w.most-is;
            within = omega (arith, w.start-is, lt);
          }
      | then-is_some+else-count-most w ↦
          let count : w.shown-count.result ≡ shown n (window (map piece_of (drop i ps))) = w.shown-count.ensures ∙ ap (shown n) w.window.ensures ∙ ap (λ qs. shown n (window (map piece_of qs))) (take_rest ps i) in
          record {
            most = omega (arith, more, count, w.most-is, w.if-count-most.false, c.loop-index.invariant.most);
            shown = ap (λ k. shown n (window (map piece_of (drop k ps)))) w.start-is ∙ c.loop-index.invariant.shown ∙ sym w.most-is;
            within = omega (arith, w.start-is, c.loop-index.invariant.within);
          }
      | else-is_some w ↦
          let same : most n (map piece_of (drop i ps)) ≡ most n (map piece_of (drop (i + 1) ps)) = most_same n i (i + 1) ps _ (omega arith) lt (sym c.is_some.ensures ∙ w.if-is_some.false) in
          record {
            most = omega (arith, same, w.most-is, c.loop-index.invariant.most);
            shown = ap (λ k. shown n (window (map piece_of (drop k ps)))) w.start-is ∙ c.loop-index.invariant.shown ∙ sym w.most-is;
            within = omega (arith, w.start-is, c.loop-index.invariant.within);
          }
    ]
