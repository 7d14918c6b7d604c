use Rattle.std.proofs.Common.{List, length, map, subst, sym, ◌++◌}
use Rattle.docsets.specs.Entries.{Entry, Rising, most_positions}
use Rattle.phrases.specs.PrefixEntries.{prefixed}
use Rattle.phrases.proofs.PrefixEntryLaws.{Rising-prefixed}
use Rattle.phrases.specs.PrefixEntries.{most_suffix_positions}
use Rattle.phrases.specs.Windows.{IsWindow, left_in}
use Rattle.phrases.proofs.WindowLaws.{refilled, window-fewer}
use Rattle.phrases.proofs.phrase_prefix_scorer.PhrasePrefixScorer.new.Given.{Over}
use Rattle.phrases.proofs.phrase_prefix_scorer.PhrasePrefixScorer.new.Goals.{In_ok-window}
use Rattle.phrases.proofs.phrase_prefix_scorer.PhrasePrefixScorer.new.Goals as goal

rises : (g : Over) (c : In_ok-window g) → Rising 0 (left_in c.in_ok-window.window ++ prefixed c.args.suffix_offset (map g.P.DocSet.entries c.args.suffixes.items) (g.W.DocSet.entries c.args.phrase_scorer))
rises g c =
    let ess = map g.P.DocSet.entries c.args.suffixes.items in
    let es = g.W.DocSet.entries c.args.phrase_scorer in
    let R : List Entry → Type 0 = λ left. Rising 0 (left ++ prefixed c.args.suffix_offset ess es) in
    subst R (sym c.in_ok-window.ensures.none) (Rising-prefixed c.args.suffix_offset ess 0 es (g.met.W.DocSet.rising c.args.phrase_scorer))

window : (g : Over) (c : In_ok-window g) → IsWindow c.in_ok-window.window (most_positions (g.W.DocSet.entries c.args.phrase_scorer)) (most_suffix_positions (map g.P.DocSet.entries c.args.suffixes.items))
window g c = window-fewer c.in_ok-window.window c.most_positions-most.result c.most_of_suffixes.result (most_positions (g.W.DocSet.entries c.args.phrase_scorer)) (most_suffix_positions (map g.P.DocSet.entries c.args.suffixes.items)) c.in_ok-window.ensures.room c.most_positions-most.ensures c.most_of_suffixes.ensures

pub refill-requires-clause-rises : goal.refill-requires-clause-rises
refill-requires-clause-rises g c = rises g (goal.at.refill-requires-clause-rises g c).In_ok-window

pub invariant_of-result : goal.invariant_of-result
invariant_of-result g c =
    let before = (goal.at.invariant_of-result g c).In_ok-window in
    let f = c.refill in
    record {
      rises = subst (Rising 0) (sym f.ensures.same) (rises g before);
      following = refilled f.new.window c.in_ok-window.window f.result (length c.args.suffixes.items) (length f.new.suffixes.items) (map g.P.DocSet.entries c.args.suffixes.items) (map g.P.DocSet.entries f.new.suffixes.items) (g.W.DocSet.entries c.args.phrase_scorer) (g.W.DocSet.entries f.new.phrase) (window g before) c.requires.few_places c.requires.few_suffixes f.ensures.window f.ensures.at f.ensures.ends f.ensures.rest f.ensures.most f.ensures.long;
    }
