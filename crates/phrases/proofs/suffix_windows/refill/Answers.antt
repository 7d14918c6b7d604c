use Rattle.std.proofs.Common.{[], ap, arith, map, subst, sym, ◌++◌, ◌∙◌, ◌≡◌}
use Rattle.docsets.specs.Entries.{Rising, most_positions}
use Rattle.docsets.proofs.EntryLaws.{none_left}
use Rattle.phrases.proofs.PhraseEntryLaws.{IsRest-on}
use Rattle.phrases.specs.PrefixEntries.{prefixed}
use Rattle.phrases.proofs.PrefixEntryLaws.{most-rest}
use Rattle.phrases.specs.PrefixEntries.{most_suffix_positions}
use Rattle.phrases.specs.Windows.{left_in}
use Rattle.phrases.proofs.WindowLaws.{rising-front, window-fewer}
use Rattle.phrases.proofs.suffix_windows.refill.Goals as goal

pub fill_window-requires-clause-few_places : goal.fill_window-requires-clause-few_places
fill_window-requires-clause-few_places g c =
    let fewer = most-rest (g.W.DocSet.entries c.loop-doc.phrase) (g.W.DocSet.entries c.args.phrase.now) c.loop-doc.invariant.rest in
    let few = c.requires.few_places in
    omega (arith, fewer, few)

pub fill_window-requires-clause-window : goal.fill_window-requires-clause-window
fill_window-requires-clause-window g c =
    let inv = c.loop-doc.invariant in
    let n = most_positions (g.W.DocSet.entries c.args.phrase.now) in
    let m = most_suffix_positions (map g.P.DocSet.entries c.args.suffixes.now.items) in
    window-fewer c.loop-doc.window n m (most_positions (g.W.DocSet.entries c.loop-doc.phrase)) (most_suffix_positions (map g.P.DocSet.entries c.loop-doc.suffixes.items)) (inv.window n m c.requires.window) (most-rest (g.W.DocSet.entries c.loop-doc.phrase) (g.W.DocSet.entries c.args.phrase.now) inv.rest) inv.most

pub loop-doc-preserved : goal.loop-doc-preserved
loop-doc-preserved g c =
    let inv = c.loop-doc.invariant in
    let f = c.fill_window.ensures in
    let moved = c.args.moved in
    let es = g.W.DocSet.entries c.loop-doc.phrase in
    let all = g.W.DocSet.entries c.args.phrase.now in
    let rest = prefixed moved (map g.P.DocSet.entries c.loop-doc.suffixes.items) es in
    let left = left_in c.loop-doc.window in
    let at = inv.at in
    let test = c.loop-doc-test.true in
    let rises : Rising 0 (left ++ rest) = subst (Rising 0) (sym inv.same) c.requires.rises in
    let none : left ≡ [] = none_left 0 left (rising-front 0 left rest rises) (omega (arith, at, test)) in
    let most = inv.most in
    let fewer = f.most in
    record {
      at = c.doc-doc-in-loop-doc.ensures;
      same = f.same ∙ (ap (λ xs. xs ++ rest) (sym none) ∙ inv.same);
      rest = IsRest-on (g.W.DocSet.entries c.fill_window.new.phrase) es all f.rest inv.rest;
      most = omega (arith, most, fewer);
      long = f.long ∙ inv.long;
      window = λ n m is. f.window n m (inv.window n m is);
    }
