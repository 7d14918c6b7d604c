use Rattle.std.proofs.Common.{ap, drop, length, map, subst, sym, ◌++◌, ◌∙◌, ◌≡◌}
use Rattle.docsets.specs.Entries.{Rising, most_positions}
use Rattle.docsets.proofs.EntryLaws.{Rising-drop}
use Rattle.phrases.specs.PrefixEntries.{most_suffix_positions, prefixed}
use Rattle.phrases.specs.Windows.{left_in}
use Rattle.phrases.proofs.WindowLaws.{drop-both, prefix-ends, refilled}
use Rattle.phrases.proofs.phrase_prefix_scorer.PhrasePrefixScorerDocSet.advance.Given.{Over}
use Rattle.phrases.proofs.phrase_prefix_scorer.PhrasePrefixScorerDocSet.advance.Goals.{After-step}
use Rattle.phrases.proofs.phrase_prefix_scorer.PhrasePrefixScorerDocSet.advance.Goals as goal

-- the first entry is passed
passed : (g : Over) (c : After-step g) → left_in c.step.new.self ++ prefixed c.args.self.now.suffix_offset (map g.P.DocSet.entries c.args.self.now.suffixes.items) (g.W.DocSet.entries c.args.self.now.phrase_scorer) ≡ drop 1 (left_in c.args.self.now.window ++ prefixed c.args.self.now.suffix_offset (map g.P.DocSet.entries c.args.self.now.suffixes.items) (g.W.DocSet.entries c.args.self.now.phrase_scorer))
passed g c =
    let s = c.args.self.now in
    let ess = map g.P.DocSet.entries s.suffixes.items in
    let es = g.W.DocSet.entries s.phrase_scorer in
    let rest = prefixed s.suffix_offset ess es in
    ap (λ xs. xs ++ rest) c.step.ensures.left
    ∙ drop-both (left_in s.window) rest (λ l. prefix-ends s.suffix_offset ess es (g.met.W.DocSet.rising s.phrase_scorer) (s.following.ends l))

rises : (g : Over) (c : After-step g) → Rising 0 (left_in c.step.new.self ++ prefixed c.args.self.now.suffix_offset (map g.P.DocSet.entries c.args.self.now.suffixes.items) (g.W.DocSet.entries c.args.self.now.phrase_scorer))
rises g c =
    let s = c.args.self.now in
    subst (Rising 0) (sym (passed g c)) (Rising-drop 1 0 (left_in s.window ++ prefixed s.suffix_offset (map g.P.DocSet.entries s.suffixes.items) (g.W.DocSet.entries s.phrase_scorer)) s.rises)

pub refill-requires-clause-rises : goal.refill-requires-clause-rises
refill-requires-clause-rises g c = rises g (goal.at.refill-requires-clause-rises g c).After-step

pub invariant_of-self : goal.invariant_of-self
invariant_of-self g c =
    let s = c.args.self.now in
    let f = c.refill in
    let ess = map g.P.DocSet.entries s.suffixes.items in
    let es = g.W.DocSet.entries s.phrase_scorer in
    record {
      rises = subst (Rising 0) (sym f.ensures.same) (rises g (goal.at.invariant_of-self g c).After-step);
      following = refilled f.new.window c.step.new.self f.result (length s.suffixes.items) (length f.new.suffixes.items) ess (map g.P.DocSet.entries f.new.suffixes.items) es (g.W.DocSet.entries f.new.phrase) (c.step.ensures.window (most_positions es) (most_suffix_positions ess) s.following.window) s.following.few_places s.following.few_suffixes f.ensures.window f.ensures.at f.ensures.ends f.ensures.rest f.ensures.most f.ensures.long;
    }
