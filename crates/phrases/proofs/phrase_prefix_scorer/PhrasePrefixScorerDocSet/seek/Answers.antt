use Rattle.std.proofs.Common.{ap, arith, length, map, subst, sym, ◌++◌, ◌∙◌, ◌≡◌, ◌≤◌}
use Rattle.docsets.specs.Entries.{Rising, from, most_positions}
use Rattle.docsets.proofs.EntryLaws.{IsRest-from}
use Rattle.docsets.specs.EntryLaws.{Rising-from}
use Rattle.docsets.proofs.ScoredEntryLaws.{IsRest-along}
use Rattle.phrases.specs.PrefixEntries.{prefixed}
use Rattle.phrases.proofs.PrefixEntryLaws.{from-prefixed, most-rest}
use Rattle.phrases.specs.PrefixEntries.{most_suffix_positions}
use Rattle.phrases.specs.Windows.{IsWindow, left_in}
use Rattle.phrases.proofs.WindowLaws.{from-append, refilled, rising-front, window-fewer}
use Rattle.phrases.proofs.phrase_prefix_scorer.PhrasePrefixScorerDocSet.seek.Given.{Over}
use Rattle.phrases.proofs.phrase_prefix_scorer.PhrasePrefixScorerDocSet.seek.Goals.{After-move_to}
use Rattle.phrases.proofs.phrase_prefix_scorer.PhrasePrefixScorerDocSet.seek.Goals as goal

pub seek-requires-clause-rises : goal.seek-requires-clause-rises
seek-requires-clause-rises g c =
    let s = c.args.self.now in
    rising-front 0 (left_in s.window) (prefixed s.suffix_offset (map g.P.DocSet.entries s.suffixes.items) (g.W.DocSet.entries s.phrase_scorer)) s.rises

-- entries below the target are passed
sought : (g : Over) (c : After-move_to g) → left_in c.seek.new.self ++ prefixed c.args.self.now.suffix_offset (map g.P.DocSet.entries c.args.self.now.suffixes.items) (g.W.DocSet.entries c.move_to.new.docset) ≡ from c.args.target (left_in c.args.self.now.window ++ prefixed c.args.self.now.suffix_offset (map g.P.DocSet.entries c.args.self.now.suffixes.items) (g.W.DocSet.entries c.args.self.now.phrase_scorer))
sought g c =
    let s = c.args.self.now in
    let target = c.args.target in
    let ess = map g.P.DocSet.entries s.suffixes.items in
    let es = g.W.DocSet.entries s.phrase_scorer in
    let left = left_in s.window in
    let rest = prefixed s.suffix_offset ess es in
    ap (λ xs. xs ++ prefixed s.suffix_offset ess (g.W.DocSet.entries c.move_to.new.docset)) c.seek.ensures.left
    ∙ (ap (λ xs. from target left ++ xs) (ap (prefixed s.suffix_offset ess) c.move_to.ensures.rest ∙ sym (from-prefixed s.suffix_offset ess target es))
    ∙ sym (from-append target left rest))

rises : (g : Over) (c : After-move_to g) → Rising 0 (left_in c.seek.new.self ++ prefixed c.args.self.now.suffix_offset (map g.P.DocSet.entries c.args.self.now.suffixes.items) (g.W.DocSet.entries c.move_to.new.docset))
rises g c =
    let s = c.args.self.now in
    subst (Rising 0) (sym (sought g c)) (Rising-from c.args.target 0 (left_in s.window ++ prefixed s.suffix_offset (map g.P.DocSet.entries s.suffixes.items) (g.W.DocSet.entries s.phrase_scorer)) s.rises)

-- the phrase has no more places than before
fewer : (g : Over) (c : After-move_to g) → most_positions (g.W.DocSet.entries c.move_to.new.docset) ≤ most_positions (g.W.DocSet.entries c.args.self.now.phrase_scorer)
fewer g c =
    let es = g.W.DocSet.entries c.args.self.now.phrase_scorer in
    let next = g.W.DocSet.entries c.move_to.new.docset in
    most-rest next es (IsRest-along next (from c.args.target es) es c.move_to.ensures.rest (IsRest-from c.args.target 0 es (g.met.W.DocSet.rising c.args.self.now.phrase_scorer)))

window : (g : Over) (c : After-move_to g) → IsWindow c.seek.new.self (most_positions (g.W.DocSet.entries c.move_to.new.docset)) (most_suffix_positions (map g.P.DocSet.entries c.args.self.now.suffixes.items))
window g c =
    let s = c.args.self.now in
    let n = most_positions (g.W.DocSet.entries s.phrase_scorer) in
    let m = most_suffix_positions (map g.P.DocSet.entries s.suffixes.items) in
    window-fewer c.seek.new.self n m (most_positions (g.W.DocSet.entries c.move_to.new.docset)) m (c.seek.ensures.window n m s.following.window) (fewer g c) (omega arith)

pub refill-requires-clause-rises : goal.refill-requires-clause-rises
refill-requires-clause-rises g c = rises g (goal.at.refill-requires-clause-rises g c).After-move_to

pub refill-requires-clause-few_places : goal.refill-requires-clause-few_places
refill-requires-clause-few_places g c =
    let less = fewer g (goal.at.refill-requires-clause-few_places g c).After-move_to in
    let few = c.args.self.now.following.few_places in
    omega (arith, less, few)

pub refill-requires-clause-window : goal.refill-requires-clause-window
refill-requires-clause-window g c = window g (goal.at.refill-requires-clause-window g c).After-move_to

pub invariant_of-self : goal.invariant_of-self
invariant_of-self g c =
    let after = (goal.at.invariant_of-self g c).After-move_to in
    let s = c.args.self.now in
    let f = c.refill in
    let less = fewer g after in
    let few = s.following.few_places in
    record {
      rises = subst (Rising 0) (sym f.ensures.same) (rises g after);
      following = refilled f.new.window c.seek.new.self f.result (length s.suffixes.items) (length f.new.suffixes.items) (map g.P.DocSet.entries s.suffixes.items) (map g.P.DocSet.entries f.new.suffixes.items) (g.W.DocSet.entries c.move_to.new.docset) (g.W.DocSet.entries f.new.phrase) (window g after) (omega (arith, less, few)) s.following.few_suffixes f.ensures.window f.ensures.at f.ensures.ends f.ensures.rest f.ensures.most f.ensures.long;
    }

pub returns-clause-rest : goal.returns-clause-rest
returns-clause-rest g c = c.refill.ensures.same ∙ sought g (goal.at.returns-clause-rest g c).After-move_to
