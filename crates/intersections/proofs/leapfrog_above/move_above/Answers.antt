use Rattle.std.proofs.Common.{[], List, ap, arith, length, subst, sym, true, ◌+◌, ◌<◌, ◌∙◌, ◌≡◌, ◌≤◌, ℕ}
use Rattle.std.proofs.lemmas.Bool.Decides.{nat_tests}
use Rattle.definitions.proofs.Lists.{by_order}
use Rattle.docsets.proofs.EntryLaws.{drop-one, first-from, first_at_most, from-first, from-from}
use Rattle.docsets.proofs.MemberLaws.{entries-kept, entries-low}
use Rattle.docsets.specs.EntryLaws.{Rising-from}
use Rattle.docsets.specs.Entries.{Entry, Rising, first, first_positions, from, single}
use Rattle.docsets.specs.Members.{entries_of}
use Rattle.intersections.proofs.ThresholdLaws.{EarnLow-lower, first_own}
use Rattle.intersections.specs.Thresholds.{EarnLow}
use Rattle.intersections.proofs.leapfrog_above.move_above.Goals as goal

-- what comes from a document on comes from its first
from_its_first : (t : ℕ) (es : List Entry) → Rising 0 es → t ≤ first (from t es) → from t es ≡ from (first (from t es)) es
from_its_first t es r late = sym (from-first (first (from t es)) 0 (from t es) (omega arith) (Rising-from t 0 es r)) ∙ from-from t (first (from t es)) es late

-- and nothing is before that
none_before : (t d : ℕ) (es : List Entry) → Rising 0 es → t ≤ d → d < first (from t es) → entries_of d es ≡ []
none_before t d es r late early = sym (entries-kept d t es late) ∙ entries-low d 0 (from t es) (Rising-from t 0 es r) early

pub loop-doc-init : goal.loop-doc-init
loop-doc-init g c =
    let es = g.S.DocSet.entries c.args.cursor.now in
    let rises = g.met.S.DocSet.rising c.args.cursor.now in
    let target = c.args.target in
    let at = c.move_to-doc.ensures.at in
    let rest = c.move_to-doc.ensures.rest in
    let is : c.move_to-doc.result ≡ first (from target es) = at ∙ ap first rest in
    let low = first-from target es c.requires in
    record {
      at = at;
      rest = rest ∙ (from_its_first target es rises low ∙ ap (λ d. from d es) (sym is));
      up = omega (arith, low, is);
      low = λ d late early some. (let none = ap length (none_before target d es rises late (omega (arith, early, is))) in absurd (omega (arith, none, some)));
    }

pub positions_bound-most-requires : goal.positions_bound-most-requires
positions_bound-most-requires g c =
    let at = c.loop-doc.invariant.at in
    let below = c.loop-doc-test.true in
    omega (arith, at, below)

pub loop-doc-preserved : goal.loop-doc-preserved
loop-doc-preserved g c =
    let es = g.S.DocSet.entries c.args.cursor.now in
    let rises = g.met.S.DocSet.rising c.args.cursor.now in
    let now = g.S.DocSet.entries c.loop-doc.cursor in
    let doc = c.loop-doc.doc in
    let inv = c.loop-doc.invariant in
    let at = inv.at in
    let up = inv.up in
    let below = c.loop-doc-test.true in
    let next : g.S.DocSet.entries c.advance-doc.new.self ≡ from (doc + 1) es = c.advance-doc.ensures.rest ∙ (drop-one 0 now (g.met.S.DocSet.rising c.loop-doc.cursor) ∙ (ap (λ n. from (n + 1) now) (sym at) ∙ (ap (from (doc + 1)) inv.rest ∙ from-from doc (doc + 1) es (omega arith)))) in
    let is : c.advance-doc.result ≡ first (from (doc + 1) es) = c.advance-doc.ensures.at ∙ ap first next in
    let low = first-from (doc + 1) es (omega (arith, below)) in
    let yes : c.is_low.result ≡ true = grind (arith, nat_tests, c.if-not-is_low.false) in
    let own : single (first_positions (entries_of doc es)) ≡ single (first_positions now) = ap (λ xs. single (first_positions xs)) (sym (entries-kept doc doc es (omega arith)) ∙ ap (entries_of doc) (sym inv.rest)) ∙ first_own doc now (g.met.S.DocSet.rising c.loop-doc.cursor) (sym at) (omega (arith, below)) in
    let few = c.positions_bound-most.ensures in
    let size = ap length own in
    record {
      at = c.advance-doc.ensures.at;
      rest = next ∙ (from_its_first (doc + 1) es rises low ∙ ap (λ d. from d es) (sym is));
      up = omega (arith, up, low, is);
      low = λ d late early some. by_order doc d (EarnLow (g.C.ColumnThreshold.score c.args.threshold.now) (g.C.ColumnThreshold.limit c.args.threshold.now) d c.args.is_last (length (single (first_positions (entries_of d es)))))
          (λ i. by_order (doc + 1) d (EarnLow (g.C.ColumnThreshold.score c.args.threshold.now) (g.C.ColumnThreshold.limit c.args.threshold.now) d c.args.is_last (length (single (first_positions (entries_of d es)))))
          (λ b. (let none = ap length (none_before (doc + 1) d es rises b (omega (arith, early, is))) in absurd (omega (arith, none, some))))
          (λ b. (let same : doc ≡ d = omega (arith, i, b) in subst (λ x. EarnLow (g.C.ColumnThreshold.score c.args.threshold.now) (g.C.ColumnThreshold.limit c.args.threshold.now) x c.args.is_last (length (single (first_positions (entries_of x es))))) same
          (EarnLow-lower (g.C.ColumnThreshold.score c.args.threshold.now) (g.C.ColumnThreshold.limit c.args.threshold.now) doc (length (single (first_positions (entries_of doc es)))) c.positions_bound-most.result c.args.is_last (omega (arith, few, size)) (c.is_low.ensures yes)))))
          (λ o. inv.low d late o some);
    }

pub returns-clause-small : goal.returns-clause-small
returns-clause-small g c =
    let at = c.loop-doc.invariant.at in
    let most = first_at_most 0 (g.S.DocSet.entries c.loop-doc.cursor) (g.met.S.DocSet.rising c.loop-doc.cursor) in
    omega (arith, at, most)
