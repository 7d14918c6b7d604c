use Rattle.std.proofs.Common.{List, ap, arith, drop, length, map, refl, subst, sym, take, vec_len, ◌+◌, ◌<◌, ◌∙◌, ◌≡◌, ℕ}
use Rattle.std.specs.Prelude.{pos, ◌≤ℤ◌}
use Rattle.std.specs.List.{AllByRecursion}
use Rattle.std.proofs.lemmas.Bool.Decides.{nat_tests}
use Rattle.definitions.specs.Postings.{terminated}
use Rattle.docsets.proofs.EntryLaws.{IsRest-from, Rising-drop, drop-one, from-from}
use Rattle.docsets.proofs.ScoredEntryLaws.{IsRest-along}
use Rattle.docsets.specs.Entries.{Entry, IsRest, Rising, first, first_positions, from}
use Rattle.intersections.specs.Meetings.{meeting}
use Rattle.phrases.specs.PhraseEntries.{longest, longest_column}
use Rattle.phrases.proofs.PassedPhrases.{all_weaker, passed_on, unplaced_first}
use Rattle.phrases.proofs.PhraseEntryLaws.{HaveColumns-rest, IsRest-on, first-columns, longest-first, longest-rest}
use Rattle.phrases.specs.Places.{places_of}
use Rattle.phrases.proofs.StandingLaws.{HasRoom-lower}
use Rattle.phrases.proofs.phrase_documents.settle_above.Goals as goal

-- what is left from a document on behind the first is a rest
behind_rest : (doc : ℕ) (now all : List Entry) → Rising 0 all → now ≡ from doc (drop 1 all) → IsRest now all
behind_rest doc now all rises left = IsRest-on now (drop 1 all) all (IsRest-along now (from doc (drop 1 all)) (drop 1 all) left (IsRest-from doc 0 (drop 1 all) (Rising-drop 1 0 all rises))) (1, refl)

pub loop-doc-init : goal.loop-doc-init
loop-doc-init g c =
    let first_move = c.advance_above-doc in
    let all : List Entry = meeting (map g.S.DocSet.entries c.args.terms.now.docsets.items) in
    record {
      at = first_move.ensures.at;
      left = first_move.ensures.rest;
      slop = refl;
      room = λ n h. h;
      low = all_weaker (λ e. e.doc < first_move.result → pos (g.C.ColumnThreshold.score c.args.threshold.now e.doc e.positions) ≤ℤ g.C.ColumnThreshold.limit c.args.threshold.now) (λ e. e.doc < first_move.result → 0 < length (places_of c.args.finder.now.slop e.positions) → pos (g.C.ColumnThreshold.score c.args.threshold.now e.doc e.positions) ≤ℤ g.C.ColumnThreshold.limit c.args.threshold.now) (λ e low l some. low l) (drop 1 all) first_move.ensures.low;
    }

pub find-requires : goal.find-requires
find-requires g c =
    let es : List Entry = meeting (map g.S.DocSet.entries c.loop-doc.terms.docsets.items) in
    let all : List Entry = meeting (map g.S.DocSet.entries c.args.terms.now.docsets.items) in
    let inv = c.loop-doc.invariant in
    let at = inv.at in
    let on : first es < terminated = omega (arith, at, c.loop-doc-test.true) in
    let rest = behind_rest c.loop-doc.doc es all c.args.terms.now.meets.rises inv.left in
    let standing = first-columns es (HaveColumns-rest es all rest c.requires.columns) on in
    let here = longest-first es in
    let fewer = longest-rest es all rest in
    record {
      on = on;
      has_terms = standing.0;
      columns = standing.1;
      room = HasRoom-lower c.loop-doc.finder (longest (first_positions es)) (longest_column all) (omega (arith, here, fewer)) (inv.room (longest_column all) c.requires.room);
    }

pub returns-then-not-is_empty-clause-room : goal.returns-then-not-is_empty-clause-room
returns-then-not-is_empty-clause-room g c = λ n h. c.find.ensures.room n (c.loop-doc.invariant.room n h)

pub loop-doc-preserved : goal.loop-doc-preserved
loop-doc-preserved g c =
    let es : List Entry = meeting (map g.S.DocSet.entries c.loop-doc.terms.docsets.items) in
    let all : List Entry = meeting (map g.S.DocSet.entries c.args.terms.now.docsets.items) in
    let found : List Entry = meeting (map g.S.DocSet.entries c.find.new.terms.docsets.items) in
    let X : List Entry = drop 1 all in
    let inv = c.loop-doc.invariant in
    let doc : ℕ = c.loop-doc.doc in
    let moved = c.advance_above-doc-in-loop-doc in
    let slop : ℕ = c.args.finder.now.slop in
    let at = inv.at in
    let below = c.loop-doc-test.true in
    let same : found ≡ es = c.find.ensures.same in
    let rises = Rising-drop 1 0 all c.args.terms.now.meets.rises in
    let P : Entry → Type 0 = λ e. 0 < length (places_of slop e.positions) → pos (g.C.ColumnThreshold.score c.args.threshold.now e.doc e.positions) ≤ℤ g.C.ColumnThreshold.limit c.args.threshold.now in
    let is = ap first same in
    let up : doc < moved.result = (let later = moved.ensures.up (omega (arith, is, at, below)) in omega (arith, later, is, at)) in
    let step : drop 1 es ≡ from (doc + 1) X = drop-one 0 es c.loop-doc.terms.meets.rises ∙ (ap (λ n. from (n + 1) es) (sym at) ∙ (ap (from (doc + 1)) inv.left ∙ from-from doc (doc + 1) X (omega arith))) in
    let none : length (places_of slop (first_positions es)) ≡ 0 = (let ok = c.find.new.self.places.ok in let empty : vec_len c.find.new.self.places ≡ 0 = grind (arith, nat_tests, c.is_empty.ensures, c.if-not-is_empty.false) in let here = ap length (c.find.ensures.places ∙ ap (λ s. places_of s (first_positions es)) inv.slop) in sym here ∙ (sym ok.0 ∙ empty)) in
    let behind : AllByRecursion (λ e. e.doc < moved.result → P e) (drop 1 (from doc X)) = subst (λ xs. AllByRecursion (λ e. e.doc < moved.result → P e) (drop 1 xs)) (same ∙ inv.left)
    (all_weaker (λ e. e.doc < moved.result → pos (g.C.ColumnThreshold.score c.args.threshold.now e.doc e.positions) ≤ℤ g.C.ColumnThreshold.limit c.args.threshold.now) (λ e. e.doc < moved.result → P e) (λ e low l some. low l) (drop 1 found) moved.ensures.low) in
    record {
      at = moved.ensures.at;
      left = moved.ensures.rest ∙ (ap (λ xs. from moved.result (drop 1 xs)) same ∙ (ap (from moved.result) step ∙ from-from (doc + 1) moved.result X (omega (arith, up))));
      slop = c.find.ensures.slop ∙ inv.slop;
      room = λ n h. c.find.ensures.room n (inv.room n h);
      low = passed_on P doc moved.result 0 X rises inv.low
          (subst (λ xs. AllByRecursion P (take 1 xs)) inv.left (unplaced_first (λ e. pos (g.C.ColumnThreshold.score c.args.threshold.now e.doc e.positions) ≤ℤ g.C.ColumnThreshold.limit c.args.threshold.now) slop es none))
          behind;
    }
