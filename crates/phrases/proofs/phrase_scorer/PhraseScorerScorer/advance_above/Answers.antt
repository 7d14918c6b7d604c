use Rattle.std.proofs.Common.{List, ap, arith, drop, length, map, refl, subst, sym, to_z-of_z, ◌<◌, ◌∙◌, ◌≡◌, ℕ}
use Rattle.std.specs.Prelude.{pos, ◌≤ℤ◌}
use Rattle.std.specs.List.{AllByRecursion}
use Rattle.docsets.proofs.EntryLaws.{IsRest-from, Rising-drop}
use Rattle.docsets.proofs.ScoredEntryLaws.{IsRest-along}
use Rattle.docsets.specs.Entries.{Entry, Rising, first, from}
use Rattle.intersections.specs.Meetings.{meeting}
use Rattle.phrases.proofs.PassedPhrases.{phrased_low}
use Rattle.phrases.proofs.PhraseEntryLaws.{IsRest-on, from-phrased, phrased-stands}
use Rattle.phrases.proofs.StandingLaws.{stands-on}
use Rattle.phrases.specs.PhraseEntries.{phrased}
use Rattle.phrases.specs.PhraseScores.{phrase_score_by}
use Rattle.phrases.specs.Places.{places_of}
use Rattle.phrases.specs.Settled.{IsSettled}
use Rattle.phrases.specs.declared.place_finder.PlaceFinder.{PlaceFinder}
use Rattle.phrases.proofs.phrase_scorer.PhraseScorerScorer.advance_above.Goals as goal

-- a settled finder stands where the phrase stands first
settled_stands : (score : ℕ → ℕ → ℕ) (f : PlaceFinder) (es : List Entry) → IsSettled f es → Rising 0 es → (first (phrased score f.slop es) ≡ first es) × (phrased score f.slop (drop 1 es) ≡ drop 1 (phrased score f.slop es))
settled_stands score f es settled rises = phrased-stands score f.slop es (λ l. (let some = settled.has_places l in let is = ap length (settled.places l) in omega (arith, some, is))) rises

pub invariant_of-self : goal.invariant_of-self
invariant_of-self g c =
    let s = c.args.self.now in
    let es : List Entry = meeting (map g.S.DocSet.entries s.intersection_docset.docsets.items) in
    let moved = c.settle_above in
    let rest : List Entry = meeting (map g.S.DocSet.entries moved.new.terms.docsets.items) in
    let is = IsRest-on rest (drop 1 es) es (IsRest-along rest (from moved.result (drop 1 es)) (drop 1 es) moved.ensures.left (IsRest-from moved.result 0 (drop 1 es) (Rising-drop 1 0 es s.intersection_docset.meets.rises))) (1, refl) in
    record { standing = stands-on s.finder moved.new.finder (length s.fieldnorm_reader) rest es is s.standing.columns s.standing.room s.standing.covered moved.ensures.room moved.ensures.settled }

pub returns-clause-passes : goal.returns-clause-passes
returns-clause-passes g c =
    let s = c.args.self.now in
    let es : List Entry = meeting (map g.S.DocSet.entries s.intersection_docset.docsets.items) in
    let moved = c.settle_above in
    let rest : List Entry = meeting (map g.S.DocSet.entries moved.new.terms.docsets.items) in
    let score : ℕ → ℕ → ℕ = phrase_score_by s.similarity_weight_opt s.fieldnorm_reader in
    let slop : ℕ = s.finder.slop in
    let stood = settled_stands score s.finder es s.standing.settled s.intersection_docset.meets.rises in
    let stands = settled_stands score moved.new.finder rest moved.ensures.settled moved.new.terms.meets.rises in
    let at : moved.result ≡ first (phrased score moved.new.finder.slop rest) = moved.ensures.at ∙ sym stands.0 in
    let low = subst (λ t. AllByRecursion (λ e. e.doc < moved.result → 0 < length (places_of slop e.positions) → pos (score e.doc (length (places_of slop e.positions))) ≤ℤ t) (drop 1 es)) (to_z-of_z c.ranges.threshold) moved.ensures.low in
    record {
      rest = ap (λ n. phrased score n rest) moved.ensures.slop ∙ (ap (phrased score slop) moved.ensures.left ∙ (sym (from-phrased score slop moved.result (drop 1 es)) ∙ (ap (from moved.result) stood.1 ∙ ap (λ d. from d (drop 1 (phrased score slop es))) at)));
      low = subst (λ xs. AllByRecursion (λ e. e.doc < first (phrased score moved.new.finder.slop rest) → pos e.score ≤ℤ c.args.threshold) xs) stood.1
          (subst (λ d. AllByRecursion (λ e. e.doc < d → pos e.score ≤ℤ c.args.threshold) (phrased score slop (drop 1 es))) at (phrased_low score slop moved.result c.args.threshold (drop 1 es) low));
    }

pub returns-clause-at : goal.returns-clause-at
returns-clause-at g c =
    let s = c.args.self.now in
    let moved = c.settle_above in
    let rest : List Entry = meeting (map g.S.DocSet.entries moved.new.terms.docsets.items) in
    moved.ensures.at ∙ sym (settled_stands (phrase_score_by s.similarity_weight_opt s.fieldnorm_reader) moved.new.finder rest moved.ensures.settled moved.new.terms.meets.rises).0
