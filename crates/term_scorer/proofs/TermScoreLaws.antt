-- Laws of the scores of a term's entries.
use Rattle.std.proofs.Common.{[], ◌*◌, ◌<◌, ◌∙◌, ◌∷◌, ◌≡◌, ◌≤◌, List, ap, arith, drop, refl, slice_index, suc, sym, zero, ℕ}
use Rattle.docsets.specs.Entries.{Entry, IsRest, first, first_count, first_score, from}
use Rattle.docsets.proofs.EntryLaws.{from-in, from-out}
use Rattle.definitions.specs.Postings.{terminated}
use Rattle.docsets.specs.ScoredEntries.{greatest_score}
use Rattle.definitions.proofs.Lists.{by_order}
use Rattle.term_scorer.specs.TermScores.{TermSimilarity, documents_bound, score_by, term_scored}
use Rattle.term_scorer.specs.TermScoreLaws.{score-below}

pub greatest-below : (sim : TermSimilarity) (ids : List ℕ) (es : List Entry) → greatest_score (term_scored sim ids es) ≤ sim.boost * sim.weight
greatest-below sim ids [] = omega arith
greatest-below sim ids (e ∷ es) = (let ih = greatest-below sim ids es in let le = score-below sim (slice_index ids e.doc) e.count in omega (arith, ih, le))

-- the first score, by what the first entry tells
pub first_score-term : (sim : TermSimilarity) (ids : List ℕ) (es : List Entry) → first (term_scored sim ids es) < terminated → first_score (term_scored sim ids es) ≡ score_by sim (slice_index ids (first (term_scored sim ids es))) (first_count (term_scored sim ids es))
first_score-term sim ids [] l = absurd (omega (arith, l))
first_score-term sim ids (e ∷ es) l = refl

-- ---- the documents are below a bound
pub bound-of : (n : ℕ) (es : List Entry) → from n es ≡ [] → documents_bound es ≤ n
bound-of n [] none = omega arith
bound-of n (e ∷ es) none = by_order n e.doc (documents_bound (e ∷ es) ≤ n)
    (λ i. absurd (let some = sym (from-in n e es i) ∙ none in cc))
    (λ o. (let ih = bound-of n es (sym (from-out n e es o) ∙ none) in omega (arith, ih, o)))

pub bound-drop : (n : ℕ) (es : List Entry) → documents_bound (drop n es) ≤ documents_bound es
bound-drop zero es = omega arith
bound-drop (suc n) [] = omega arith
bound-drop (suc n) (e ∷ es) = (let ih = bound-drop n es in omega (arith, ih))

pub bound-rest : (rest es : List Entry) → IsRest rest es → documents_bound rest ≤ documents_bound es
bound-rest rest es is = (let le = bound-drop is.0 es in let same = ap documents_bound is.1 in omega (arith, le, same))
