-- What the scorer of a phrase has, by what was read of its terms.
use Rattle.std.proofs.Common.{[], List, ap, arith, get_or, length, map, refl, sym, ◌-◌, ◌<◌, ◌≡◌, ◌≤◌, ◌∙◌, ◌∷◌, ℕ}
use Rattle.std.proofs.lemmas.List.{length-map}
use Rattle.std.specs.List.{AllByRecursion}
use Rattle.docsets.proofs.EntryLaws.{from-out}
use Rattle.docsets.specs.Entries.{Entry, from, most_positions}
use Rattle.definitions.specs.Query.{Terms}
use Rattle.definitions.specs.Scoring.{greatest_of, phrase_field}
use Rattle.definitions.specs.Terms.{field_of}
use Rattle.docsets.specs.ScoredEntries.{greatest_score}
use Rattle.definitions.proofs.Lists.{by_order as by_place}
use Rattle.leaf_weights.specs.ReadTerms.{placed_left}
use Rattle.phrases.proofs.Adjusted.{adjusted-is}
use Rattle.phrases.proofs.MeetingEntries.{bound-meeting}
use Rattle.phrases.specs.PhraseEntries.{HaveColumns, adjusted_terms, phrased, placed}
use Rattle.phrases.proofs.PhraseEntryLaws.{from-phrased, from-placed}
use Rattle.phrases.specs.PhraseEntryLaws.{phrased-none, phrased-some}
use Rattle.phrases.proofs.PlaceCounts.{places-few}
use Rattle.phrases.specs.Places.{places_of}
use Rattle.segment_postings.specs.Cursors.{entries_left}
use Rattle.segment_postings.specs.declared.segment_postings.SegmentPostings.{SegmentPostings}
use Rattle.term_scorer.specs.TermScores.{documents_bound}

-- ---- documents

bound-none : (n : ℕ) (es : List Entry) → documents_bound es ≤ n → from n es ≡ []
bound-none n [] l = refl
bound-none n (e ∷ es) l = from-out n e es (omega (arith, l)) ∙ bound-none n es (omega (arith, l))

placed-within : (g n : ℕ) (read : List (ℕ × SegmentPostings)) → AllByRecursion (λ (t : ℕ × SegmentPostings). from n (entries_left t.1) ≡ []) read → AllByRecursion (λ (t : ℕ × SegmentPostings). from n (placed (g - t.0) (entries_left t.1)) ≡ []) read
placed-within g n [] all = tt
placed-within g n (t ∷ ts) all = (from-placed (g - t.0) n (entries_left t.1) ∙ ap (placed (g - t.0)) all.0, placed-within g n ts all.1)

-- the phrase has no document that its terms haven't
pub phrase-within : (score : ℕ → ℕ → ℕ) (slop n : ℕ) (read : List (ℕ × SegmentPostings)) → 0 < length read → AllByRecursion (λ (t : ℕ × SegmentPostings). from n (entries_left t.1) ≡ []) read → from n (phrased score slop (adjusted_terms (placed_left read))) ≡ []
phrase-within score slop n read some all =
    let g : ℕ = greatest_of (map (λ (u : ℕ × SegmentPostings). u.0) read) in
    let bound = bound-meeting (λ (t : ℕ × SegmentPostings). placed (g - t.0) (entries_left t.1)) n read some (placed-within g n read all) in
    from-phrased score slop n (adjusted_terms (placed_left read))
    ∙ ap (λ es. phrased score slop (from n es)) (sym (adjusted-is entries_left read))
    ∙ ap (phrased score slop) (bound-none n _ bound)

-- ---- scores

pub phrase-bounded : (score : ℕ → ℕ → ℕ) (slop most : ℕ) (es : List Entry) → ((d count : ℕ) → score d count ≤ most) → greatest_score (phrased score slop es) ≤ most
phrase-bounded score slop most [] small = omega arith
phrase-bounded score slop most (e ∷ es) small =
    let rest = phrase-bounded score slop most es small in
    let here = small e.doc (length (places_of slop e.positions)) in
    by_place 1 (length (places_of slop e.positions)) (greatest_score (phrased score slop (e ∷ es)) ≤ most)
    (λ some. let is = ap greatest_score (phrased-some score slop e es (omega (arith, some))) in omega (arith, is, rest, here))
    (λ none. let is = ap greatest_score (phrased-none score slop e es (omega (arith, none))) in omega (arith, is, rest))

-- ---- places

pub few-places : (score : ℕ → ℕ → ℕ) (slop : ℕ) (es : List Entry) → HaveColumns es → most_positions (phrased score slop es) ≤ 4294967295
few-places score slop [] h = omega arith
few-places score slop (e ∷ es) h =
    let rest = few-places score slop es h.2 in
    let few = places-few slop e.positions h.1 in
    by_place 1 (length (places_of slop e.positions)) (most_positions (phrased score slop (e ∷ es)) ≤ 4294967295)
    (λ some. let is = ap most_positions (phrased-some score slop e es (omega (arith, some))) in omega (arith, is, rest, few))
    (λ none. let is = ap most_positions (phrased-none score slop e es (omega (arith, none))) in omega (arith, is, rest))

-- ---- terms

-- as many are read as there are terms
pub as-many : {X Y : Type 0} (read : List (ℕ × X)) (terms : List (ℕ × Y)) → map (λ t. t.0) read ≡ map (λ t. t.0) terms → length read ≡ length terms
as-many read terms same = sym (length-map read (λ t. t.0)) ∙ ap length same ∙ length-map terms (λ t. t.0)

-- the first term has the phrase's field
pub first-field : (terms : Terms) (t : ℕ × List ℕ) → 0 < length terms → field_of (get_or terms 0 t).1 ≡ phrase_field terms
first-field [] t some = absurd (omega (arith, some))
first-field (u ∷ us) t some = refl
