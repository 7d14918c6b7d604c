-- Occurrences of one document in a row, and differences of positions.
use Rattle.std.proofs.Common.{[], ◌+◌, ◌-◌, ◌<◌, ◌≡◌, ◌≢◌, ◌≤◌, ◌∙◌, ◌∷◌, Bool, List, ap, arith, cond, drop, false, get_or, length, map, nat_eq, refl, suc, sym, take, true, zero, zero-add, ℕ}
use Rattle.std.proofs.lemmas.Bool.Decides.{nat_tests}
use Rattle.std.proofs.lemmas.List.{drop-drop, length-drop, length-map, length-take-le}
use Rattle.definitions.specs.Scoring.{DontFall}
use Rattle.layouts.specs.Positions.{differences}
use Rattle.definitions.specs.Postings.{Posting}
use Rattle.definitions.specs.Recorded.{ascending}
use Rattle.definitions.specs.Schema.{with_freqs_and_positions}
use Rattle.postings_writer.specs.Occurrences.{by_document, grouped, posting_in, postings_at}
use Rattle.postings_writer.specs.Serializing.{StandsAt}
use Rattle.postings_writer.specs.declared.recorder.Recorder.TheVariants.{TfAndPositions}

abbrev pub pick : Bool → List (ℕ × List ℕ) → List (ℕ × List ℕ) → List (ℕ × List ℕ)
pick b x y = cond b x y

-- the first group is of the first occurrence's document
first_group : (q : ℕ × ℕ) (gs : List (ℕ × List ℕ)) (p : ℕ × ℕ) → q.0 ≢ p.0 → grouped p (grouped q gs) ≡ (p.0, p.1 ∷ []) ∷ grouped q gs
first_group q [] p apart = (let e : nat_eq p.0 q.0 ≡ false = grind (arith, nat_tests) in ap (λ b. pick b ((q.0, p.1 ∷ q.1 ∷ []) ∷ []) ((p.0, p.1 ∷ []) ∷ (q.0, q.1 ∷ []) ∷ [])) e)
first_group q (g ∷ gs) p apart = go (nat_eq q.0 g.0) refl
  where
    go : (b : Bool) → nat_eq q.0 g.0 ≡ b → grouped p (pick b ((g.0, q.1 ∷ g.1) ∷ gs) ((q.0, q.1 ∷ []) ∷ g ∷ gs)) ≡ (p.0, p.1 ∷ []) ∷ pick b ((g.0, q.1 ∷ g.1) ∷ gs) ((q.0, q.1 ∷ []) ∷ g ∷ gs)
    go true e = (let same : q.0 ≡ g.0 = grind (arith, nat_tests) in let other : nat_eq p.0 g.0 ≡ false = grind (arith, nat_tests) in ap (λ b. pick b ((g.0, p.1 ∷ q.1 ∷ g.1) ∷ gs) ((p.0, p.1 ∷ []) ∷ (g.0, q.1 ∷ g.1) ∷ gs)) other)
    go false e = (let other : nat_eq p.0 q.0 ≡ false = grind (arith, nat_tests) in ap (λ b. pick b ((q.0, p.1 ∷ q.1 ∷ []) ∷ g ∷ gs) ((p.0, p.1 ∷ []) ∷ (q.0, q.1 ∷ []) ∷ g ∷ gs)) other)

-- the document of an occurrence
abbrev pub doc_at : List (ℕ × ℕ) → ℕ → ℕ
doc_at ps k = (get_or {A = ℕ × ℕ} ps k (0, 0)).0

abbrev seconds : List (ℕ × ℕ) → List ℕ
seconds ps = map (λ p. p.1) ps

-- occurrences of one document, which the next occurrence isn't of, are one group
pub run_grouped : (ps : List (ℕ × ℕ)) (n doc : ℕ) → n < length ps → ((k : ℕ) → k < suc n → doc_at ps k ≡ doc) → (suc n < length ps → doc_at ps (suc n) ≢ doc) → by_document ps ≡ (doc, seconds (take (suc n) ps)) ∷ by_document (drop (suc n) ps)
run_grouped [] n doc inside all ends = absurd (omega arith)
run_grouped (p ∷ []) zero doc inside all ends = ap (λ d. (d, p.1 ∷ []) ∷ none) (all 0 (omega arith))
  where
    none : List (ℕ × List ℕ)
    none = []
run_grouped (p ∷ q ∷ ps) zero doc inside all ends =
    let here : p.0 ≡ doc = all 0 (omega arith) in
    first_group q (by_document ps) p (λ same. ends (omega arith) (same ∙ here)) ∙ ap (λ d. (d, p.1 ∷ []) ∷ by_document (q ∷ ps)) here
run_grouped (p ∷ ps) (suc n) doc inside all ends =
    let here : p.0 ≡ doc = all 0 (omega arith) in
    let test : nat_eq p.0 doc ≡ true = grind (arith, nat_tests) in
    ap (grouped p) (run_grouped ps n doc (omega arith) (λ k below. all (suc k) (omega arith)) (λ more. ends (omega arith)))
    ∙ ap (λ b. pick b ((doc, p.1 ∷ seconds (take (suc n) ps)) ∷ by_document (drop (suc n) ps)) ((p.0, p.1 ∷ []) ∷ (doc, seconds (take (suc n) ps)) ∷ by_document (drop (suc n) ps))) test

-- ---- from an index on

get_or_from : (ps : List (ℕ × ℕ)) (start k : ℕ) → doc_at (drop start ps) k ≡ doc_at ps (start + k)
get_or_from ps zero k = ap (doc_at ps) (sym (zero-add k))
get_or_from [] (suc start) k = refl
get_or_from (p ∷ ps) (suc start) k = get_or_from ps start k ∙ ap (doc_at (p ∷ ps)) (let e : suc (start + k) ≡ suc start + k = omega arith in e)

-- the occurrences from one on that are of its document, up to an end
pub run_from : (ps : List (ℕ × ℕ)) (start end doc : ℕ) → start < end → end ≤ length ps → ((k : ℕ) → start ≤ k → k < end → doc_at ps k ≡ doc) → (end < length ps → doc_at ps end ≢ doc) → by_document (drop start ps) ≡ (doc_at ps start, seconds (take (end - start) (drop start ps))) ∷ by_document (drop end ps)
run_from ps start end doc above within all ends =
    let n = end - start - 1 in
    let long : length (drop start ps) ≡ length ps - start = length-drop start ps in
    let up : suc n ≡ end - start = omega arith in
    let whole = run_grouped (drop start ps) n doc (omega arith) (λ k below. get_or_from ps start k ∙ all (start + k) (omega arith) (omega arith)) (λ more same. ends (omega arith) (ap (doc_at ps) (let e : end ≡ start + suc n = omega arith in e) ∙ sym (get_or_from ps start (suc n)) ∙ same)) in
    whole
    ∙ ap (λ d. (d, seconds (take (suc n) (drop start ps))) ∷ by_document (drop (suc n) (drop start ps))) (sym (all start (omega arith) above))
    ∙ ap (λ m. (doc_at ps start, seconds (take m (drop start ps))) ∷ by_document (drop m (drop start ps))) up
    ∙ ap (λ qs. (doc_at ps start, seconds (take (end - start) (drop start ps))) ∷ by_document qs) (drop-drop (end - start) start ps ∙ ap (λ m. drop m ps) (let e : start + (end - start) ≡ end = omega arith in e))

-- ---- differences

-- what doesn't fall begins at 0 or above
pub zero_first : (xs : List ℕ) → DontFall xs → DontFall (0 ∷ xs)
zero_first [] rising = tt
zero_first (x ∷ xs) rising = (omega arith, rising)

-- ---- a posting

abbrev posting : ℕ → ℕ → List ℕ → Posting
posting doc count positions = record { doc = doc; count = count; positions = positions }

-- the posting of occurrences in a row
pub occurrence_stands : (occurrences : List (ℕ × ℕ)) (at count end : ℕ) (deltas : List ℕ) → at < end → end ≤ length occurrences → by_document (drop at occurrences) ≡ (doc_at occurrences at, seconds (take (end - at) (drop at occurrences))) ∷ by_document (drop end occurrences) → count ≡ end - at → deltas ≡ differences 0 (ascending (seconds (take (end - at) (drop at occurrences)))) → StandsAt (TfAndPositions occurrences) at (doc_at occurrences at) count end deltas
occurrence_stands occurrences at count end deltas above within run counted deltas_are =
    let qs = seconds (take (end - at) (drop at occurrences)) in
    let long : length qs ≡ count = length-map (take (end - at) (drop at occurrences)) (λ (p : ℕ × ℕ). p.1) ∙ length-take-le (end - at) (drop at occurrences) (omega (arith, length-drop at occurrences)) ∙ sym counted in
    record {
      positions = ascending qs;
      rest = ap (map (posting_in with_freqs_and_positions)) run ∙ ap (λ n. posting (doc_at occurrences at) n (ascending qs) ∷ postings_at with_freqs_and_positions (drop end occurrences)) long;
      deltas_are = deltas_are;
      further = above;
    }
