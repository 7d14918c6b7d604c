-- What the entries of terms with positions have: no score, and few positions.
use Rattle.std.proofs.Common.{[], List, ap, ap₂, arith, if◌then◌else◌, map, max, refl, sum, sym, ◌+◌, ◌++◌, ◌==◌, ◌∙◌, ◌∷◌, ◌≡◌, ◌≤◌, true, false, ℕ}
use Rattle.std.proofs.lemmas.List.{map-append}
use Rattle.std.proofs.lemmas.List.Sums.{sum_by-cons}
use Rattle.std.specs.List.{sum_by}
use Rattle.definitions.specs.Postings.{Posting}
use Rattle.definitions.specs.Schema.{with_freqs_and_positions}
use Rattle.docsets.specs.Entries.{Entry}
use Rattle.segment_reader.specs.OpenedTerms.{entry_as}
use Rattle.docsets.specs.CombiningLaws.{sum-cons}
use Rattle.docsets.specs.ScoredEntries.{greatest_score}
use Rattle.docsets.proofs.AtLeastLaws.{greatest-last}
use Rattle.docsets.proofs.LeaderLaws.{entries-last}
use Rattle.docsets.specs.Members.{entries_at, entries_of, greatest_sum}
use Rattle.scorers.specs.Uniting.{counts_in}
use Rattle.scorers.proofs.UnitingLaws.{counts-append}

-- the entries of a term
abbrev told : List Posting → List Entry
told ps = map (entry_as with_freqs_and_positions) ps

pub unscored : (ps : List Posting) → greatest_score (told ps) ≡ 0
unscored [] = refl
unscored (p ∷ ps) = (let rest = unscored ps in let goal : max 0 (greatest_score (told ps)) ≡ 0 = omega (arith, rest) in goal)

-- the counts in a document are among all
pub counted : (d : ℕ) (ps : List Posting) → sum (counts_in (entries_of d (told ps))) ≤ sum_by (λ (p : Posting). p.count) ps
counted d [] = omega arith
counted d (p ∷ ps) =
    let rest = counted d ps in
    let all = sum_by-cons (λ (q : Posting). q.count) p ps in
    elim (d == p.doc) as (λ b. sum (counts_in (if b then entry_as with_freqs_and_positions p ∷ entries_of d (told ps) else entries_of d (told ps))) ≤ sum_by (λ (q : Posting). q.count) (p ∷ ps)) [
      | true ↦ (let here = sum-cons p.count (counts_in (entries_of d (told ps))) in let goal : sum (p.count ∷ counts_in (entries_of d (told ps))) ≤ sum_by (λ (q : Posting). q.count) (p ∷ ps) = omega (arith, rest, all, here) in goal)
      | false ↦ (let goal : sum (counts_in (entries_of d (told ps))) ≤ sum_by (λ (q : Posting). q.count) (p ∷ ps) = omega (arith, rest, all) in goal)
    ]

-- ---- one cursor more

pub unscored-more : {X : Type 0} (entries : X → List Entry) (xs ys : List X) (x : X) → ys ≡ xs ++ x ∷ [] → greatest_sum (map entries xs) ≡ 0 → greatest_score (entries x) ≡ 0 → greatest_sum (map entries ys) ≡ 0
unscored-more entries xs ys x is so_far one =
    let total = ap (λ zs. greatest_sum (map entries zs)) is ∙ (ap greatest_sum (map-append entries xs (x ∷ [])) ∙ greatest-last (map entries xs) (entries x)) in
    omega (arith, total, so_far, one)

pub counted-more : {X : Type 0} (entries : X → List Entry) (d most more : ℕ) (xs ys : List X) (x : X) → ys ≡ xs ++ x ∷ [] → sum (counts_in (entries_at d (map entries xs))) ≤ most → sum (counts_in (entries_of d (entries x))) ≤ more → sum (counts_in (entries_at d (map entries ys))) ≤ most + more
counted-more entries d most more xs ys x is so_far one =
    let total = ap (λ zs. sum (counts_in (entries_at d (map entries zs)))) is ∙ (ap (λ ess. sum (counts_in (entries_at d ess))) (map-append entries xs (x ∷ [])) ∙ (ap (λ es. sum (counts_in es)) (entries-last d (map entries xs) (entries x)) ∙ counts-append (entries_at d (map entries xs)) (entries_of d (entries x)))) in
    omega (arith, total, so_far, one)

pub same-more : {X : Type 0} (entries : X → List Entry) (xs ys zs ws : List X) (x z : X) → ys ≡ xs ++ x ∷ [] → ws ≡ zs ++ z ∷ [] → map entries zs ≡ map entries xs → entries z ≡ entries x → map entries ws ≡ map entries ys
same-more entries xs ys zs ws x z is are so_far one =
    ap (map entries) are ∙ (map-append entries zs (z ∷ []) ∙ (ap₂ (λ ess es. ess ++ es ∷ []) so_far one ∙ sym (ap (map entries) is ∙ map-append entries xs (x ∷ []))))
