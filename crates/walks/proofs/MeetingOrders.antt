-- What several lists all have doesn't depend on which of them leads.
use Rattle.std.proofs.Common.{[], Bool, List, ap, ap₂, arith, drop, false, get_or, if◌then◌else◌, length, map, nat_le, refl, suc, sum, sym, take, true, zero, ◌++◌, ◌+◌, ◌-◌, ◌<◌, ◌∙◌, ◌∷◌, ◌≡◌, ℕ}
use Rattle.std.specs.List.{remove}
use Rattle.std.proofs.lemmas.List.{drop-map, get_or-map, length-append, map-append, take-map}
use Rattle.std.proofs.lemmas.List.Edits.{length-remove}
use Rattle.definitions.specs.Postings.{terminated}
use Rattle.docsets.proofs.MemberLaws.{sum-scores}
use Rattle.docsets.specs.Entries.{Entry}
use Rattle.docsets.specs.Members.{at_document, enough, entries_at, entries_of, greatest_sum, joining, listed, scores_in, walk}
use Rattle.docsets.specs.ScoredEntries.{pairs_of}
use Rattle.intersections.specs.Meetings.{meeting}

-- one of the lists, and then the others
abbrev pub led_by : ℕ → List (List Entry) → List (List Entry)
led_by i ess = get_or ess i [] ∷ remove ess i

-- how many have a document
count_led : (d i : ℕ) (ess : List (List Entry)) → i < length ess → length (entries_at d (led_by i ess)) ≡ length (entries_at d ess)
count_led d i [] within = absurd (omega (arith, within))
count_led d zero (es ∷ ess) within = refl
count_led d (suc i) (es ∷ ess) within =
    let one = get_or ess i [] in
    let ih = count_led d i ess (omega (arith, within)) in
    let led = length-append (entries_of d one) (entries_at d (remove ess i)) in
    let all = length-append (entries_of d one) (entries_of d es ++ entries_at d (remove ess i)) in
    let rest = length-append (entries_of d es) (entries_at d (remove ess i)) in
    let whole = length-append (entries_of d es) (entries_at d ess) in
    omega (arith, ih, led, all, rest, whole)

-- and their scores
sum_led : (d i : ℕ) (ess : List (List Entry)) → i < length ess → sum (scores_in (entries_at d (led_by i ess))) ≡ sum (scores_in (entries_at d ess))
sum_led d i [] within = absurd (omega (arith, within))
sum_led d zero (es ∷ ess) within = refl
sum_led d (suc i) (es ∷ ess) within =
    let one = get_or ess i [] in
    let ih = sum_led d i ess (omega (arith, within)) in
    let led = sum-scores (entries_of d one) (entries_at d (remove ess i)) in
    let all = sum-scores (entries_of d one) (entries_of d es ++ entries_at d (remove ess i)) in
    let rest = sum-scores (entries_of d es) (entries_at d (remove ess i)) in
    let whole = sum-scores (entries_of d es) (entries_at d ess) in
    omega (arith, ih, led, all, rest, whole)

pub greatest_led : (i : ℕ) (ess : List (List Entry)) → i < length ess → greatest_sum (led_by i ess) ≡ greatest_sum ess
greatest_led i [] within = absurd (omega (arith, within))
greatest_led zero (es ∷ ess) within = refl
greatest_led (suc i) (es ∷ ess) within = (let ih = greatest_led i ess (omega (arith, within)) in omega (arith, ih))

-- flags that agree, and entries whose scores do
pairs_walk : (f g : ℕ → Bool) (s t : ℕ → Entry) (low n : ℕ) → ((d : ℕ) → f d ≡ g d) → ((d : ℕ) → (s d).score ≡ (t d).score) → pairs_of (walk f s low n) ≡ pairs_of (walk g t low n)
unfolding walk
pairs_walk f g s t low zero ff ss = refl
pairs_walk f g s t low (suc n) ff ss =
    let ih = pairs_walk f g s t (low + 1) n ff ss in
    ap (λ b. pairs_of (if b then at_document low (s low) ∷ walk f s (low + 1) n else walk f s (low + 1) n)) (ff low)
    ∙ elim (g low) as (λ b. pairs_of (if b then at_document low (s low) ∷ walk f s (low + 1) n else walk f s (low + 1) n) ≡ pairs_of (if b then at_document low (t low) ∷ walk g t (low + 1) n else walk g t (low + 1) n)) [ true ↦ ap₂ (λ x ps. (low, x) ∷ ps) (ss low) ih | false ↦ ih ]

pub pairs_listed : (f g : ℕ → Bool) (s t : ℕ → Entry) (low : ℕ) → ((d : ℕ) → f d ≡ g d) → ((d : ℕ) → (s d).score ≡ (t d).score) → pairs_of (listed f s low) ≡ pairs_of (listed g t low)
unfolding listed
pairs_listed f g s t low ff ss = pairs_walk f g s t low (terminated - low) ff ss

pub pairs_led : (i : ℕ) (ess : List (List Entry)) → i < length ess → pairs_of (meeting (led_by i ess)) ≡ pairs_of (meeting ess)
pairs_led i ess within =
    let fewer = length-remove ess i within in
    let long : length (led_by i ess) ≡ length ess = omega (arith, fewer) in
    pairs_listed (enough (length (led_by i ess)) (led_by i ess)) (enough (length ess) ess) (λ d. joining d (entries_at d (led_by i ess))) (λ d. joining d (entries_at d ess)) 0 (λ d. ap₂ nat_le long (count_led d i ess within)) (λ d. sum_led d i ess within)

-- one that is taken out, and what is left
pub led_mapped : {X : Type 0} (entries : X → List Entry) (i : ℕ) (x : X) (xs ys : List X) → i < length xs → x ≡ get_or xs i x → ys ≡ remove xs i → entries x ∷ map entries ys ≡ led_by i (map entries xs)
led_mapped entries i x xs ys within is left =
    ap₂ (λ es ess. es ∷ ess) (ap entries is ∙ sym (get_or-map entries xs i x [] within))
    (ap (map entries) left ∙ (map-append entries (take i xs) (drop (suc i) xs) ∙ ap₂ (λ a b. a ++ b) (sym (take-map entries i xs)) (sym (drop-map entries (suc i) xs))))
