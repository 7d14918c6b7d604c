-- Laws of the documents that enough lists have.
use Rattle.std.proofs.Common.{[], Bool, List, ap, arith, drop, false, if◌then◌else◌, le-leb, length, map, max, nat_le, refl, suc, sum, sym, true, zero, ◌++◌, ◌+◌, ◌-◌, ◌<◌, ◌∙◌, ◌∷◌, ◌≡◌, ◌≤◌, ℕ}
use Rattle.std.proofs.lemmas.Bool.{lt-leb}
use Rattle.definitions.specs.Postings.{terminated}
use Rattle.docsets.specs.Entries.{Entry, Rising, first, from}
use Rattle.docsets.proofs.EntryLaws.{none_left}
use Rattle.docsets.specs.ScoredEntries.{greatest_score}
use Rattle.definitions.proofs.Lists.{by_order}
use Rattle.docsets.specs.Members.{at_document, at_least, combining, enough, entries_at, greatest_sum, joining, least, listed, walk}
use Rattle.docsets.proofs.MemberLaws.{entries-least, entries_at-cut, entries_at-kept, from-listed, has-least, least-both, least-small, listed-end, listed-found, listed-same, listed-skip, sum-greatest}

pub too_few : (minimum : ℕ) (ess : List (List Entry)) (d : ℕ) → length (entries_at d ess) < minimum → enough minimum ess d ≡ false
too_few minimum ess d l = lt-leb minimum (length (entries_at d ess)) l

-- those before the least can be passed
pub chosen-low : (minimum : ℕ) (make : ℕ → List Entry → Entry) (ess : List (List Entry)) → 1 ≤ minimum → least ess ≤ terminated → ((d : ℕ) → d < least ess → entries_at d ess ≡ []) → at_least minimum make ess ≡ listed (enough minimum ess) (λ d. make d (entries_at d ess)) (least ess)
chosen-low minimum make ess some small none = listed-skip (enough minimum ess) (λ d. make d (entries_at d ess)) 0 (least ess) (omega arith) small (λ d b h. too_few minimum ess d (let gone = ap length (none d h) in omega (arith, gone, some)))

-- a cut of all lists is a cut of what is chosen
pub chosen-from : (minimum : ℕ) (make : ℕ → List Entry → Entry) (ess : List (List Entry)) (t : ℕ) → 1 ≤ minimum → t ≤ terminated → at_least minimum make (map (from t) ess) ≡ from t (at_least minimum make ess)
chosen-from minimum make ess t some small =
    listed-skip (enough minimum (map (from t) ess)) (λ d. make d (entries_at d (map (from t) ess))) 0 t (omega arith) small (λ d b h. too_few minimum (map (from t) ess) d (let gone = ap length (entries_at-cut d t ess h) in omega (arith, gone, some)))
    ∙ (listed-same (enough minimum (map (from t) ess)) (enough minimum ess) (λ d. make d (entries_at d (map (from t) ess))) (λ d. make d (entries_at d ess)) t (λ d l h. ap (λ xs. nat_le minimum (length xs)) (entries_at-kept d t ess l)) (λ d l h. ap (make d) (entries_at-kept d t ess l))
    ∙ sym (from-listed (enough minimum ess) (λ d. make d (entries_at d ess)) 0 t (omega arith) small))

-- the least document is chosen
pub chosen-here : (minimum : ℕ) (make : ℕ → List Entry → Entry) (ess : List (List Entry)) → 1 ≤ minimum → least ess < terminated → ((d : ℕ) → d < least ess → entries_at d ess ≡ []) → minimum ≤ length (entries_at (least ess) ess) → at_least minimum make ess ≡ at_document (least ess) (make (least ess) (entries_at (least ess) ess)) ∷ listed (enough minimum ess) (λ d. make d (entries_at d ess)) (least ess + 1)
chosen-here minimum make ess some small none many = chosen-low minimum make ess some (omega (arith, small)) none ∙ listed-found (enough minimum ess) (λ d. make d (entries_at d ess)) (least ess) small (le-leb minimum (length (entries_at (least ess) ess)) many)

-- none is
pub chosen-end : (minimum : ℕ) (make : ℕ → List Entry → Entry) (ess : List (List Entry)) → 1 ≤ minimum → least ess ≡ terminated → ((d : ℕ) → d < least ess → entries_at d ess ≡ []) → at_least minimum make ess ≡ []
chosen-end minimum make ess some is none = chosen-low minimum make ess some (omega (arith, is)) none ∙ listed-end (enough minimum ess) (λ d. make d (entries_at d ess)) (least ess) (omega (arith, is))

-- where too few lists have the least document, it can be passed
pub chosen-past : (minimum : ℕ) (make : ℕ → List Entry → Entry) (ess moved : List (List Entry)) (doc : ℕ) → 1 ≤ minimum → doc ≡ least ess → doc < terminated → ((d : ℕ) → d < least ess → entries_at d ess ≡ []) → length (entries_at doc ess) < minimum → moved ≡ map (from (doc + 1)) ess → at_least minimum make moved ≡ at_least minimum make ess
chosen-past minimum make ess moved doc some is small none few same =
    ap (at_least minimum make) same
    ∙ (chosen-from minimum make ess (doc + 1) some (omega (arith, small))
    ∙ (from-listed (enough minimum ess) (λ d. make d (entries_at d ess)) 0 (doc + 1) (omega arith) (omega (arith, small))
    ∙ sym (listed-skip (enough minimum ess) (λ d. make d (entries_at d ess)) 0 (doc + 1) (omega arith) (omega (arith, small)) (λ d b h. too_few minimum ess d
    (by_order doc d (length (entries_at d ess) < minimum)
    (λ i. (let here : d ≡ doc = omega (arith, i, h) in let size = ap (λ x. length (entries_at x ess)) here in omega (arith, size, few)))
    (λ o. (let gone = ap length (none d (omega (arith, o, is))) in omega (arith, gone, some))))))))

-- makers that agree make one list
pub same-making : (minimum : ℕ) (f g : ℕ → List Entry → Entry) (ess : List (List Entry)) → ((d : ℕ) (es : List Entry) → f d es ≡ g d es) → at_least minimum f ess ≡ at_least minimum g ess
same-making minimum f g ess same = listed-same (enough minimum ess) (enough minimum ess) (λ d. f d (entries_at d ess)) (λ d. g d (entries_at d ess)) 0 (λ d l h. refl) (λ d l h. same d (entries_at d ess))

-- the least document is the first of a union
pub union-first : {X : Type 0} (entries : X → List Entry) → ((x : X) → Rising 0 (entries x)) → (make : ℕ → List Entry → Entry) (xs : List X) → first (at_least 1 make (map entries xs)) ≡ least (map entries xs)
union-first entries rising make xs =
    let ess : List (List Entry) = map entries xs in
    let small = least-small entries rising xs in
    by_order terminated (least ess) (first (at_least 1 make ess) ≡ least ess)
    (λ i. (let end : least ess ≡ terminated = omega (arith, i, small) in ap first (chosen-end 1 make ess (omega arith) end (λ d l. entries-least entries rising d xs l)) ∙ sym end))
    (λ o. (let some = has-least entries rising xs o in ap first (chosen-here 1 make ess (omega arith) o (λ d l. entries-least entries rising d xs l) (omega (arith, some)))))

-- those that come after the least document
pub union-next : {X : Type 0} (entries : X → List Entry) → ((x : X) → Rising 0 (entries x)) → (make : ℕ → List Entry → Entry) (xs : List X) → least (map entries xs) < terminated → from (least (map entries xs) + 1) (at_least 1 make (map entries xs)) ≡ drop 1 (at_least 1 make (map entries xs))
union-next entries rising make xs l =
    let ess : List (List Entry) = map entries xs in
    let some = has-least entries rising xs l in
    from-listed (enough 1 ess) (λ d. make d (entries_at d ess)) 0 (least ess + 1) (omega arith) (omega (arith, l))
    ∙ sym (ap (drop 1) (chosen-here 1 make ess (omega arith) l (λ d b. entries-least entries rising d xs b) (omega (arith, some))))

-- a union at its end
pub union-ended : {X : Type 0} (entries : X → List Entry) → ((x : X) → Rising 0 (entries x)) → (make : ℕ → List Entry → Entry) (xs : List X) → terminated ≤ least (map entries xs) → at_least 1 make (map entries xs) ≡ drop 1 (at_least 1 make (map entries xs))
union-ended entries rising make xs l =
    let small = least-small entries rising xs in
    let none = chosen-end 1 make (map entries xs) (omega arith) (omega (arith, l, small)) (λ d b. entries-least entries rising d xs b) in
    none ∙ sym (ap (drop 1) none)

-- nothing is left to cut there
pub ended-same : {X : Type 0} (entries : X → List Entry) → ((x : X) → Rising 0 (entries x)) → (t : ℕ) (xs : List X) → terminated ≤ least (map entries xs) → map entries xs ≡ map (from t) (map entries xs)
ended-same entries rising t [] l = refl
ended-same entries rising t (x ∷ xs) l =
    let both = least-both (entries x) (map entries xs) in
    let none = none_left 0 (entries x) (rising x) (omega (arith, l, both.0)) in
    ap (λ es. es ∷ map entries xs) (none ∙ sym (ap (from t) none)) ∙ ap (λ ess. from t (entries x) ∷ ess) (ended-same entries rising t xs (omega (arith, l, both.1)))

-- ---- the greatest score

greatest-walk : (f : ℕ → Bool) (s : ℕ → Entry) (bound low n : ℕ) → ((d : ℕ) → (s d).score ≤ bound) → greatest_score (walk f s low n) ≤ bound
unfolding walk
greatest-walk f s bound low zero h = omega arith
greatest-walk f s bound low (suc n) h =
    let ih = greatest-walk f s bound (low + 1) n h in
    let here = h low in
    elim (f low) as (λ b. greatest_score (if b then at_document low (s low) ∷ walk f s (low + 1) n else walk f s (low + 1) n) ≤ bound) [
      | true ↦ (let goal : max (s low).score (greatest_score (walk f s (low + 1) n)) ≤ bound = omega (arith, ih, here) in goal)
      | false ↦ ih
    ]

greatest-listed : (f : ℕ → Bool) (s : ℕ → Entry) (bound low : ℕ) → ((d : ℕ) → (s d).score ≤ bound) → greatest_score (listed f s low) ≤ bound
unfolding listed
greatest-listed f s bound low h = greatest-walk f s bound low (terminated - low) h

-- scores that are added up are no more than the greatest of each list
pub greatest-summed : {X : Type 0} (entries : X → List Entry) → ((x : X) → Rising 0 (entries x)) → (minimum : ℕ) (xs : List X) → greatest_score (at_least minimum (combining sum) (map entries xs)) ≤ greatest_sum (map entries xs)
greatest-summed entries rising minimum xs = greatest-listed (enough minimum (map entries xs)) (λ d. combining sum d (entries_at d (map entries xs))) (greatest_sum (map entries xs)) 0 (λ d. sum-greatest entries rising d xs)

pub greatest-joined : {X : Type 0} (entries : X → List Entry) → ((x : X) → Rising 0 (entries x)) → (minimum : ℕ) (xs : List X) → greatest_score (at_least minimum joining (map entries xs)) ≤ greatest_sum (map entries xs)
greatest-joined entries rising minimum xs = greatest-listed (enough minimum (map entries xs)) (λ d. joining d (entries_at d (map entries xs))) (greatest_sum (map entries xs)) 0 (λ d. sum-greatest entries rising d xs)

pub greatest-last : (ess : List (List Entry)) (es : List Entry) → greatest_sum (ess ++ es ∷ []) ≡ greatest_sum ess + greatest_score es
greatest-last [] es = omega arith
greatest-last (xs ∷ ess) es = (let ih = greatest-last ess es in omega (arith, ih))
