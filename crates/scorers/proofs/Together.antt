-- The document on which a union stands that looks no further.
use Rattle.std.proofs.Common.{◌+◌, ◌<◌, ◌∙◌, ◌∷◌, ◌≡◌, ◌≤◌, Bool, List, ap, arith, if◌then◌else◌, map, subst, sum, sym, true, ℕ}
use Rattle.definitions.specs.Postings.{terminated}
use Rattle.definitions.specs.Scoring.{max_score}
use Rattle.docsets.specs.Entries.{Entry, Rising, first, first_count, first_positions, first_score, from, single}
use Rattle.docsets.specs.EntryLaws.{Rising-from}
use Rattle.docsets.proofs.AtLeastLaws.{chosen-from, chosen-here, union-first}
use Rattle.docsets.proofs.MemberLaws.{Rising-listed, entries-least, has-least, sum-greatest}
use Rattle.scorers.specs.Uniting.{counts_in, told_positions, uniting}
use Rattle.scorers.proofs.UnitingLaws.{counts-cut, united-here}
use Rattle.docsets.specs.Members.{at_least, enough, entries_at, greatest_sum, least, listed, scores_in}
use Rattle.scorers.specs.Together.{IsTogether}

pub Rising-summed : {X : Type 0} (entries : X → List Entry) → ((x : X) → Rising 0 (entries x)) → (told : Bool) (xs : List X) → greatest_sum (map entries xs) ≤ max_score → Rising 0 (at_least 1 (uniting told) (map entries xs))
Rising-summed entries rising told xs fits = Rising-listed (enough 1 (map entries xs)) (λ d. uniting told d (entries_at d (map entries xs))) 0 (λ d l t e. (let bound = sum-greatest entries rising d xs in omega (arith, bound, fits)))

-- its score
pub summed-score : {X : Type 0} (entries : X → List Entry) → ((x : X) → Rising 0 (entries x)) → (told : Bool) (xs : List X) → least (map entries xs) < terminated → first_score (at_least 1 (uniting told) (map entries xs)) ≡ sum (scores_in (entries_at (least (map entries xs)) (map entries xs)))
summed-score entries rising told xs l = (let some = has-least entries rising xs l in ap first_score (chosen-here 1 (uniting told) (map entries xs) (omega arith) l (λ d b. entries-least entries rising d xs b) (omega (arith, some))))

-- no sum there is above the greatest score
pub summed-fits : {X : Type 0} (entries : X → List Entry) → ((x : X) → Rising 0 (entries x)) → (told : Bool) (xs : List X) (doc : ℕ) → IsTogether told (map entries xs) doc → doc < terminated → sum (scores_in (entries_at doc (map entries xs))) ≤ max_score
summed-fits entries rising told xs doc t l =
    let ess : List (List Entry) = map entries xs in
    let leads = t.leads in
    let some = has-least entries rising xs (omega (arith, leads, l)) in
    let here = chosen-here 1 (uniting told) ess (omega arith) (omega (arith, leads, l)) (λ d b. entries-least entries rising d xs b) (omega (arith, some)) in
    let first_fits = (subst (Rising 0) here t.rises).2 in
    let same = ap (λ d. sum (scores_in (entries_at d ess))) leads in
    omega (arith, first_fits, same)

-- lists that move on
pub together-on : (told : Bool) (ess moved : List (List Entry)) (t old doc : ℕ) → IsTogether told ess old → Rising 0 (at_least 1 (uniting told) moved) → moved ≡ map (from t) ess → doc ≡ least moved → IsTogether told moved doc
together-on told ess moved t old doc together rises is leads = record {
  leads = leads;
  rises = rises;
  counts_fit = λ is_told d. (let cut = ap (λ xs. sum (counts_in (entries_at d xs))) is in let less = counts-cut t d ess in let fits = together.counts_fit is_told d in omega (arith, cut, less, fits));
}

-- lists that are given
pub together-first : {X : Type 0} (entries : X → List Entry) → ((x : X) → Rising 0 (entries x)) → (told : Bool) (xs : List X) (moved : List (List Entry)) (doc : ℕ) → greatest_sum (map entries xs) ≤ max_score → (told ≡ true → (d : ℕ) → sum (counts_in (entries_at d (map entries xs))) ≤ 4294967295) → moved ≡ map (from 0) (map entries xs) → doc ≡ least moved → IsTogether told moved doc
together-first entries rising told xs moved doc fits few is leads = record {
  leads = leads;
  rises = subst (Rising 0) (sym (ap (at_least 1 (uniting told)) is ∙ chosen-from 1 (uniting told) (map entries xs) 0 (omega arith) (omega arith))) (Rising-from 0 0 (at_least 1 (uniting told) (map entries xs)) (Rising-summed entries rising told xs fits));
  counts_fit = λ is_told d. (let cut = ap (λ ess. sum (counts_in (entries_at d ess))) is in let less = counts-cut 0 d (map entries xs) in let bound = few is_told d in omega (arith, cut, less, bound));
}

-- ---- what it tells on a document
pub together-on_document : {X : Type 0} (entries : X → List Entry) → ((x : X) → Rising 0 (entries x)) → (told : Bool) (xs : List X) (doc : ℕ) → IsTogether told (map entries xs) doc → first (at_least 1 (uniting told) (map entries xs)) < terminated → doc < terminated
together-on_document entries rising told xs doc t l = (let at = union-first entries rising (uniting told) xs in let leads = t.leads in omega (arith, at, leads, l))

together-here : {X : Type 0} (entries : X → List Entry) → ((x : X) → Rising 0 (entries x)) → (told : Bool) (xs : List X) (doc : ℕ) → IsTogether told (map entries xs) doc → doc < terminated → at_least 1 (uniting told) (map entries xs) ≡ uniting told doc (entries_at doc (map entries xs)) ∷ listed (enough 1 (map entries xs)) (λ d. uniting told d (entries_at d (map entries xs))) (doc + 1)
together-here entries rising told xs doc t l =
    let ess : List (List Entry) = map entries xs in
    let leads = t.leads in
    subst (λ d. at_least 1 (uniting told) ess ≡ uniting told d (entries_at d ess) ∷ listed (enough 1 ess) (λ d. uniting told d (entries_at d ess)) (d + 1)) (sym leads) (united-here entries rising told xs (omega (arith, leads, l)))

pub together-positions : {X : Type 0} (entries : X → List Entry) → ((x : X) → Rising 0 (entries x)) → (told : Bool) (xs : List X) (doc : ℕ) → IsTogether told (map entries xs) doc → doc < terminated → single (first_positions (at_least 1 (uniting told) (map entries xs))) ≡ told_positions told (entries_at doc (map entries xs))
together-positions entries rising told xs doc t l = ap (λ es. single (first_positions es)) (together-here entries rising told xs doc t l)

pub together-count : {X : Type 0} (entries : X → List Entry) → ((x : X) → Rising 0 (entries x)) → (told : Bool) (xs : List X) (doc : ℕ) → IsTogether told (map entries xs) doc → doc < terminated → first_count (at_least 1 (uniting told) (map entries xs)) ≡ (if told then sum (counts_in (entries_at doc (map entries xs))) else 0)
together-count entries rising told xs doc t l = ap first_count (together-here entries rising told xs doc t l)
