-- Laws of the terms of a phrase, moved by their places in the phrase.
use Rattle.std.proofs.Common.{[], List, ap, arith, map, max, refl, subst, sym, ◌-◌, ◌∙◌, ◌∷◌, ◌≡◌, ℕ}
use Rattle.std.specs.List.{AllByRecursion}
use Rattle.docsets.specs.Entries.{Entry, from}
use Rattle.definitions.specs.Scoring.{greatest_of}
use Rattle.intersections.specs.Meetings.{meeting}
use Rattle.docsets.specs.Members.{greatest_sum}
use Rattle.phrases.specs.PhraseEntries.{adjusted_terms, placed}
use Rattle.phrases.proofs.PhraseEntryLaws.{from-placed, greatest-placed}

-- terms with what is left of each
paired : {X : Type 0} (entries : X → List Entry) (g : ℕ) (ts : List (ℕ × X)) → map (λ t. placed (g - t.0) (entries t.1)) ts ≡ map (λ (u : ℕ × List Entry). placed (g - u.0) u.1) (map (λ t. (t.0, entries t.1)) ts)
paired entries g [] = refl
paired entries g (t ∷ ts) = ap (λ ess. placed (g - t.0) (entries t.1) ∷ ess) (paired entries g ts)

offsets : {X : Type 0} (entries : X → List Entry) (ts : List (ℕ × X)) → greatest_of (map (λ t. t.0) ts) ≡ greatest_of (map (λ (u : ℕ × List Entry). u.0) (map (λ t. (t.0, entries t.1)) ts))
offsets entries [] = refl
offsets entries (t ∷ ts) = ap (max t.0) (offsets entries ts)

pub adjusted-is : {X : Type 0} (entries : X → List Entry) (ts : List (ℕ × X)) → meeting (map (λ t. placed (greatest_of (map (λ u. u.0) ts) - t.0) (entries t.1)) ts) ≡ adjusted_terms (map (λ t. (t.0, entries t.1)) ts)
adjusted-is entries ts = ap meeting (ap (λ g. map (λ t. placed (g - t.0) (entries t.1)) ts) (offsets entries ts) ∙ paired entries (greatest_of (map (λ (u : ℕ × List Entry). u.0) (map (λ t. (t.0, entries t.1)) ts))) ts)

-- they have no scores
pub no-scores : {X : Type 0} (entries : X → List Entry) (g : ℕ) (ts : List (ℕ × X)) → greatest_sum (map (λ t. placed (g - t.0) (entries t.1)) ts) ≡ 0
no-scores entries g [] = refl
no-scores entries g (t ∷ ts) = (let ih = no-scores entries g ts in let here = greatest-placed (g - t.0) (entries t.1) in omega (arith, ih, here))

-- nor documents that the terms haven't
covered-moved : {X : Type 0} (entries : X → List Entry) (g n : ℕ) (ts : List (ℕ × X)) → AllByRecursion (λ t. from n (entries t.1) ≡ []) ts → AllByRecursion (λ es. from n es ≡ []) (map (λ t. placed (g - t.0) (entries t.1)) ts)
covered-moved entries g n [] c = tt
covered-moved entries g n (t ∷ ts) c = (from-placed (g - t.0) n (entries t.1) ∙ ap (placed (g - t.0)) c.0, covered-moved entries g n ts c.1)

all-unmap : {X : Type 0} (P : List Entry → Type 0) (f : X → List Entry) (xs : List X) → AllByRecursion P (map f xs) → AllByRecursion (λ x. P (f x)) xs
all-unmap P f [] h = tt
all-unmap P f (x ∷ xs) h = (h.0, all-unmap P f xs h.1)

pub covered-docsets : {X Y : Type 0} (entries : X → List Entry) (f : Y → List Entry) (g n : ℕ) (ts : List (ℕ × X)) (ys : List Y) → map f ys ≡ map (λ t. placed (g - t.0) (entries t.1)) ts → AllByRecursion (λ t. from n (entries t.1) ≡ []) ts → AllByRecursion (λ y. from n (f y) ≡ []) ys
covered-docsets entries f g n ts ys is c = all-unmap (λ es. from n es ≡ []) f ys (subst (AllByRecursion (λ es. from n es ≡ [])) (sym is) (covered-moved entries g n ts c))
