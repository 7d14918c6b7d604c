-- Entries of phrases that are passed because their scores are low.
use Rattle.std.proofs.Common.{[], ◌+◌, ◌<◌, ◌∷◌, ◌≡◌, List, arith, drop, length, subst, sym, take, ℕ}
use Rattle.std.specs.Prelude.{pos, ◌≤ℤ◌, ℤ}
use Rattle.std.specs.List.{AllByRecursion}
use Rattle.definitions.proofs.Lists.{by_order}
use Rattle.docsets.proofs.EntryLaws.{from-first, from-out}
use Rattle.docsets.specs.Entries.{Entry, Rising, first_positions, from}
use Rattle.phrases.specs.PhraseEntries.{phrased}
use Rattle.phrases.specs.PhraseEntryLaws.{phrased-none, phrased-some}
use Rattle.phrases.specs.Places.{places_of}

-- of what is passed up to a document, on it, and behind it
pub passed_on : (P : Entry → Type 0) (doc next low : ℕ) (es : List Entry) → Rising low es → AllByRecursion (λ e. e.doc < doc → P e) es → AllByRecursion P (take 1 (from doc es)) → AllByRecursion (λ e. e.doc < next → P e) (drop 1 (from doc es)) → AllByRecursion (λ e. e.doc < next → P e) es
passed_on P doc next low [] rises before here behind = tt
passed_on P doc next low (e ∷ es) rises before here behind = by_order doc e.doc (AllByRecursion (λ e. e.doc < next → P e) (e ∷ es))
    (λ late. (let whole = from-first doc low (e ∷ es) late rises in
    ((λ l. (subst (λ xs. AllByRecursion P (take 1 xs)) whole here).0), subst (λ xs. AllByRecursion (λ e. e.doc < next → P e) (drop 1 xs)) whole behind)))
    (λ early. (let out = from-out doc e es early in
    ((λ l. before.0 early), passed_on P doc next (e.doc + 1) es rises.3 before.1 (subst (λ xs. AllByRecursion P (take 1 xs)) out here) (subst (λ xs. AllByRecursion (λ e. e.doc < next → P e) (drop 1 xs)) out behind))))

pub all_weaker : (P Q : Entry → Type 0) → ((e : Entry) → P e → Q e) → (es : List Entry) → AllByRecursion P es → AllByRecursion Q es
all_weaker P Q weaker [] all = tt
all_weaker P Q weaker (e ∷ es) all = (weaker e all.0, all_weaker P Q weaker es all.1)

-- where the first document has no places nothing is said of it
pub unplaced_first : (Q : Entry → Type 0) (slop : ℕ) (es : List Entry) → length (places_of slop (first_positions es)) ≡ 0 → AllByRecursion (λ e. 0 < length (places_of slop e.positions) → Q e) (take 1 es)
unplaced_first Q slop [] none = tt
unplaced_first Q slop (e ∷ es) none = ((λ some. absurd (omega (arith, none, some))), tt)

-- the documents where the phrase stands earn what their places earn
pub phrased_low : (score : ℕ → ℕ → ℕ) (slop until : ℕ) (t : ℤ) (es : List Entry) → AllByRecursion (λ e. e.doc < until → 0 < length (places_of slop e.positions) → pos (score e.doc (length (places_of slop e.positions))) ≤ℤ t) es → AllByRecursion (λ e. e.doc < until → pos e.score ≤ℤ t) (phrased score slop es)
phrased_low score slop until t [] low = tt
phrased_low score slop until t (e ∷ es) low =
    let P : List Entry → Type 0 = AllByRecursion (λ e. e.doc < until → pos e.score ≤ℤ t) in
    let rest = phrased_low score slop until t es low.1 in
    by_order 1 (length (places_of slop e.positions)) (P (phrased score slop (e ∷ es)))
    (λ some. subst P (sym (phrased-some score slop e es (omega (arith, some)))) ((λ l. low.0 l (omega (arith, some))), rest))
    (λ none. subst P (sym (phrased-none score slop e es (omega (arith, none)))) rest)
