-- The document on which a union stands is passed: its flag is taken out of its word, and its slot is made fresh.
use Rattle.std.proofs.Common.{[], Bool, List, Option, ap, arith, false, of_z, pos, set, slice_index_or, subst, sum, sym, to_z, ◌*◌, ◌+◌, ◌-◌, ◌<◌, ◌∙◌, ◌∷◌, ◌≡◌, ◌≤◌, ℕ, ℤ}
use Rattle.std.proofs.lemmas.Int.{ints, to_z-of_z}
use Rattle.std.proofs.lemmas.List.{get_or_default}
use Rattle.common.specs.BitSets.{IsFirst}
use mir.Syntax.{w64}
use mir.Val.{SFits}
use Rattle.docsets.specs.Entries.{Entry}
use Rattle.definitions.specs.Postings.{terminated}
use Rattle.definitions.specs.Scoring.{max_score}
use Rattle.docsets.specs.Members.{entries_at, least, scores_in}
use Rattle.scorers.proofs.Clearings.{cleared-pass, first-all, held-answer, same-pass, same-refl, standing-flag, window-same, windowed-same}
use Rattle.scorers.proofs.Fillings.{standing-first}
use Rattle.scorers.specs.Windows.{IsCleared, IsLowest, IsSameFrom, IsWindow, StandsAt, held, entry_ahead, score_ahead, windowed}

-- the word of its flag is one of the window
pub word-within : {C : Type 0} (answer : C → List ℕ → ℕ) (total : C → ℕ) (flags : List Bool) (slots : List C) (fresh : C) (start : ℕ) (ess : List (List Entry)) (doc bucket : ℕ) → StandsAt answer total flags slots fresh start ess doc bucket → doc < terminated → bucket < 64
word-within answer total flags slots fresh start ess doc bucket s l =
    let near = s.standing.near l in
    let begun = s.standing.begun in
    let is = s.bucketed l in
    omega (arith, near, begun, is)

-- it has the least number of its word
pub gone : {C : Type 0} (answer : C → List ℕ → ℕ) (total : C → ℕ) (flags flags_then : List Bool) (slots : List C) (fresh : C) (start : ℕ) (ess : List (List Entry)) (doc bucket : ℕ) → StandsAt answer total flags slots fresh start ess doc bucket → ((d : ℕ) → d < least ess → entries_at d ess ≡ []) → ((el : ℕ) → IsLowest bucket flags el → flags_then ≡ set flags el false) → doc < terminated → flags_then ≡ set flags (doc - start) false
gone answer total flags flags_then slots fresh start ess doc bucket s none removed l =
    let on = standing-flag answer total flags slots fresh start ess doc s.standing none l in
    removed (doc - start) (record { index = sym (s.bucketed l); on = on; lowest = s.cleared.passed })

-- what follows is as it was
pub passed : {C : Type 0} (answer : C → List ℕ → ℕ) (total : C → ℕ) (flags flags_then : List Bool) (slots : List C) (fresh : C) (start : ℕ) (ess : List (List Entry)) (doc bucket : ℕ) → StandsAt answer total flags slots fresh start ess doc bucket → ((d : ℕ) → d < least ess → entries_at d ess ≡ []) → ((el : ℕ) → IsLowest bucket flags el → flags_then ≡ set flags el false) → doc < terminated → IsSameFrom fresh (doc + 1 - start) flags slots flags_then (set slots (doc - start) fresh)
passed answer total flags flags_then slots fresh start ess doc bucket s none removed l =
    let k = doc - start in
    let begun = s.standing.begun in
    let P : List Bool → Type 0 = λ fs. IsSameFrom fresh (doc + 1 - start) flags slots fs (set slots k fresh) in
    subst P (sym (gone answer total flags flags_then slots fresh start ess doc bucket s none removed l)) (same-pass fresh (doc + 1 - start) k flags slots flags slots (same-refl fresh (doc + 1 - start) flags slots) (omega (arith, begun)))

-- no index up to it has a flag
pub cleared-on : {C : Type 0} (answer : C → List ℕ → ℕ) (total : C → ℕ) (flags flags_then : List Bool) (slots : List C) (fresh : C) (start : ℕ) (ess : List (List Entry)) (doc bucket : ℕ) → StandsAt answer total flags slots fresh start ess doc bucket → ((d : ℕ) → d < least ess → entries_at d ess ≡ []) → ((el : ℕ) → IsLowest bucket flags el → flags_then ≡ set flags el false) → doc < terminated → IsCleared answer total flags_then (set slots (doc - start) fresh) fresh (doc + 1 - start)
cleared-on answer total flags flags_then slots fresh start ess doc bucket s none removed l =
    let k = doc - start in
    let begun = s.standing.begun in
    let near = s.standing.near l in
    let flags_fit = s.standing.window.flags_fit in
    let slots_fit = s.standing.window.slots_fit in
    let P : List Bool → Type 0 = λ fs. IsCleared answer total fs (set slots k fresh) fresh (doc + 1 - start) in
    subst P (sym (gone answer total flags flags_then slots fresh start ess doc bucket s none removed l)) (cleared-pass answer total flags slots fresh k k (doc + 1 - start) s.cleared (omega (arith, begun, near, flags_fit)) (omega (arith, begun, near, slots_fit)) (λ j b apart. s.cleared.passed j (omega (arith, b, apart, begun))))

pub window-on : {C : Type 0} (answer : C → List ℕ → ℕ) (total : C → ℕ) (flags flags_then : List Bool) (slots : List C) (fresh : C) (start : ℕ) (ess : List (List Entry)) (doc bucket : ℕ) → StandsAt answer total flags slots fresh start ess doc bucket → ((d : ℕ) → d < least ess → entries_at d ess ≡ []) → ((el : ℕ) → IsLowest bucket flags el → flags_then ≡ set flags el false) → doc < terminated → IsWindow total flags_then (set slots (doc - start) fresh) fresh start ess
window-on answer total flags flags_then slots fresh start ess doc bucket s none removed l = window-same answer total fresh (doc + 1 - start) flags slots flags_then (set slots (doc - start) fresh) start ess s.standing.window (passed answer total flags flags_then slots fresh start ess doc bucket s none removed l) (cleared-on answer total flags flags_then slots fresh start ess doc bucket s none removed l)

-- the first flag behind it is the first of all
pub first-on : {C : Type 0} (answer : C → List ℕ → ℕ) (total : C → ℕ) (flags flags_then : List Bool) (slots : List C) (fresh : C) (start : ℕ) (ess : List (List Entry)) (doc bucket : ℕ) (found : Option ℕ) → StandsAt answer total flags slots fresh start ess doc bucket → ((d : ℕ) → d < least ess → entries_at d ess ≡ []) → ((el : ℕ) → IsLowest bucket flags el → flags_then ≡ set flags el false) → doc < terminated → IsFirst (λ k. slice_index_or flags_then k false) (64 * bucket) found → IsFirst (λ k. slice_index_or flags_then k false) 0 found
first-on answer total flags flags_then slots fresh start ess doc bucket found s none removed l first =
    let is = s.bucketed l in
    let begun = s.standing.begun in
    let after = cleared-on answer total flags flags_then slots fresh start ess doc bucket s none removed l in
    first-all flags_then (doc + 1 - start) (64 * bucket) found after.passed (omega (arith, is, begun)) first

-- its entry, and what is left then
pub rest-on : {C : Type 0} (answer : C → List ℕ → ℕ) (total : C → ℕ) (flags flags_then : List Bool) (slots : List C) (fresh : C) (start : ℕ) (ess : List (List Entry)) (doc bucket : ℕ) → StandsAt answer total flags slots fresh start ess doc bucket → ((d : ℕ) → d < least ess → entries_at d ess ≡ []) → ((el : ℕ) → IsLowest bucket flags el → flags_then ≡ set flags el false) → doc < terminated → windowed answer flags slots fresh start ess doc ≡ entry_ahead answer flags slots fresh start ess doc ∷ windowed answer flags_then (set slots (doc - start) fresh) fresh start ess (doc + 1)
rest-on answer total flags flags_then slots fresh start ess doc bucket s none removed l =
    let begun = s.standing.begun in
    standing-first answer total flags slots fresh start ess doc s.standing l
    ∙ ap (λ es. entry_ahead answer flags slots fresh start ess doc ∷ es) (sym (windowed-same answer fresh flags slots flags_then (set slots (doc - start) fresh) start (doc + 1) ess (passed answer total flags flags_then slots fresh start ess doc bucket s none removed l) (omega (arith, begun))))

-- its score is what its slot makes
pub score-there : {C : Type 0} (answer : C → List ℕ → ℕ) (total : C → ℕ) → ((x : C) (xs : List ℕ) → total x + sum xs ≤ max_score → answer x xs ≤ max_score) → (flags : List Bool) (slots : List C) (fresh : C) (start : ℕ) (ess : List (List Entry)) (doc bucket : ℕ) (slot : C) (score : ℤ) → StandsAt answer total flags slots fresh start ess doc bucket → ((d : ℕ) → d < least ess → entries_at d ess ≡ []) → doc < terminated → slot ≡ slice_index_or slots (doc - start) slot → score ≡ pos (answer slot []) → to_z w64 (of_z w64 score) ≡ pos (score_ahead answer flags slots fresh start ess doc)
score-there answer total bounded flags slots fresh start ess doc bucket slot score s none l slot_is score_is =
    let k = doc - start in
    let near = s.standing.near l in
    let begun = s.standing.begun in
    let behind = s.standing.window.behind in
    let long = s.standing.window.slots_fit in
    let read : slot ≡ slice_index_or slots k fresh = slot_is ∙ get_or_default slots k slot fresh (omega (arith, near, begun, long)) in
    let n : ℕ = answer (held flags slots fresh k) [] in
    let is : score ≡ pos n = score_is ∙ (ap (λ x. pos (answer x [])) read ∙ ap pos (held-answer answer total flags slots fresh k k [] s.cleared)) in
    let bound = s.standing.window.fits doc s.standing.begun l in
    let small : n ≤ max_score = bounded (held flags slots fresh k) [] (let goal : total (held flags slots fresh k) + sum [] ≤ max_score = omega (arith, bound) in goal) in
    let fits : SFits w64 (pos n) = omega (arith, ints, small) in
    ap (λ z. to_z w64 (of_z w64 z)) is
    ∙ (to_z-of_z w64 (pos n) fits
    ∙ sym (ap (λ es. pos (answer (held flags slots fresh k) (scores_in es))) (none doc (omega (arith, near, behind, l)))))
