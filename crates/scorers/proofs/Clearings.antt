-- Laws of windows whose documents are cleared where they are passed.
use Rattle.std.proofs.Common.{[], ◌+◌, ◌-◌, ◌<◌, ◌||◌, ◌∙◌, ◌≡◌, ◌≢◌, ◌≤◌, ◌⊎◌, Bool, List, None, Option, Some, ap, arith, false, if◌then◌else◌, inl, inr, length, nat_le, refl, set, slice_index_or, sum, sym, true, ℕ}
use Rattle.std.proofs.lemmas.Bool.{cases_eq, cases_lt}
use Rattle.std.proofs.lemmas.List.{get_or-set_other, get_or-set_same, get_or_past, length-set}
use Rattle.common.specs.BitSets.{IsFirst}
use Rattle.definitions.specs.Postings.{terminated}
use Rattle.definitions.specs.Scoring.{max_score}
use Rattle.docsets.specs.Entries.{Entry}
use Rattle.docsets.specs.Members.{enough, entries_at, least, scores_in, with_score}
use Rattle.docsets.proofs.MemberLaws.{listed-same, listed-stands}
use Rattle.scorers.specs.Windows.{IsCleared, IsSameFrom, IsStanding, IsWindow, entry_ahead, held, is_ahead, windowed}

-- what a slot holds counts as what it is
pub held-total : {C : Type 0} (answer : C → List ℕ → ℕ) (total : C → ℕ) (flags : List Bool) (slots : List C) (fresh : C) (n k : ℕ) → IsCleared answer total flags slots fresh n → total (slice_index_or slots k fresh) ≡ total (held flags slots fresh k)
held-total answer total flags slots fresh n k c =
    (elim (slice_index_or flags k false) as (λ b. slice_index_or flags k false ≡ b → total (slice_index_or slots k fresh) ≡ total (if b then slice_index_or slots k fresh else fresh)) [
      | true ↦ (λ e. refl)
      | false ↦ (λ e. c.totals k e)
    ]) refl

pub held-answer : {C : Type 0} (answer : C → List ℕ → ℕ) (total : C → ℕ) (flags : List Bool) (slots : List C) (fresh : C) (n k : ℕ) (xs : List ℕ) → IsCleared answer total flags slots fresh n → answer (slice_index_or slots k fresh) xs ≡ answer (held flags slots fresh k) xs
held-answer answer total flags slots fresh n k xs c =
    (elim (slice_index_or flags k false) as (λ b. slice_index_or flags k false ≡ b → answer (slice_index_or slots k fresh) xs ≡ answer (if b then slice_index_or slots k fresh else fresh) xs) [
      | true ↦ (λ e. refl)
      | false ↦ (λ e. c.answers k xs e)
    ]) refl

-- a slot that is written gets a flag
pub cleared-set : {C : Type 0} (answer : C → List ℕ → ℕ) (total : C → ℕ) (flags : List Bool) (slots : List C) (fresh new : C) (k : ℕ) → IsCleared answer total flags slots fresh 0 → k < length flags → IsCleared answer total (set flags k true) (set slots k new) fresh 0
cleared-set answer total flags slots fresh new k c within = record {
  totals = λ j off. ap total (slot j off) ∙ c.totals j (unset j off);
  answers = λ j xs off. ap (λ s. answer s xs) (slot j off) ∙ c.answers j xs (unset j off);
  passed = λ j l. absurd (omega (arith, l));
}
  where
    apart : (j : ℕ) → slice_index_or (set flags k true) j false ≡ false → j ≢ k
    apart j off same = let on : slice_index_or (set flags k true) j false ≡ true = ap (λ i. slice_index_or (set flags k true) i false) same ∙ get_or-set_same flags k true false within in cc

    unset : (j : ℕ) → slice_index_or (set flags k true) j false ≡ false → slice_index_or flags j false ≡ false
    unset j off = sym (get_or-set_other flags k j true false (apart j off)) ∙ off

    slot : (j : ℕ) → slice_index_or (set flags k true) j false ≡ false → slice_index_or (set slots k new) j fresh ≡ slice_index_or slots j fresh
    slot j off = get_or-set_other slots k j new fresh (apart j off)

-- a document that is passed: its flag and its slot are cleared
pub cleared-pass : {C : Type 0} (answer : C → List ℕ → ℕ) (total : C → ℕ) (flags : List Bool) (slots : List C) (fresh : C) (n k m : ℕ) → IsCleared answer total flags slots fresh n → k < length flags → k < length slots → ((j : ℕ) → j < m → j ≢ k → slice_index_or flags j false ≡ false) → IsCleared answer total (set flags k false) (set slots k fresh) fresh m
cleared-pass {C} answer total flags slots fresh n k m c in_flags in_slots below = record {
  totals = λ j off. totals j off (cases_eq j k);
  answers = λ j xs off. answers j xs off (cases_eq j k);
  passed = λ j l. passed j l (cases_eq j k);
}
  where
    here : (j : ℕ) → j ≡ k → slice_index_or (set slots k fresh) j fresh ≡ fresh
    here j same = ap (λ i. slice_index_or (set slots k fresh) i fresh) same ∙ get_or-set_same slots k fresh fresh in_slots

    unset : (j : ℕ) → j ≢ k → slice_index_or (set flags k false) j false ≡ false → slice_index_or flags j false ≡ false
    unset j apart off = sym (get_or-set_other flags k j false false apart) ∙ off

    totals : (j : ℕ) → slice_index_or (set flags k false) j false ≡ false → (j ≡ k) ⊎ (j ≡ k → ⊥) → total (slice_index_or (set slots k fresh) j fresh) ≡ total fresh
    totals j off (inl same) = ap total (here j same)
    totals j off (inr apart) = ap total (get_or-set_other slots k j fresh fresh apart) ∙ c.totals j (unset j apart off)

    answers : (j : ℕ) (xs : List ℕ) → slice_index_or (set flags k false) j false ≡ false → (j ≡ k) ⊎ (j ≡ k → ⊥) → answer (slice_index_or (set slots k fresh) j fresh) xs ≡ answer fresh xs
    answers j xs off (inl same) = ap (λ s. answer s xs) (here j same)
    answers j xs off (inr apart) = ap (λ s. answer s xs) (get_or-set_other slots k j fresh fresh apart) ∙ c.answers j xs (unset j apart off)

    passed : (j : ℕ) → j < m → (j ≡ k) ⊎ (j ≡ k → ⊥) → slice_index_or (set flags k false) j false ≡ false
    passed j l (inl same) = ap (λ i. slice_index_or (set flags k false) i false) same ∙ get_or-set_same flags k false false in_flags
    passed j l (inr apart) = get_or-set_other flags k j false false apart ∙ below j l apart

-- of any other number of indices that are passed
pub cleared-to : {C : Type 0} (answer : C → List ℕ → ℕ) (total : C → ℕ) (flags : List Bool) (slots : List C) (fresh : C) (n m : ℕ) → IsCleared answer total flags slots fresh n → ((k : ℕ) → k < m → slice_index_or flags k false ≡ false) → IsCleared answer total flags slots fresh m
cleared-to answer total flags slots fresh n m c below = record { totals = c.totals; answers = c.answers; passed = below }

-- slots that are all fresh
pub cleared-all : {C : Type 0} (answer : C → List ℕ → ℕ) (total : C → ℕ) (flags : List Bool) (slots : List C) (fresh : C) (n : ℕ) → ((k : ℕ) → slice_index_or slots k fresh ≡ fresh) → ((k : ℕ) → k < n → slice_index_or flags k false ≡ false) → IsCleared answer total flags slots fresh n
cleared-all answer total flags slots fresh n all below = record { totals = λ k e. ap total (all k); answers = λ k xs e. ap (λ s. answer s xs) (all k); passed = below }

-- no index has a flag where none of the window has
pub none-set : (flags : List Bool) → length flags ≡ 4096 → ((k : ℕ) → k < 4096 → slice_index_or flags k false ≡ false) → (k : ℕ) → slice_index_or flags k false ≡ false
none-set flags long none k = go (cases_lt k 4096)
  where
    go : (k < 4096) ⊎ (4096 ≤ k) → slice_index_or flags k false ≡ false
    go (inl within) = none k within
    go (inr past) = get_or_past flags k false (omega (arith, long, past))

pub same-refl : {C : Type 0} (fresh : C) (n : ℕ) (flags : List Bool) (slots : List C) → IsSameFrom fresh n flags slots flags slots
same-refl fresh n flags slots = record { flags_fit = refl; slots_fit = refl; flag = λ k l. refl; slot = λ k l. refl }

-- one more that is passed
pub same-pass : {C : Type 0} (fresh : C) (n k : ℕ) (flags : List Bool) (slots : List C) (flags_then : List Bool) (slots_then : List C) → IsSameFrom fresh n flags slots flags_then slots_then → k < n → IsSameFrom fresh n flags slots (set flags_then k false) (set slots_then k fresh)
same-pass fresh n k flags slots flags_then slots_then s l = record {
  flags_fit = length-set flags_then k false ∙ s.flags_fit;
  slots_fit = length-set slots_then k fresh ∙ s.slots_fit;
  flag = λ j o. get_or-set_other flags_then k j false false (λ (same : j ≡ k). omega (arith, same, l, o)) ∙ s.flag j o;
  slot = λ j o. get_or-set_other slots_then k j fresh fresh (λ (same : j ≡ k). omega (arith, same, l, o)) ∙ s.slot j o;
}

held-same : {C : Type 0} (fresh : C) (n k : ℕ) (flags : List Bool) (slots : List C) (flags_then : List Bool) (slots_then : List C) → IsSameFrom fresh n flags slots flags_then slots_then → n ≤ k → held flags_then slots_then fresh k ≡ held flags slots fresh k
held-same fresh n k flags slots flags_then slots_then s l =
    ap (λ t. if t then slice_index_or slots_then k fresh else fresh) (s.flag k l) ∙ ap (λ c. if slice_index_or flags k false then c else fresh) (s.slot k l)

-- what is passed gives nothing more
pub windowed-same : {C : Type 0} (answer : C → List ℕ → ℕ) (fresh : C) (flags : List Bool) (slots : List C) (flags_then : List Bool) (slots_then : List C) (start low : ℕ) (ess : List (List Entry)) → IsSameFrom fresh (low - start) flags slots flags_then slots_then → start ≤ low → windowed answer flags_then slots_then fresh start ess low ≡ windowed answer flags slots fresh start ess low
windowed-same answer fresh flags slots flags_then slots_then start low ess s begun =
    listed-same (is_ahead flags_then start ess) (is_ahead flags start ess) (entry_ahead answer flags_then slots_then fresh start ess) (entry_ahead answer flags slots fresh start ess) low
    (λ d l t. ap (λ b. b || enough 1 ess d) (s.flag (d - start) (omega (arith, l, begun))))
    (λ d l t. ap (λ c. with_score d (answer c (scores_in (entries_at d ess)))) (held-same fresh (low - start) (d - start) flags slots flags_then slots_then s (omega (arith, l, begun))))

-- and the window stays one
pub window-same : {C : Type 0} (answer : C → List ℕ → ℕ) (total : C → ℕ) (fresh : C) (n : ℕ) (flags : List Bool) (slots : List C) (flags_then : List Bool) (slots_then : List C) (start : ℕ) (ess : List (List Entry)) → IsWindow total flags slots fresh start ess → IsSameFrom fresh n flags slots flags_then slots_then → IsCleared answer total flags_then slots_then fresh n → IsWindow total flags_then slots_then fresh start ess
window-same answer total fresh n flags slots flags_then slots_then start ess w s c = record {
  flags_fit = s.flags_fit ∙ w.flags_fit;
  slots_fit = s.slots_fit ∙ w.slots_fit;
  behind = w.behind;
  unused = w.unused;
  fits = λ d l t. go d (w.fits d l t) (cases_lt (d - start) n);
}
  where
    go : (d : ℕ) → total (held flags slots fresh (d - start)) + sum (scores_in (entries_at d ess)) ≤ max_score → (d - start < n) ⊎ (n ≤ d - start) → total (held flags_then slots_then fresh (d - start)) + sum (scores_in (entries_at d ess)) ≤ max_score
    go d fits (inl passed) =
        let here : total (held flags_then slots_then fresh (d - start)) ≡ total fresh = ap (λ b. total (if b then slice_index_or slots_then (d - start) fresh else fresh)) (c.passed (d - start) passed) in
        let unused = w.unused in
        omega (arith, here, unused, fits)
    go d fits (inr later) = (let same = ap total (held-same fresh n (d - start) flags slots flags_then slots_then s later) in omega (arith, same, fits))

-- the first flag from a word on is the first of all
pub first-all : (flags : List Bool) (n from : ℕ) (r : Option ℕ) → ((k : ℕ) → k < n → slice_index_or flags k false ≡ false) → from ≤ n → IsFirst (λ k. slice_index_or flags k false) from r → IsFirst (λ k. slice_index_or flags k false) 0 r
first-all flags n from None off l first = λ k o. go k (cases_lt k n)
  where
    go : (k : ℕ) → (k < n) ⊎ (n ≤ k) → slice_index_or flags k false ≡ false
    go k (inl passed) = off k passed
    go k (inr later) = first k (omega (arith, later, l))
first-all flags n from (Some at) off l first = (omega arith, first.1, λ k o b. go k b (cases_lt k n))
  where
    go : (k : ℕ) → k < at → (k < n) ⊎ (n ≤ k) → slice_index_or flags k false ≡ false
    go k b (inl passed) = off k passed
    go k b (inr later) = first.2 k (omega (arith, later, l)) b

-- it isn't below those that are passed
pub first-late : (flags : List Bool) (n k : ℕ) → ((i : ℕ) → i < n → slice_index_or flags i false ≡ false) → slice_index_or flags k false ≡ true → n ≤ k
first-late flags n k off on = go (cases_lt k n)
  where
    go : (k < n) ⊎ (n ≤ k) → n ≤ k
    go (inl l) = absurd (let none = off k l in cc)
    go (inr o) = o

-- the flag of the document on which a union stands
pub standing-flag : {C : Type 0} (answer : C → List ℕ → ℕ) (total : C → ℕ) (flags : List Bool) (slots : List C) (fresh : C) (start : ℕ) (ess : List (List Entry)) (doc : ℕ) → IsStanding answer total flags slots fresh start ess doc → ((d : ℕ) → d < least ess → entries_at d ess ≡ []) → doc < terminated → slice_index_or flags (doc - start) false ≡ true
standing-flag answer total flags slots fresh start ess doc s none l =
    let near = s.near l in
    let behind = s.window.behind in
    let ahead : is_ahead flags start ess doc ≡ true = listed-stands (is_ahead flags start ess) (entry_ahead answer flags slots fresh start ess) doc l s.at in
    let lacks : enough 1 ess doc ≡ false = ap (λ xs. nat_le 1 (length xs)) (none doc (omega (arith, near, behind, l))) in
    or-flag (slice_index_or flags (doc - start) false) (enough 1 ess doc) ahead lacks
  where
    or-flag : (a b : Bool) → (a || b) ≡ true → b ≡ false → a ≡ true
    or-flag true b e n = refl
    or-flag false b e n = absurd (cc)
