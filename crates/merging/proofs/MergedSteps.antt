-- The least of several members' first terms, and what is left behind it.
use Rattle.std.proofs.Common.{[], Bool, List, None, Option, Some, ap, ap₂, bytes_eq, false, find, flat_map, if◌then◌else◌, map, option_map, refl, subst, sym, true, true≢false, ◌++◌, ◌||◌, ◌≡◌, ◌∙◌, ◌∷◌, ℕ}
use Rattle.std.specs.List.{AllByRecursion, list_any}
use Rattle.std.specs.Ordering.{is_lt}
use Rattle.std.specs.declared.cmp.Ordering.{Ordering}
use Rattle.std.specs.declared.cmp.Ordering.TheVariants.{Equal, Greater, Less}
use Rattle.std.proofs.lemmas.Cmp.{nat_list_cmp_total}
use Rattle.layouts.specs.TermSections.{TermsAscend}
use Rattle.merging.proofs.MergedKeys.{AllAbove, all_above, all_ascending, any_has, ascends_behind, cmp, equal_key, flipped, is_itself, keys_ascend, less_apart, merged_among, not_among, one_list, same_key}
use Rattle.definitions.proofs.Lists.{bytes_swap as turned}
use Rattle.merging.specs.KeyLists.{Terms, keys_of, least_key, lesser, merged_keys, past_key}
use Rattle.segment_reader.proofs.Ordered.{behind}

-- ---- the least key

-- a key isn't below another
abbrev pub NotBelow : List ℕ → List ℕ → Type 0
NotBelow k t = is_lt (cmp t k) ≡ false

-- the first key, if there is one, isn't below a key
abbrev pub Leads : {Y : Type 0} → List ℕ → Terms Y → Type 0
Leads k [] = Unit {0}
Leads k (t ∷ terms) = NotBelow k t.0

not_below_itself : (k : List ℕ) → NotBelow k k
not_below_itself k = go (cmp k k) refl
  where
    go : (o : Ordering) → cmp k k ≡ o → is_lt (cmp k k) ≡ false
    go Less is = ap is_lt (flipped k k Less is)
    go Equal is = ap is_lt is
    go Greater is = ap is_lt is

-- what isn't below a key is it or is above it
above_or : (k t : List ℕ) → NotBelow k t → bytes_eq t k ≡ false → cmp k t ≡ Less
above_or k t below apart = go (cmp t k) refl
  where
    go : (o : Ordering) → cmp t k ≡ o → cmp k t ≡ Less
    go Less is = absurd (true≢false (sym (ap is_lt is) ∙ below))
    go Equal is = absurd (true≢false (sym (is_itself k) ∙ ap (λ x. bytes_eq x k) (sym (equal_key t k is)) ∙ apart))
    go Greater is = flipped t k Greater is

not_below_from : (k l t : List ℕ) → NotBelow k l → NotBelow l t → NotBelow k t
not_below_from k l t low high = go (cmp t k) refl
  where
    later : cmp t k ≡ Less → (o : Ordering) → cmp l k ≡ o → is_lt (cmp t k) ≡ false
    later is Less l_is = absurd (true≢false (sym (ap is_lt l_is) ∙ low))
    later is Equal l_is = (let e = equal_key l k l_is in absurd (true≢false (sym (ap is_lt (ap (cmp t) e ∙ is)) ∙ high)))
    later is Greater l_is = (let up = flipped l k Greater l_is in absurd (true≢false (sym (ap is_lt (nat_list_cmp_total.trans t k l is up)) ∙ high)))

    go : (o : Ordering) → cmp t k ≡ o → is_lt (cmp t k) ≡ false
    go Less is = later is (cmp l k) refl
    go Equal is = ap is_lt is
    go Greater is = ap is_lt is

all_lead_from : {Y : Type 0} (k l : List ℕ) (ms : List (Terms Y)) → NotBelow k l → AllByRecursion (Leads l) ms → AllByRecursion (Leads k) ms
all_lead_from k l [] low all = tt
all_lead_from k l ([] ∷ ms) low all = (tt, all_lead_from k l ms low all.1)
all_lead_from k l ((t ∷ terms) ∷ ms) low all = (not_below_from k l t.0 low all.0, all_lead_from k l ms low all.1)

-- the least key: no first key is below it, and a member has it
pub least_is : {Y : Type 0} (ms : List (Terms Y)) (k : List ℕ) → least_key ms ≡ Some k → AllByRecursion (Leads k) ms × (any_has k ms ≡ true)
least_is [] k is = absurd cc
least_is ([] ∷ ms) k is = (let rest = least_is ms k is in ((tt, rest.0), rest.1))
least_is {Y} ((t ∷ terms) ∷ ms) k is = go (least_key ms) refl is (λ l e. least_is ms l e)
  where
    mine : (l : List ℕ) → l ≡ t.0 → AllByRecursion (Leads l) ms → AllByRecursion (Leads l) ((t ∷ terms) ∷ ms) × (any_has l ((t ∷ terms) ∷ ms) ≡ true)
    mine l l_is leads = (
      (subst (λ x. NotBelow x t.0) (sym l_is) (not_below_itself t.0), leads),
      ap (λ (b : Bool). (b || list_any (bytes_eq l) (keys_of terms)) || any_has l ms) (ap (λ x. bytes_eq x t.0) l_is ∙ is_itself t.0),
    )

    theirs : (b : Bool) → (b || true) ≡ true
    theirs true = refl
    theirs false = refl

    none : (ns : List (Terms Y)) → least_key ns ≡ None → AllByRecursion (Leads t.0) ns
    none [] e = tt
    none ([] ∷ ns) e = (tt, none ns e)
    none ((u ∷ us) ∷ ns) e = absurd cc

    go : (o : Option (List ℕ)) → least_key ms ≡ o → Some (lesser t.0 o) ≡ Some k
        → ((l : List ℕ) → least_key ms ≡ Some l → AllByRecursion (Leads l) ms × (any_has l ms ≡ true))
        → AllByRecursion (Leads k) ((t ∷ terms) ∷ ms) × (any_has k ((t ∷ terms) ∷ ms) ≡ true)
    go None e k_is later = (let same : t.0 ≡ k = cc in mine k (sym same) (subst (λ x. AllByRecursion (Leads x) ms) same (none ms e)))
    go (Some l) e k_is later = either (is_lt (cmp l t.0)) refl
      where
        rest : AllByRecursion (Leads l) ms × (any_has l ms ≡ true)
        rest = later l e

        either : (b : Bool) → is_lt (cmp l t.0) ≡ b → AllByRecursion (Leads k) ((t ∷ terms) ∷ ms) × (any_has k ((t ∷ terms) ∷ ms) ≡ true)
        either true low =
            let same : l ≡ k = (let h = ap (λ b. Some (if b then l else t.0)) (sym low) ∙ k_is in cc) in
            let less : cmp l t.0 ≡ Less = less_from (cmp l t.0) low in
            let up : NotBelow l t.0 = ap is_lt (flipped l t.0 Less less) in
            subst (λ x. AllByRecursion (Leads x) ((t ∷ terms) ∷ ms) × (any_has x ((t ∷ terms) ∷ ms) ≡ true)) same
            ((up, rest.0), ap (λ b. list_any (bytes_eq l) (keys_of (t ∷ terms)) || b) rest.1 ∙ theirs (list_any (bytes_eq l) (keys_of (t ∷ terms))))
          where
            less_from : (o : Ordering) → is_lt o ≡ true → o ≡ Less
            less_from Less h = refl
            less_from Equal h = absurd (true≢false (sym h))
            less_from Greater h = absurd (true≢false (sym h))
        either false low =
            let same : t.0 ≡ k = (let h = ap (λ b. Some (if b then l else t.0)) (sym low) ∙ k_is in cc) in
            mine k (sym same) (subst (λ x. AllByRecursion (Leads x) ms) same (all_lead_from t.0 l ms low rest.0))

-- ---- what is left behind it

abbrev pub AllAscend : {Y : Type 0} → List (Terms Y) → Type 0
AllAscend ms = AllByRecursion (λ terms. TermsAscend (keys_of terms)) ms

past_above : {Y : Type 0} (k : List ℕ) (m : Terms Y) → TermsAscend (keys_of m) → Leads k m → AllAbove k (keys_of (past_key k m))
past_above k [] a leads = tt
past_above k (t ∷ terms) a leads = go (bytes_eq t.0 k) refl
  where
    go : (b : Bool) → bytes_eq t.0 k ≡ b → AllAbove k (keys_of (if b then terms else t ∷ terms))
    go true is = subst (λ x. AllAbove x (keys_of terms)) (same_key t.0 k is) (all_above t.0 (keys_of terms) a)
    go false other =
        let less = above_or k t.0 leads other in
        (less, above_all k t.0 (keys_of terms) less (all_above t.0 (keys_of terms) a))
      where
        above_all : (r s : List ℕ) (ts : List (List ℕ)) → cmp r s ≡ Less → AllAbove s ts → AllAbove r ts
        above_all r s [] less all = tt
        above_all r s (u ∷ us) less all = (nat_list_cmp_total.trans r s u less all.0, above_all r s us less all.1)

past_ascends : {Y : Type 0} (k : List ℕ) (m : Terms Y) → TermsAscend (keys_of m) → TermsAscend (keys_of (past_key k m))
past_ascends k [] a = tt
past_ascends k (t ∷ terms) a = go (bytes_eq t.0 k)
  where
    go : (b : Bool) → TermsAscend (keys_of (if b then terms else t ∷ terms))
    go true = behind t.0 (keys_of terms) a
    go false = a

pub all_past_ascend : {Y : Type 0} (k : List ℕ) (ms : List (Terms Y)) → AllAscend ms → AllAscend (map (past_key k) ms)
all_past_ascend k [] all = tt
all_past_ascend k (m ∷ ms) all = (past_ascends k m all.0, all_past_ascend k ms all.1)

past_among : {Y : Type 0} (q k : List ℕ) (m : Terms Y) → bytes_eq q k ≡ false → list_any (bytes_eq q) (keys_of (past_key k m)) ≡ list_any (bytes_eq q) (keys_of m)
past_among q k [] apart = refl
past_among q k (t ∷ terms) apart = go (bytes_eq t.0 k) refl
  where
    go : (b : Bool) → bytes_eq t.0 k ≡ b → list_any (bytes_eq q) (keys_of (if b then terms else t ∷ terms)) ≡ (bytes_eq q t.0 || list_any (bytes_eq q) (keys_of terms))
    go true is = ap (λ b. b || list_any (bytes_eq q) (keys_of terms)) (sym (ap (bytes_eq q) (same_key t.0 k is) ∙ apart))
    go false other = refl

all_past_among : {Y : Type 0} (q k : List ℕ) (ms : List (Terms Y)) → bytes_eq q k ≡ false → any_has q (map (past_key k) ms) ≡ any_has q ms
all_past_among q k [] apart = refl
all_past_among q k (m ∷ ms) apart = ap₂ (λ a b. a || b) (past_among q k m apart) (all_past_among q k ms apart)

all_joined : (P : List ℕ → Type 0) (xs ys : List (List ℕ)) → AllByRecursion P xs → AllByRecursion P ys → AllByRecursion P (xs ++ ys)
all_joined P [] ys a b = b
all_joined P (x ∷ xs) ys a b = (a.0, all_joined P xs ys a.1 b)

all_past_above : {Y : Type 0} (k : List ℕ) (ms : List (Terms Y)) → AllAscend ms → AllByRecursion (Leads k) ms → AllAbove k (flat_map keys_of (map (past_key k) ms))
all_past_above k [] all leads = tt
all_past_above k (m ∷ ms) all leads = all_joined (λ t. cmp k t ≡ Less) (keys_of (past_key k m)) (flat_map keys_of (map (past_key k) ms)) (past_above k m all.0 leads.0) (all_past_above k ms all.1 leads.1)

pub rest_above : {Y : Type 0} (k : List ℕ) (ms : List (Terms Y)) → AllAscend ms → least_key ms ≡ Some k → AllAbove k (merged_keys (map (past_key k) ms))
rest_above k ms all is = all_ascending (λ t. cmp k t ≡ Less) (flat_map keys_of (map (past_key k) ms)) (all_past_above k ms all (least_is ms k is).0)

-- the least key is the first of all, and the others are left behind it
pub least_first : {Y : Type 0} (k : List ℕ) (ms : List (Terms Y)) → AllAscend ms → least_key ms ≡ Some k → merged_keys ms ≡ k ∷ merged_keys (map (past_key k) ms)
least_first k ms all is =
    one_list (merged_keys ms) (k ∷ merged_keys (map (past_key k) ms)) (keys_ascend (flat_map keys_of ms))
    (ascends_behind k (merged_keys (map (past_key k) ms)) (rest_above k ms all is) (keys_ascend (flat_map keys_of (map (past_key k) ms))))
    same
  where
    same : (q : List ℕ) → list_any (bytes_eq q) (merged_keys ms) ≡ (bytes_eq q k || list_any (bytes_eq q) (merged_keys (map (past_key k) ms)))
    same q = merged_among ms q ∙ go (bytes_eq q k) refl ∙ ap (λ b. bytes_eq q k || b) (sym (merged_among (map (past_key k) ms) q))
      where
        go : (b : Bool) → bytes_eq q k ≡ b → any_has q ms ≡ (bytes_eq q k || any_has q (map (past_key k) ms))
        go true here = ap (λ x. any_has x ms) (same_key q k here) ∙ (least_is ms k is).1 ∙ sym (ap (λ b. b || any_has q (map (past_key k) ms)) here)
        go false other = sym (all_past_among q k ms other) ∙ sym (ap (λ b. b || any_has q (map (past_key k) ms)) other)

-- without a least key there is none
pub none_left : {Y : Type 0} (ms : List (Terms Y)) → least_key ms ≡ None → merged_keys ms ≡ []
none_left [] is = refl
none_left ([] ∷ ms) is = none_left ms is
none_left ((t ∷ terms) ∷ ms) is = absurd cc

-- ---- what is told of a key

-- what is told of a term by its key
abbrev pub told_of : {Y : Type 0} → List ℕ → Terms Y → Option Y
told_of key terms = option_map (λ t. t.1) (find (λ t. bytes_eq t.0 key) terms)

-- of other keys the same is told behind the first
past_told : {Y : Type 0} (q k : List ℕ) (m : Terms Y) → bytes_eq q k ≡ false → told_of q (past_key k m) ≡ told_of q m
past_told q k [] apart = refl
past_told q k (t ∷ terms) apart = go (bytes_eq t.0 k) refl
  where
    go : (b : Bool) → bytes_eq t.0 k ≡ b → told_of q (if b then terms else t ∷ terms) ≡ told_of q (t ∷ terms)
    go true is = (let other : bytes_eq t.0 q ≡ false = turned t.0 q ∙ ap (bytes_eq q) (same_key t.0 k is) ∙ apart in sym (ap (λ b. option_map (λ u. u.1) (if b then Some t else find (λ u. bytes_eq u.0 q) terms)) other))
    go false other = refl

all_past_told : {Y : Type 0} (q k : List ℕ) (ms : List (Terms Y)) → bytes_eq q k ≡ false → map (told_of q) (map (past_key k) ms) ≡ map (told_of q) ms
all_past_told q k [] apart = refl
all_past_told q k (m ∷ ms) apart = ap₂ (λ o os. o ∷ os) (past_told q k m apart) (all_past_told q k ms apart)

-- a key that is left isn't the least
pub left_told : {Y : Type 0} (q k : List ℕ) (ms : List (Terms Y)) → AllAscend ms → least_key ms ≡ Some k → list_any (bytes_eq q) (merged_keys (map (past_key k) ms)) ≡ true → map (told_of q) (map (past_key k) ms) ≡ map (told_of q) ms
left_told q k ms all is left = go (bytes_eq q k) refl
  where
    go : (b : Bool) → bytes_eq q k ≡ b → map (told_of q) (map (past_key k) ms) ≡ map (told_of q) ms
    go true here = absurd (true≢false (sym left ∙ ap (λ x. list_any (bytes_eq x) (merged_keys (map (past_key k) ms))) (same_key q k here) ∙ not_among k (merged_keys (map (past_key k) ms)) (rest_above k ms all is)))
    go false other = all_past_told q k ms other

-- what is left is left among all
pub left_among : {Y : Type 0} (q k : List ℕ) (ms : List (Terms Y)) → AllAscend ms → least_key ms ≡ Some k → list_any (bytes_eq q) (merged_keys (map (past_key k) ms)) ≡ true → list_any (bytes_eq q) (merged_keys ms) ≡ true
left_among q k ms all is left = ap (list_any (bytes_eq q)) (least_first k ms all is) ∙ ap (λ b. bytes_eq q k || b) left ∙ go (bytes_eq q k)
  where
    go : (b : Bool) → (b || true) ≡ true
    go true = refl
    go false = refl

-- of a key that isn't above the first term's, what the first term tells, if it is the key's
pub first_told : {Y : Type 0} (k : List ℕ) (m : Terms Y) → TermsAscend (keys_of m) → Leads k m → (t : List ℕ × Y) (terms : Terms Y) → m ≡ t ∷ terms → bytes_eq t.0 k ≡ false → told_of k m ≡ None
first_told {Y} k m a leads t terms is other = ap (told_of k) is ∙ ap (λ b. option_map (λ u. u.1) (if b then Some t else find (λ u. bytes_eq u.0 k) terms)) other ∙ ap (option_map (λ u. u.1)) (none terms (further terms (above_or k t.0 (subst (Leads k) is leads) other) (all_above t.0 (keys_of terms) (subst (λ x. TermsAscend (keys_of x)) is a))))
  where
    further : (us : Terms Y) → cmp k t.0 ≡ Less → AllAbove t.0 (keys_of us) → AllAbove k (keys_of us)
    further [] less all = tt
    further (u ∷ us) less all = (nat_list_cmp_total.trans k t.0 u.0 less all.0, further us less all.1)

    none : (us : Terms Y) → AllAbove k (keys_of us) → find (λ u. bytes_eq u.0 k) us ≡ None
    none [] all = refl
    none (u ∷ us) all = ap (λ b. if b then Some u else find (λ v. bytes_eq v.0 k) us) (turned u.0 k ∙ less_apart k u.0 all.0) ∙ none us all.1
