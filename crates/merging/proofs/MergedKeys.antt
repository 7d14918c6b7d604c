-- Keys of several members, in ascending order and each once.
use Rattle.std.proofs.Common.{[], Bool, List, ap, ap₂, bytes_eq, false, flat_map, refl, sym, true, true≢false, ◌||◌, ◌≡◌, ◌∙◌, ◌∷◌, ℕ}
use Rattle.std.specs.Cmp.Lexicographic.{slice_cmp}
use Rattle.std.specs.List.{AllByRecursion, list_any}
use Rattle.std.specs.Ordering.{is_eq, nat_cmp, ordering_reverse}
use Rattle.std.specs.declared.cmp.Ordering.{Ordering}
use Rattle.std.specs.declared.cmp.Ordering.TheVariants.{Equal, Greater, Less}
use Rattle.std.proofs.lemmas.Cmp.{nat_list_cmp_total}
use Rattle.std.proofs.lemmas.List.Folds.{list_any-append}
use Rattle.std.proofs.lemmas.Map.Text.{is_eq-slice_cmp}
use Rattle.std.proofs.lemmas.Slice.Eq.{bytes_eq-Decides}
use Rattle.layouts.specs.TermSections.{TermsAscend}
use Rattle.merging.specs.KeyLists.{Terms, ascending_keys, keys_of, merged_keys, with_key}
use Rattle.segment_reader.proofs.Ordered.{behind}

abbrev pub cmp : List ℕ → List ℕ → Ordering
cmp = slice_cmp nat_cmp

-- ---- one key beside another

pub same_key : (s t : List ℕ) → bytes_eq s t ≡ true → s ≡ t
same_key s t is = (bytes_eq-Decides s t).0 is

pub is_itself : (s : List ℕ) → bytes_eq s s ≡ true
is_itself s = (bytes_eq-Decides s s).1 refl

pub equal_key : (s t : List ℕ) → cmp s t ≡ Equal → s ≡ t
equal_key s t is = same_key s t (sym (is_eq-slice_cmp s t) ∙ ap is_eq is)

pub less_apart : (s t : List ℕ) → cmp s t ≡ Less → bytes_eq s t ≡ false
less_apart s t is = sym (is_eq-slice_cmp s t) ∙ ap is_eq is

pub flipped : (s t : List ℕ) (o : Ordering) → cmp s t ≡ o → cmp t s ≡ ordering_reverse o
flipped s t o is = nat_list_cmp_total.antisymm t s ∙ ap ordering_reverse is

-- ---- keys behind one

abbrev pub AllAbove : List ℕ → List (List ℕ) → Type 0
AllAbove s ts = AllByRecursion (λ t. cmp s t ≡ Less) ts

further : (r s : List ℕ) (ts : List (List ℕ)) → cmp r s ≡ Less → AllAbove s ts → AllAbove r ts
further r s [] less all = tt
further r s (t ∷ ts) less all = (nat_list_cmp_total.trans r s t less all.0, further r s ts less all.1)

pub all_above : (s : List ℕ) (ts : List (List ℕ)) → TermsAscend (s ∷ ts) → AllAbove s ts
all_above s [] a = tt
all_above s (t ∷ ts) a = (a.0, further s t ts a.0 (all_above t ts a.1))

pub ascends_behind : (s : List ℕ) (ts : List (List ℕ)) → AllAbove s ts → TermsAscend ts → TermsAscend (s ∷ ts)
ascends_behind s [] all a = tt
ascends_behind s (t ∷ ts) all a = (all.0, a)

pub not_among : (s : List ℕ) (ts : List (List ℕ)) → AllAbove s ts → list_any (bytes_eq s) ts ≡ false
not_among s [] all = refl
not_among s (t ∷ ts) all = ap₂ (λ a b. a || b) (less_apart s t all.0) (not_among s ts all.1)

-- ---- one key more

pub all_with : (P : List ℕ → Type 0) (key : List ℕ) (keys : List (List ℕ)) → P key → AllByRecursion P keys → AllByRecursion P (with_key key keys)
all_with P key [] here all = (here, tt)
all_with P key (k ∷ keys) here all = go (cmp key k) (all_with P key keys here all.1)
  where
    go : (o : Ordering) → AllByRecursion P (with_key key keys) → AllByRecursion P (elim o [ Less ↦ key ∷ k ∷ keys | Equal ↦ k ∷ keys | Greater ↦ k ∷ with_key key keys ])
    go Less later = (here, all)
    go Equal later = all
    go Greater later = (all.0, later)

with_ascends : (key : List ℕ) (keys : List (List ℕ)) → TermsAscend keys → TermsAscend (with_key key keys)
with_ascends key [] a = tt
with_ascends key (k ∷ keys) a = go (cmp key k) refl (with_ascends key keys (behind k keys a))
  where
    go : (o : Ordering) → cmp key k ≡ o → TermsAscend (with_key key keys) → TermsAscend (elim o [ Less ↦ key ∷ k ∷ keys | Equal ↦ k ∷ keys | Greater ↦ k ∷ with_key key keys ])
    go Less is later = (is, a)
    go Equal is later = a
    go Greater is later = ascends_behind k (with_key key keys) (all_with (λ t. cmp k t ≡ Less) key keys (flipped key k Greater is) (all_above k keys a)) later

with_among : (q key : List ℕ) (keys : List (List ℕ)) → list_any (bytes_eq q) (with_key key keys) ≡ (bytes_eq q key || list_any (bytes_eq q) keys)
with_among q key [] = refl
with_among q key (k ∷ keys) = go (cmp key k) refl (with_among q key keys)
  where
    twice : (a b : Bool) → (a || b) ≡ (a || (a || b))
    twice true b = refl
    twice false b = refl

    swapped : (a b c : Bool) → (a || (b || c)) ≡ (b || (a || c))
    swapped true true c = refl
    swapped true false c = refl
    swapped false true c = refl
    swapped false false c = refl

    go : (o : Ordering) → cmp key k ≡ o → list_any (bytes_eq q) (with_key key keys) ≡ (bytes_eq q key || list_any (bytes_eq q) keys)
        → list_any (bytes_eq q) (elim o [ Less ↦ key ∷ k ∷ keys | Equal ↦ k ∷ keys | Greater ↦ k ∷ with_key key keys ]) ≡ (bytes_eq q key || (bytes_eq q k || list_any (bytes_eq q) keys))
    go Less is later = refl
    go Equal is later = twice (bytes_eq q k) (list_any (bytes_eq q) keys) ∙ ap (λ t. bytes_eq q t || (bytes_eq q k || list_any (bytes_eq q) keys)) (sym (equal_key key k is))
    go Greater is later = ap (λ b. bytes_eq q k || b) later ∙ swapped (bytes_eq q k) (bytes_eq q key) (list_any (bytes_eq q) keys)

-- ---- all keys

pub keys_ascend : (keys : List (List ℕ)) → TermsAscend (ascending_keys keys)
keys_ascend [] = tt
keys_ascend (k ∷ keys) = with_ascends k (ascending_keys keys) (keys_ascend keys)

keys_among : (q : List ℕ) (keys : List (List ℕ)) → list_any (bytes_eq q) (ascending_keys keys) ≡ list_any (bytes_eq q) keys
keys_among q [] = refl
keys_among q (k ∷ keys) = with_among q k (ascending_keys keys) ∙ ap (λ b. bytes_eq q k || b) (keys_among q keys)

pub all_ascending : (P : List ℕ → Type 0) (keys : List (List ℕ)) → AllByRecursion P keys → AllByRecursion P (ascending_keys keys)
all_ascending P [] all = tt
all_ascending P (k ∷ keys) all = all_with P k (ascending_keys keys) all.0 (all_ascending P keys all.1)

-- whether a member has the key
abbrev pub any_has : {Y : Type 0} → List ℕ → List (Terms Y) → Bool
any_has q members = list_any (λ terms. list_any (bytes_eq q) (keys_of terms)) members

pub merged_among : {Y : Type 0} (members : List (Terms Y)) (q : List ℕ) → list_any (bytes_eq q) (merged_keys members) ≡ any_has q members
merged_among members q = keys_among q (flat_map keys_of members) ∙ go members
  where
    go : {Y : Type 0} (ms : List (Terms Y)) → list_any (bytes_eq q) (flat_map keys_of ms) ≡ any_has q ms
    go [] = refl
    go (m ∷ ms) = list_any-append (bytes_eq q) (keys_of m) (flat_map keys_of ms) ∙ ap (λ b. list_any (bytes_eq q) (keys_of m) || b) (go ms)

-- ---- ascending keys are told by what is among them

pub one_list : (ss ts : List (List ℕ)) → TermsAscend ss → TermsAscend ts → ((q : List ℕ) → list_any (bytes_eq q) ss ≡ list_any (bytes_eq q) ts) → ss ≡ ts
one_list [] [] a b same = refl
one_list [] (t ∷ ts) a b same = absurd (true≢false (sym (same t ∙ ap (λ x. x || list_any (bytes_eq t) ts) (is_itself t))))
one_list (s ∷ ss) [] a b same = absurd (true≢false (sym (ap (λ x. x || list_any (bytes_eq s) ss) (is_itself s)) ∙ same s))
one_list (s ∷ ss) (t ∷ ts) a b same = go (cmp s t) refl (one_list ss ts (behind s ss a) (behind t ts b))
  where
    first : list_any (bytes_eq s) (s ∷ ss) ≡ true
    first = ap (λ x. x || list_any (bytes_eq s) ss) (is_itself s)

    second : list_any (bytes_eq t) (t ∷ ts) ≡ true
    second = ap (λ x. x || list_any (bytes_eq t) ts) (is_itself t)

    tails : s ≡ t → (q : List ℕ) → list_any (bytes_eq q) ss ≡ list_any (bytes_eq q) ts
    tails is q = apart (bytes_eq q s) refl
      where
        apart : (x : Bool) → bytes_eq q s ≡ x → list_any (bytes_eq q) ss ≡ list_any (bytes_eq q) ts
        apart true here =
            let q_is = same_key q s here in
            ap (λ r. list_any (bytes_eq r) ss) q_is ∙ not_among s ss (all_above s ss a)
            ∙ sym (ap (λ r. list_any (bytes_eq r) ts) (q_is ∙ is) ∙ not_among t ts (all_above t ts b))
        apart false other =
            sym (ap (λ x. x || list_any (bytes_eq q) ss) other)
            ∙ same q
            ∙ ap (λ x. x || list_any (bytes_eq q) ts) (ap (bytes_eq q) (sym is) ∙ other)

    go : (o : Ordering) → cmp s t ≡ o → (((q : List ℕ) → list_any (bytes_eq q) ss ≡ list_any (bytes_eq q) ts) → ss ≡ ts) → s ∷ ss ≡ t ∷ ts
    go Less is later = absurd (true≢false (sym first ∙ same s ∙ not_among s (t ∷ ts) (is, further s t ts is (all_above t ts b))))
    go Equal is later = (let k = equal_key s t is in ap₂ (λ x xs. x ∷ xs) k (later (tails k)))
    go Greater is later = (let back = flipped s t Greater is in absurd (true≢false (sym second ∙ sym (same t) ∙ not_among t (s ∷ ss) (back, further t s ss back (all_above s ss a)))))
