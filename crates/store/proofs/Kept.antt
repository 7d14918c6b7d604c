-- Kept blocks: their numbers, and what a look-up makes of them.
use Rattle.std.proofs.Common.{ℕ, zero, suc, List, [], ◌∷◌, ◌≡◌, ◌<◌, ◌-◌, ◌||◌, Bool, true, false, cond, Option, Some, None, nat_eq, refl, sym, ap, ap₂, ◌∙◌, subst, arith, take, IsSome}
use Rattle.std.proofs.Common.{Contains, inl, inr, is_some, ◌⊎◌}
use Rattle.std.proofs.lemmas.Bool.Decides.{nat_tests}
use Rattle.std.specs.Option.{option_map_or}
use Rattle.std.specs.Map.{keys_of, lookup, lookup_entry, remove_entry}
use Rattle.lru.proofs.CallerLemmas.{Contains-promoted, Contains-take}
use Rattle.lru.proofs.Splits.{Contains-cons}
use Rattle.lru.specs.LruCache.{LruCache, lru_cache, promoted, put_entries}
use Rattle.store.specs.declared.block_cache.BlockCache.{BlockCache}
use Rattle.store.specs.Caches.{Kept, entries_in, capacity_in, is_kept, kept_of, entries_of, looked_up, opened, others, plus}

-- ---- numbers are the keys of the entries

kept_key : (at : ℕ) (es : List (ℕ × List ℕ)) → is_kept at (keys_of es) ≡ is_some (lookup (nat_eq at) es)
kept_key at [] = refl
kept_key at (e ∷ es) = (elim (nat_eq at e.0) as (λ b. nat_eq at e.0 ≡ b → is_kept at (keys_of (e ∷ es)) ≡ is_some (lookup (nat_eq at) (e ∷ es))) [
  | true ↦ λ t. rw t refl
  | false ↦ λ t. rw t (kept_key at es)
]) refl

removed_key : (at : ℕ) (es : List (ℕ × List ℕ)) → keys_of (remove_entry (nat_eq at) es) ≡ others at (keys_of es)
removed_key at [] = refl
removed_key at (e ∷ es) = (elim (nat_eq at e.0) as (λ b. nat_eq at e.0 ≡ b → keys_of (remove_entry (nat_eq at) (e ∷ es)) ≡ others at (keys_of (e ∷ es))) [
  | true ↦ λ t. rw t refl
  | false ↦ λ t. rw t (ap (λ ps. e.0 ∷ ps) (removed_key at es))
]) refl

-- the entry that is found has its key, and none is found where there is none
found_some : (at : ℕ) (es : List (ℕ × List ℕ)) (v : List ℕ) → lookup (nat_eq at) es ≡ Some v → lookup_entry (nat_eq at) es ≡ Some (at, v)
found_some at [] v h = cc
found_some at (e ∷ es) v h = (elim (nat_eq at e.0) as (λ b. nat_eq at e.0 ≡ b → lookup_entry (nat_eq at) (e ∷ es) ≡ Some (at, v)) [
  | true ↦ λ t. let h' = rw t at h in let same : e.1 ≡ v = cc in let key : e.0 ≡ at = grind (arith, nat_tests) in rw t (ap₂ (λ k w. Some (k, w)) key same)
  | false ↦ λ t. rw t (found_some at es v (rw t at h))
]) refl

found_none : (at : ℕ) (es : List (ℕ × List ℕ)) → lookup (nat_eq at) es ≡ None → lookup_entry (nat_eq at) es ≡ None
found_none at [] h = refl
found_none at (e ∷ es) h = (elim (nat_eq at e.0) as (λ b. nat_eq at e.0 ≡ b → lookup_entry (nat_eq at) (e ∷ es) ≡ None) [
  | true ↦ λ t. let h' = rw t at h in cc
  | false ↦ λ t. rw t (found_none at es (rw t at h))
]) refl

-- ---- look-ups

-- what a look-up says of the numbers
record Looked (at : ℕ) (es : List (ℕ × List ℕ)) (ps : List ℕ) (there : Bool) : Type 0 where
  pub numbers : ps ≡ cond there (at ∷ others at (keys_of es)) (keys_of es)
  pub kept : is_kept at (keys_of es) ≡ there

looked_some : (at : ℕ) (es : List (ℕ × List ℕ)) (v : List ℕ) → lookup (nat_eq at) es ≡ Some v → Looked at es (keys_of (promoted (nat_eq at) es)) true
looked_some at es v h = record {
  numbers = ap (λ o. keys_of (option_map_or (λ e. e ∷ remove_entry (nat_eq at) es) o es)) (found_some at es v h) ∙ ap (λ ps. at ∷ ps) (removed_key at es);
  kept = kept_key at es ∙ ap is_some h;
}

looked_none : (at : ℕ) (es : List (ℕ × List ℕ)) → lookup (nat_eq at) es ≡ None → Looked at es (keys_of (promoted (nat_eq at) es)) false
looked_none at es h = record {
  numbers = ap (λ o. keys_of (option_map_or (λ e. e ∷ remove_entry (nat_eq at) es) o es)) (found_none at es h);
  kept = kept_key at es ∙ ap is_some h;
}

abbrev cache_with : LruCache ℕ (List ℕ) → ℕ → ℕ → BlockCache
cache_with c hits misses = record { cache = Some c; hits = hits; misses = misses }

abbrev kept_with : List ℕ → ℕ → ℕ → ℕ → Kept
kept_with numbers capacity hits misses = record { numbers = numbers; capacity = capacity; hits = hits; misses = misses }

-- a look-up that finds its block
pub kept_hit : (at : ℕ) (c new : LruCache ℕ (List ℕ)) (hits misses more : ℕ) (v : List ℕ) → lookup (nat_eq at) c.entries ≡ Some v → new ≡ lru_cache (promoted (nat_eq at) c.entries) c.cap → more ≡ plus hits 1 → kept_of (cache_with new more misses) ≡ looked_up at (kept_of (cache_with c hits misses))
kept_hit at c new hits misses more v found e m =
    let l = looked_some at c.entries v found in
    ap₂ (λ x n. kept_of (cache_with x n misses)) e m
    ∙ ap (λ ps. kept_with ps c.cap (plus hits 1) misses) l.numbers
    ∙ ap (λ b. cond b (kept_with (at ∷ others at (keys_of c.entries)) c.cap (plus hits 1) misses) (kept_with (keys_of c.entries) c.cap hits (plus misses 1))) (sym l.kept)

-- one that doesn't
pub kept_miss : (at : ℕ) (c new : LruCache ℕ (List ℕ)) (hits misses more : ℕ) → lookup (nat_eq at) c.entries ≡ None → new ≡ lru_cache (promoted (nat_eq at) c.entries) c.cap → more ≡ plus misses 1 → kept_of (cache_with new hits more) ≡ looked_up at (kept_of (cache_with c hits misses))
kept_miss at c new hits misses more found e m =
    let l = looked_none at c.entries found in
    ap₂ (λ x n. kept_of (cache_with x hits n)) e m
    ∙ ap (λ ps. kept_with ps c.cap hits (plus misses 1)) l.numbers
    ∙ ap (λ b. cond b (kept_with (at ∷ others at (keys_of c.entries)) c.cap (plus hits 1) misses) (kept_with (keys_of c.entries) c.cap hits (plus misses 1))) (sym l.kept)

-- one that was there, where its block could not be handed out
pub kept_there : (at : ℕ) (c new : LruCache ℕ (List ℕ)) (hits misses more : ℕ) → IsSome (lookup (nat_eq at) c.entries) → new ≡ lru_cache (promoted (nat_eq at) c.entries) c.cap → more ≡ plus hits 1 → kept_of (cache_with new more misses) ≡ looked_up at (kept_of (cache_with c hits misses))
kept_there at c new hits misses more there e m = of (lookup (nat_eq at) c.entries) refl there
  where
    of : (o : Option (List ℕ)) → lookup (nat_eq at) c.entries ≡ o → IsSome o → kept_of (cache_with new more misses) ≡ looked_up at (kept_of (cache_with c hits misses))
    of None is some = cc
    of (Some v) is some = kept_hit at c new hits misses more v is e m

-- ---- a block more

keys_taken : (n : ℕ) (es : List (ℕ × List ℕ)) → keys_of (take n es) ≡ take n (keys_of es)
keys_taken zero es = refl
keys_taken (suc n) [] = refl
keys_taken (suc n) (e ∷ es) = ap (λ ps. e.0 ∷ ps) (keys_taken n es)

take_first : (n : ℕ) (e : ℕ × List ℕ) (es : List (ℕ × List ℕ)) → 0 < n → e ∷ take (n - 1) es ≡ take n (e ∷ es)
take_first zero e es some = absurd (omega arith)
take_first (suc n) e es some = (let same : suc n - 1 ≡ n = omega arith in ap (λ k. e ∷ take k es) same)

pub put_new : (at : ℕ) (v : List ℕ) (c new : LruCache ℕ (List ℕ)) → lookup (nat_eq at) c.entries ≡ None → 0 < c.cap → new ≡ lru_cache (put_entries nat_eq c at v) c.cap → new ≡ lru_cache (take c.cap ((at, v) ∷ c.entries)) c.cap
put_new at v c new none room e =
    e ∙ ap (λ o. lru_cache (option_map_or (λ (f : ℕ × List ℕ). (f.0, v) ∷ remove_entry (nat_eq at) c.entries) o ((at, v) ∷ take (c.cap - 1) c.entries)) c.cap) (found_none at c.entries none)
    ∙ ap (λ es. lru_cache es c.cap) (take_first c.cap (at, v) c.entries room)

pub put_kept : (at : ℕ) (v : List ℕ) (c new : LruCache ℕ (List ℕ)) (hits misses : ℕ) → lookup (nat_eq at) c.entries ≡ None → 0 < c.cap → new ≡ lru_cache (put_entries nat_eq c at v) c.cap → kept_of (cache_with new hits misses) ≡ opened at (kept_of (cache_with c hits misses))
put_kept at v c new hits misses none room e =
    ap (λ x. kept_of (cache_with x hits misses)) (put_new at v c new none room e)
    ∙ ap (λ ps. kept_with ps c.cap hits misses) (keys_taken c.cap ((at, v) ∷ c.entries))
    ∙ ap (λ b. cond b (kept_of (cache_with c hits misses)) (kept_with (take c.cap (at ∷ keys_of c.entries)) c.cap hits misses)) (sym (kept_key at c.entries ∙ ap is_some none))

-- ---- the entries

entries_there : (at : ℕ) (c new : LruCache ℕ (List ℕ)) → new ≡ lru_cache (promoted (nat_eq at) c.entries) c.cap → (e : ℕ × List ℕ) → Contains new.entries e → Contains c.entries e
entries_there at c new is e in_new = Contains-promoted (nat_eq at) c.entries e (subst (λ (x : LruCache ℕ (List ℕ)). Contains x.entries e) is in_new)

entries_same : (at : ℕ) (c new : LruCache ℕ (List ℕ)) → new ≡ lru_cache (promoted (nat_eq at) c.entries) c.cap → lookup (nat_eq at) c.entries ≡ None → new.entries ≡ c.entries
entries_same at c new is none =
    ap (λ (x : LruCache ℕ (List ℕ)). x.entries) is ∙ ap (λ o. option_map_or (λ e. e ∷ remove_entry (nat_eq at) c.entries) o c.entries) (found_none at c.entries none)

-- the fields of a cache that was looked up in, where there is one
pub there_in : (at : ℕ) (o : Option (LruCache ℕ (List ℕ))) (c new : LruCache ℕ (List ℕ)) → o ≡ Some c → new ≡ lru_cache (promoted (nat_eq at) c.entries) c.cap → (e : ℕ × List ℕ) → Contains new.entries e → Contains (entries_in o) e
there_in at o c new some is e h = subst (λ x. Contains (entries_in x) e) (sym some) (entries_there at c new is e h)

pub same_in : (at : ℕ) (o : Option (LruCache ℕ (List ℕ))) (c new : LruCache ℕ (List ℕ)) → o ≡ Some c → new ≡ lru_cache (promoted (nat_eq at) c.entries) c.cap → lookup (nat_eq at) (entries_in o) ≡ None → new.entries ≡ entries_in o
same_in at o c new some is none =
    entries_same at c new is (subst (λ x. lookup (nat_eq at) (entries_in x) ≡ None) some none) ∙ ap entries_in (sym some)

-- a block that is there stays in front
pub opened_hit : (at : ℕ) (b : BlockCache) (v : List ℕ) → Some v ≡ lookup (nat_eq at) (entries_of b) → looked_up at (kept_of b) ≡ opened at (looked_up at (kept_of b))
opened_hit at b v found =
    let there : is_kept at (keys_of (entries_of b)) ≡ true = kept_key at (entries_of b) ∙ ap is_some (sym found) in
    let front : Kept = kept_with (at ∷ others at (keys_of (entries_of b))) (capacity_in b.cache) (plus b.hits 1) b.misses in
    let is : looked_up at (kept_of b) ≡ front = ap (λ y. cond y front (kept_with (keys_of (entries_of b)) (capacity_in b.cache) b.hits (plus b.misses 1))) there in
    let first : nat_eq at at ≡ true = grind (arith, nat_tests) in
    is ∙ ap (λ y. cond (y || is_kept at (others at (keys_of (entries_of b)))) front (kept_with (take (capacity_in b.cache) (at ∷ front.numbers)) (capacity_in b.cache) (plus b.hits 1) b.misses)) (sym first) ∙ ap (opened at) (sym is)

-- the first of some entries, or another
pub among_more : (n at : ℕ) (v : List ℕ) (es : List (ℕ × List ℕ)) (e : ℕ × List ℕ) → Contains (take n ((at, v) ∷ es)) e → Contains es e ⊎ ((e.0 ≡ at) × (e.1 ≡ v))
among_more n at v es e h = elim (Contains-cons (at, v) es e (Contains-take n ((at, v) ∷ es) e h)) [
  | inl same ↦ inr (sym (ap (λ p. p.0) same), sym (ap (λ p. p.1) same))
  | inr rest ↦ inl rest
]
