-- Weights by the bytes of their terms, as terms are added.
use Rattle.std.proofs.Common.{[], ◌≤◌, ◌+◌, ◌<◌, add-one, drop, drop-cons, get_or, length, suc, take, ◌||◌, ◌⊎◌, inl, inr, ◌&&◌, ◌++◌, ◌∙◌, ◌∷◌, ◌≡◌, Bool, List, None, Option, Some, Vec, ap, bytes_eq, cond, false, find, is_some, nat_le, not, option_map, refl, subst, sym, true, ℕ}
use Rattle.std.specs.List.{list_all, list_any}
use Rattle.std.specs.Map.{KeepsOthers, update}
use Rattle.std.specs.BTreeMap.{BTreeMap, UpdatesBy}
use Rattle.std.specs.Cmp.{eq_by_cmp_equiv}
use Rattle.std.specs.Cmp.Lexicographic.{nat_list_cmp_total, slice_cmp}
use Rattle.std.specs.Ordering.{is_eq, nat_cmp}
use Rattle.std.specs.Option.{option_map_or, option_or, unwrap_or}
use Rattle.std.specs.declared.alloc.Global.{Global}
use Rattle.std.proofs.lemmas.Bool.{and_cases, and_from, and_left, and_parts, and_right, not-false, not-true, not_from_false, not_from_true, or_from, or_left, or_parts, or_right, true≢false}
use Rattle.std.proofs.lemmas.List.Folds.{find-append, list_all-append, list_any-append}
use Rattle.std.proofs.Math.Seq.{take-suc}
use Rattle.std.proofs.lemmas.List.{take-append-drop}
use Rattle.std.proofs.lemmas.Map.Text.{is_eq-slice_cmp}
use Rattle.std.proofs.lemmas.Slice.Eq.{bytes_eq-Decides}
use Rattle.definitions.proofs.Lists.{unequal}
use Rattle.definitions.specs.Scoring.{max_score}
use Rattle.definitions.specs.Settings.{Settings, is_settings, weighs_once, weight_of}
use Rattle.definitions.proofs.SettingsInRange.{similarity_of_settings}
use Rattle.settings.specs.Weights.{IsKept, WeighsTerms, get_by_bytes}

-- bytes that meet a key aren't met by others
apart : (bytes others key : List ℕ) → bytes_eq bytes others ≡ false → is_eq (slice_cmp nat_cmp bytes key) ≡ true → is_eq (slice_cmp nat_cmp others key) ≡ false
apart bytes others key differ same = is_eq-slice_cmp others key ∙ subst (λ k. bytes_eq others k ≡ false) ((bytes_eq-Decides bytes key).0 (sym (is_eq-slice_cmp bytes key) ∙ same)) (unequal bytes others differ)

-- after a value is put at a key, what stands at any bytes
pub updates_bytes : {X : Type 0} (key : Vec ℕ Global) (old new : BTreeMap (Vec ℕ Global) X) (value : Option X) → UpdatesBy (λ x y. slice_cmp nat_cmp x.items y.items) (λ k. slice_cmp nat_cmp key.items k.items) old new value → (bytes : List ℕ) → get_by_bytes new bytes ≡ update bytes_eq (get_by_bytes old) key.items value bytes
unfolding KeepsOthers
updates_bytes key old new value updated bytes = go (bytes_eq key.items bytes) refl
  where
    go : (b : Bool) → bytes_eq key.items bytes ≡ b → get_by_bytes new bytes ≡ cond b value (get_by_bytes old bytes)
    go true e = subst (λ bs. get_by_bytes new bs ≡ value) ((bytes_eq-Decides key.items bytes).0 e) updated.1
    go false e = updated.3 (λ k. is_eq (slice_cmp nat_cmp bytes k.items))
        (λ x y. (eq_by_cmp_equiv nat_list_cmp_total).congr bytes x.items y.items)
        (λ k. apart key.items bytes k.items e)

-- what isn't something is nothing
pub none_of_not_some : {X : Type 0} (o : Option X) → is_some o ≡ false → o ≡ None
none_of_not_some None h = refl
none_of_not_some (Some x) h = absurd (true≢false h)

-- ---- one more term

-- where no term of these weights is found, one more is found at its own bytes
pub weighs-push : (old new : BTreeMap (Vec ℕ Global) ℕ) (ws : List (List ℕ × ℕ)) (w : List ℕ × ℕ) → WeighsTerms old ws → get_by_bytes old w.0 ≡ None → ((t : List ℕ) → get_by_bytes new t ≡ update bytes_eq (get_by_bytes old) w.0 (Some w.1) t) → WeighsTerms new (ws ++ (w ∷ []))
weighs-push old new ws w before first noted t = noted t ∙ go (bytes_eq w.0 t) refl ∙ sym (ap (option_map (λ v. v.1)) (find-append (λ v. bytes_eq v.0 t) ws (w ∷ [])))
  where
    found : List (List ℕ × ℕ) → Option (List ℕ × ℕ)
    found vs = find (λ v. bytes_eq v.0 t) vs

    last : (b : Bool) (o : Option (List ℕ × ℕ)) (n : Option ℕ) → n ≡ option_map (λ v. v.1) o → (b ≡ true → n ≡ None) → cond b (Some w.1) n ≡ option_map (λ v. v.1) (option_or o (cond b (Some w) None))
    last true None n same none = refl
    last true (Some v) n same none = absurd (some_is_none (sym same ∙ none refl))
      where
        some_is_none : Some v.1 ≡ None → ⊥
        some_is_none h = cc
    last false None n same none = same
    last false (Some v) n same none = same

    go : (b : Bool) → bytes_eq w.0 t ≡ b → cond b (Some w.1) (get_by_bytes old t) ≡ option_map (λ v. v.1) (option_or (found ws) (cond (bytes_eq w.0 t) (Some w) None))
    go b e = subst (λ c. cond b (Some w.1) (get_by_bytes old t) ≡ option_map (λ v. v.1) (option_or (found ws) (cond c (Some w) None))) (sym e) (last b (found ws) (get_by_bytes old t) (before t) (λ yes. subst (λ bs. get_by_bytes old bs ≡ None) ((bytes_eq-Decides w.0 t).0 (e ∙ yes)) first))

-- a test that finds nothing finds none of them
none_found : (p : List ℕ × ℕ → Bool) (ws : List (List ℕ × ℕ)) → option_map (λ v. v.1) (find p ws) ≡ None → list_any p ws ≡ false
none_found p [] h = refl
none_found p (w ∷ ws) h = go (p w) h (none_found p ws)
  where
    go : (b : Bool) → option_map (λ v. v.1) (cond b (Some w) (find p ws)) ≡ None → (option_map (λ v. v.1) (find p ws) ≡ None → list_any p ws ≡ false) → (b || list_any p ws) ≡ false
    go true one later = cc
    go false others later = later others

-- a test that finds something finds one of them
some_found : (p : List ℕ × ℕ → Bool) (ws : List (List ℕ × ℕ)) → is_some (option_map (λ v. v.1) (find p ws)) ≡ true → list_any p ws ≡ true
some_found p [] h = h
some_found p (w ∷ ws) h = go (p w) h (some_found p ws)
  where
    go : (b : Bool) → is_some (option_map (λ v. v.1) (cond b (Some w) (find p ws))) ≡ true → (is_some (option_map (λ v. v.1) (find p ws)) ≡ true → list_any p ws ≡ true) → (b || list_any p ws) ≡ true
    go true one later = refl
    go false others later = later others

-- a term that isn't among them yet is weighted once
once-push : (ws : List (List ℕ × ℕ)) (w : List ℕ × ℕ) → weighs_once ws ≡ true → list_any (λ v. bytes_eq v.0 w.0) ws ≡ false → weighs_once (ws ++ (w ∷ [])) ≡ true
once-push [] w once first = refl
once-push (v ∷ vs) w once first =
    let parts = or_parts (bytes_eq v.0 w.0) (list_any (λ u. bytes_eq u.0 w.0) vs) first in
    let before = and_parts (not (list_any (λ u. bytes_eq u.0 v.0) vs)) (weighs_once vs) once in
    let apart : list_any (λ u. bytes_eq u.0 v.0) (vs ++ (w ∷ [])) ≡ false = list_any-append (λ u. bytes_eq u.0 v.0) vs (w ∷ []) ∙ or_from _ _ (not-true _ before.0) (or_from _ _ (unequal v.0 w.0 parts.0) refl) in
    and_from _ _ (not_from_false _ apart) (once-push vs w before.1 parts.1)

-- a term that is among them already is weighted twice
weighs_twice : (ws : List (List ℕ × ℕ)) (w : List ℕ × ℕ) (rest : List (List ℕ × ℕ)) → list_any (λ v. bytes_eq v.0 w.0) ws ≡ true → weighs_once (ws ++ (w ∷ rest)) ≡ false
weighs_twice [] w rest h = absurd (true≢false (sym h))
weighs_twice (v ∷ vs) w rest h = go (bytes_eq v.0 w.0) refl h (weighs_twice vs w rest)
  where
    again : bytes_eq v.0 w.0 ≡ true → list_any (λ u. bytes_eq u.0 v.0) (vs ++ (w ∷ rest)) ≡ true
    again same = list_any-append (λ u. bytes_eq u.0 v.0) vs (w ∷ rest) ∙ or_right _ _ (or_left _ _ ((bytes_eq-Decides w.0 v.0).1 (sym ((bytes_eq-Decides v.0 w.0).0 same))))

    go : (b : Bool) → bytes_eq v.0 w.0 ≡ b → (b || list_any (λ u. bytes_eq u.0 w.0) vs) ≡ true → (list_any (λ u. bytes_eq u.0 w.0) vs ≡ true → weighs_once (vs ++ (w ∷ rest)) ≡ false) → (not (list_any (λ u. bytes_eq u.0 v.0) (vs ++ (w ∷ rest))) && weighs_once (vs ++ (w ∷ rest))) ≡ false
    go true same any later = and_left _ _ (not_from_true _ (again same))
    go false other any later = and_right _ _ (later any)

-- likewise with what is noted of them
pub weighs_once-push : (map : BTreeMap (Vec ℕ Global) ℕ) (ws : List (List ℕ × ℕ)) (w : List ℕ × ℕ) → WeighsTerms map ws → weighs_once ws ≡ true → get_by_bytes map w.0 ≡ None → weighs_once (ws ++ (w ∷ [])) ≡ true
weighs_once-push map ws w noted once first = once-push ws w once (none_found (λ v. bytes_eq v.0 w.0) ws (sym (noted w.0) ∙ first))

-- a weight that is too great, or whose term is noted already, is among no weights of settings
pub not_weights : (map : BTreeMap (Vec ℕ Global) ℕ) (ws : List (List ℕ × ℕ)) (w : List ℕ × ℕ) (rest : List (List ℕ × ℕ)) → WeighsTerms map ws → (nat_le w.1 max_score && not (is_some (get_by_bytes map w.0))) ≡ false → (list_all (λ v. nat_le v.1 max_score) (ws ++ (w ∷ rest)) && weighs_once (ws ++ (w ∷ rest))) ≡ false
not_weights map ws w rest noted refused = go (and_cases _ _ refused)
  where
    go : (nat_le w.1 max_score ≡ false) ⊎ (not (is_some (get_by_bytes map w.0)) ≡ false) → (list_all (λ v. nat_le v.1 max_score) (ws ++ (w ∷ rest)) && weighs_once (ws ++ (w ∷ rest))) ≡ false
    go (inl great) = and_left _ _ (list_all-append (λ v. nat_le v.1 max_score) ws (w ∷ rest) ∙ and_right _ _ (and_left _ _ great))
    go (inr again) = and_right _ _ (weighs_twice ws w rest (some_found (λ v. bytes_eq v.0 w.0) ws (sym (ap is_some (noted w.0)) ∙ not-false _ again)))

-- ---- by indices

-- what was noted of the first weights, and the next one
module _ (ws : List (List ℕ × ℕ)) (i : ℕ) (w : List ℕ × ℕ) (within : i < length ws) (here : w ≡ get_or ws i w) where
  -- the first weights and the next are one more of the first
  pub one_more : take (i + 1) ws ≡ take i ws ++ (w ∷ [])
  one_more = rw add-one (take-suc ws i w within ∙ ap (λ v. take i ws ++ (v ∷ [])) (sym here))

  -- the next stands between the first weights and the rest
  pub between : ws ≡ take i ws ++ (w ∷ drop (suc i) ws)
  between = sym (take-append-drop i ws) ∙ ap (λ vs. take i ws ++ vs) (drop-cons ws i w within ∙ ap (λ v. v ∷ drop (suc i) ws) (sym here))

-- ---- what scores take of settings

-- what is noted for a term, or else the default, is the term's weight
pub noted_or_default : (map : BTreeMap (Vec ℕ Global) ℕ) (s : Settings) (t : List ℕ) → IsKept map s → unwrap_or (get_by_bytes map t) s.default_weight ≡ weight_of s t
noted_or_default map s t kept = ap (λ o. unwrap_or o s.default_weight) (kept.by_term t) ∙ go (find (λ w. bytes_eq w.0 t) s.weights)
  where
    go : (o : Option (List ℕ × ℕ)) → unwrap_or (option_map (λ w. w.1) o) s.default_weight ≡ option_map_or (λ w. w.1) o s.default_weight
    go None = refl
    go (Some w) = refl

-- no term's weight is above the greatest score
pub weight_within : (s : Settings) (t : List ℕ) → is_settings s ≡ true → weight_of s t ≤ max_score
weight_within s t valid = (similarity_of_settings s valid).weights t
