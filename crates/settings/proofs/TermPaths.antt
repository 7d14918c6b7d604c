-- The path of a term of a JSON field, and the parts of texts.
use Rattle.std.proofs.Common.{[], ◌+◌, ◌-◌, ◌==◌, ◌∙◌, ◌∷◌, ◌≡◌, ◌≤◌, Bool, Bor, List, None, Some, ap, ap₂, arith, cond, drop, length, map, nat_lt, refl, sym, take, ℕ}
use Rattle.std.specs.List.{after_first, before_first, onto_first, position, position_or_len, slice_split}
use Rattle.std.proofs.Math.Seq.{take-length}
use Rattle.std.proofs.lemmas.Bool.{ltb-false}
use Rattle.std.proofs.lemmas.Bool.Decides.{nat_tests}
use Rattle.std.proofs.lemmas.List.{drop_all, length-drop, take_all}
use Rattle.std.proofs.lemmas.Option.{cond_some}
use Rattle.serde_json.specs.Data.{Data, string}
use Rattle.terms.proofs.TextKeys.{none_found}

-- ---- the first element that passes

module _ (test : ℕ → Bool) (bs : List ℕ) where
  -- where it stands, a path and a leaf stand round it
  pub path_found : (end : ℕ) → Some end ≡ position test bs → (take end bs ≡ before_first test bs) × (take (length bs - (end + 1)) (drop (end + 1) bs) ≡ after_first test bs)
  path_found end found =
      let here = (cond_some (nat_lt (position_or_len test bs) (length bs)) (position_or_len test bs) end (sym found)).1 in
      let rest : take (length bs - (end + 1)) (drop (end + 1) bs) ≡ drop (end + 1) bs = ap (λ n. take n (drop (end + 1) bs)) (sym (length-drop (end + 1) bs)) ∙ take-length (drop (end + 1) bs) in
      (ap (λ k. take k bs) (sym here), rest ∙ ap (λ k. drop (k + 1) bs) (sym here))

  -- where there is none, the path is alone
  pub path_alone : None ≡ position test bs → (bs ≡ before_first test bs) × ([] ≡ after_first test bs)
  path_alone found =
      let end = position_or_len test bs in
      let past : length bs ≤ end = ltb-false end (length bs) (none_found (nat_lt end (length bs)) end found) in
      (sym (take_all end bs past), sym (drop_all (end + 1) bs (omega (arith, past))))

-- ---- the parts of a text

same_parts : (p q : ℕ → Bool) → ((b : ℕ) → p b ≡ q b) → (bs : List ℕ) → slice_split p bs ≡ slice_split q bs
same_parts p q same [] = refl
same_parts p q same (b ∷ bs) = ap₂ (λ t (parts : List (List ℕ)). cond t ([] ∷ parts) (onto_first b parts)) (same b) (same_parts p q same bs)

-- a test for a byte from either side
pub parts_at : (c : ℕ) (bs : List ℕ) → slice_split (λ b. b == c) bs ≡ slice_split (◌==◌ c) bs
parts_at c bs = same_parts (λ b. b == c) (◌==◌ c) (λ b. grind (arith, nat_tests)) bs

-- the JSON of texts
pub texts_of : (keys : List (Bor (List ℕ))) → map (λ k. string k.now) keys ≡ map string (map (λ k. k.now) keys)
texts_of [] = refl
texts_of (k ∷ keys) = ap (λ (ds : List Data). string k.now ∷ ds) (texts_of keys)
