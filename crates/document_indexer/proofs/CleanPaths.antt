-- Paths in JSON values have no zero, so that a term tells its path from its leaf.
use Rattle.std.proofs.Common.{[], ◌++◌, ◌+◌, ◌==◌, ◌||◌, ◌≡◌, ◌∙◌, ◌∷◌, Bool, List, ap, ap₂, arith, cond, drop, false, if◌then◌else◌, not, refl, suc, sym, take, true, ℕ}
use Rattle.std.specs.List.{AllByRecursion, after_first, before_first, position_or_len}
use Rattle.std.proofs.lemmas.List.Folds.{list_any-append}
use Rattle.definitions.proofs.Lists.{or_first as first_false, or_second as second_false}
use Rattle.definitions.proofs.TermsReadBack.{key_there as payload_of-term}
use Rattle.definitions.proofs.TokenTexts.{key_clean}
use Rattle.definitions.specs.JsonLeaves.{has_zero, leaves, members_leaves, values_leaves}
use Rattle.definitions.specs.Schema.{json_kind}
use Rattle.definitions.specs.Terms.{json_term, key_bytes, path_of_keys, payload_of}
use Rattle.definitions.specs.Values.{Members, Value, Values, array, bool, bytes, date, facet, i64, ip_addr, member, no_members, no_values, null, object, pre_tok_str, str, u64, value}

-- ---- the first zero

abbrev pub is_zero : ℕ → Bool
is_zero b = 0 == b

behind_zero : (x : ℕ) (xs : List ℕ) → is_zero x ≡ false → after_first is_zero (x ∷ xs) ≡ after_first is_zero xs
behind_zero x xs other =
    let next : (1 + position_or_len is_zero xs) + 1 ≡ suc (position_or_len is_zero xs + 1) = omega arith in
    ap (λ b. drop (cond (not b) (1 + position_or_len is_zero xs) 0 + 1) (x ∷ xs)) other ∙ ap (λ n. drop n (x ∷ xs)) next

before_zero : (x : ℕ) (xs : List ℕ) → is_zero x ≡ false → before_first is_zero (x ∷ xs) ≡ x ∷ before_first is_zero xs
before_zero x xs other =
    let next : 1 + position_or_len is_zero xs ≡ suc (position_or_len is_zero xs) = omega arith in
    ap (λ b. take (cond (not b) (1 + position_or_len is_zero xs) 0) (x ∷ xs)) other ∙ ap (λ n. take n (x ∷ xs)) next

-- what stands before and behind the zero
pub before_path : (path leaf : List ℕ) → has_zero path ≡ false → before_first is_zero (path ++ 0 ∷ leaf) ≡ path
before_path [] leaf clean = refl
before_path (x ∷ path) leaf clean = before_zero x (path ++ 0 ∷ leaf) (first_false (is_zero x) (has_zero path) clean) ∙ ap (λ p. x ∷ p) (before_path path leaf (second_false (is_zero x) (has_zero path) clean))

pub behind_path : (path leaf : List ℕ) → has_zero path ≡ false → after_first is_zero (path ++ 0 ∷ leaf) ≡ leaf
behind_path [] leaf clean = refl
behind_path (x ∷ path) leaf clean = behind_zero x (path ++ 0 ∷ leaf) (first_false (is_zero x) (has_zero path) clean) ∙ behind_path path leaf (second_false (is_zero x) (has_zero path) clean)

-- what stands before the first zero has none
pub before_clean : (xs : List ℕ) → has_zero (before_first is_zero xs) ≡ false
before_clean [] = refl
before_clean (x ∷ xs) = go (is_zero x) refl (before_clean xs)
  where
    go : (b : Bool) → is_zero x ≡ b → has_zero (before_first is_zero xs) ≡ false → has_zero (before_first is_zero (x ∷ xs)) ≡ false
    go true is ih = ap (λ b. has_zero (take (cond (not b) (1 + position_or_len is_zero xs) 0) (x ∷ xs))) is
    go false is ih = ap has_zero (before_zero x xs is) ∙ ap₂ (λ a b. a || b) is ih

-- the path and the leaf of a term
abbrev pub path_in : List ℕ → List ℕ
path_in t = before_first is_zero (payload_of t)

abbrev pub leaf_in : List ℕ → List ℕ
leaf_in t = after_first is_zero (payload_of t)

pub path_is : (field : ℕ) (path leaf t : List ℕ) → has_zero path ≡ false → json_term field path leaf ≡ t → path ≡ path_in t
path_is field path leaf t clean is = sym (before_path path leaf clean) ∙ ap (before_first is_zero) (sym (payload_of-term field json_kind (path ++ 0 ∷ leaf)) ∙ ap payload_of is)

pub leaf_is : (field : ℕ) (path leaf t : List ℕ) → has_zero path ≡ false → json_term field path leaf ≡ t → leaf ≡ leaf_in t
leaf_is field path leaf t clean is = sym (behind_path path leaf clean) ∙ ap (after_first is_zero) (sym (payload_of-term field json_kind (path ++ 0 ∷ leaf)) ∙ ap payload_of is)

-- ---- the paths of leaves

-- none of these keys has a zero
abbrev pub AreClean : List (List ℕ) → Type 0
AreClean keys = AllByRecursion (λ k. has_zero k ≡ false) keys

-- nor have the paths of these leaves
abbrev pub HaveCleanPaths : List (List ℕ × Value) → Type 0
HaveCleanPaths ls = AllByRecursion (λ l. has_zero l.0 ≡ false) ls

pub path_clean : (dots : Bool) (keys : List (List ℕ)) → AreClean keys → has_zero (path_of_keys dots keys) ≡ false
path_clean dots [] all = refl
path_clean dots (k ∷ []) all = key_clean dots k all.0
path_clean dots (k ∷ l ∷ keys) all =
    list_any-append is_zero (key_bytes dots k) (1 ∷ path_of_keys dots (l ∷ keys))
    ∙ ap₂ (λ a b. a || b) (key_clean dots k all.0) (path_clean dots (l ∷ keys) all.1)

clean_more : (keys : List (List ℕ)) (k : List ℕ) → AreClean keys → has_zero k ≡ false → AreClean (keys ++ k ∷ [])
clean_more [] k all clean = (clean, tt)
clean_more (x ∷ keys) k all clean = (all.0, clean_more keys k all.1 clean)

pub clean_append : (xs ys : List (List ℕ × Value)) → HaveCleanPaths xs → HaveCleanPaths ys → HaveCleanPaths (xs ++ ys)
clean_append [] ys first second = second
clean_append (x ∷ xs) ys first second = (first.0, clean_append xs ys first.1 second)

-- leaves under a key without a zero
unless_zero : (k : List ℕ) (ls : List (List ℕ × Value)) (b : Bool) → (has_zero k ≡ false → HaveCleanPaths ls) → has_zero k ≡ b → HaveCleanPaths (if b then [] else ls)
unless_zero k ls true inside is = tt
unless_zero k ls false inside is = inside is

mutual
  pub leaves_clean : (dots : Bool) (keys : List (List ℕ)) (v : Value) → AreClean keys → HaveCleanPaths (leaves dots keys v)
  leaves_clean dots keys (array vs) all = values_clean dots keys vs all
  leaves_clean dots keys (object ms) all = members_clean dots keys ms all
  leaves_clean dots keys null all = (path_clean dots keys all, tt)
  leaves_clean dots keys (str s) all = (path_clean dots keys all, tt)
  leaves_clean dots keys (pre_tok_str s ts) all = (path_clean dots keys all, tt)
  leaves_clean dots keys (u64 n) all = (path_clean dots keys all, tt)
  leaves_clean dots keys (i64 z) all = (path_clean dots keys all, tt)
  leaves_clean dots keys (bool b) all = (path_clean dots keys all, tt)
  leaves_clean dots keys (date z) all = (path_clean dots keys all, tt)
  leaves_clean dots keys (facet steps) all = (path_clean dots keys all, tt)
  leaves_clean dots keys (bytes bs) all = (path_clean dots keys all, tt)
  leaves_clean dots keys (ip_addr n) all = (path_clean dots keys all, tt)

  pub values_clean : (dots : Bool) (keys : List (List ℕ)) (vs : Values) → AreClean keys → HaveCleanPaths (values_leaves dots keys vs)
  values_clean dots keys no_values all = tt
  values_clean dots keys (value v vs) all = clean_append (leaves dots keys v) (values_leaves dots keys vs) (leaves_clean dots keys v all) (values_clean dots keys vs all)

  pub members_clean : (dots : Bool) (keys : List (List ℕ)) (ms : Members) → AreClean keys → HaveCleanPaths (members_leaves dots keys ms)
  members_clean dots keys no_members all = tt
  members_clean dots keys (member k v ms) all =
      clean_append (if has_zero k then [] else leaves dots (keys ++ (k ∷ [])) v) (members_leaves dots keys ms)
      (unless_zero k (leaves dots (keys ++ (k ∷ [])) v) (has_zero k) (λ clean. leaves_clean dots (keys ++ (k ∷ [])) v (clean_more keys k all clean)) refl)
      (members_clean dots keys ms all)
