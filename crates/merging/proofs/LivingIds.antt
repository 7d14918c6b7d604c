-- Length ids of living documents.
use Rattle.std.proofs.Common.{[], Bool, List, None, Some, ap, append-nil, append_assoc, arith, false, find, if◌then◌else◌, length, option_map, refl, slice_index, subst, suc, sym, take, true, zero, ◌++◌, ◌+◌, ◌<◌, ◌==◌, ◌≡◌, ◌∙◌, ◌∷◌, ℕ}
use Rattle.std.specs.List.{AllByRecursion, items_where_true, slice_index_or}
use Rattle.std.specs.Option.{option_map_or}
use Rattle.layouts.specs.FieldNorms.{ids_of}
use Rattle.layouts.specs.InvertedIndexes.{field_ids}
use Rattle.merging.specs.MergedNorms.{IsFlagged, merged_ids}
use Rattle.merging.specs.declared.member_norms.MemberNorms.{MemberNorms}

-- ---- one document more

living_suc : (i : ℕ) (flags : List Bool) (ids : List ℕ) (d : ℕ) → i < length flags → i < length ids → items_where_true (take (suc i) flags) (take (suc i) ids) ≡ items_where_true (take i flags) (take i ids) ++ (if slice_index_or flags i false then slice_index_or ids i d ∷ [] else [])
living_suc i [] ids d a b = absurd (omega (arith, a))
living_suc i (f ∷ flags) [] d a b = absurd (omega (arith, b))
living_suc zero (true ∷ flags) (n ∷ ids) d a b = refl
living_suc zero (false ∷ flags) (n ∷ ids) d a b = refl
living_suc (suc i) (true ∷ flags) (n ∷ ids) d a b = ap (λ xs. n ∷ xs) (living_suc i flags ids d (omega (arith, a)) (omega (arith, b)))
living_suc (suc i) (false ∷ flags) (n ∷ ids) d a b = living_suc i flags ids d (omega (arith, a)) (omega (arith, b))

pub living_more : (i : ℕ) (flags : List Bool) (ids : List ℕ) (flag : Bool) → i < length ids → length ids ≡ length flags → slice_index_or flags i false ≡ flag → items_where_true (take (i + 1) flags) (take (i + 1) ids) ≡ items_where_true (take i flags) (take i ids) ++ (if flag then slice_index ids i ∷ [] else [])
living_more i flags ids flag within same is =
    ap (λ n. items_where_true (take n flags) (take n ids)) (let e : i + 1 ≡ suc i = omega arith in e)
    ∙ living_suc i flags ids 0 (omega (arith, within, same)) within
    ∙ ap (λ b. items_where_true (take i flags) (take i ids) ++ (if b then slice_index_or ids i 0 ∷ [] else [])) is

-- ---- one member more

pub none_living : (flags : List Bool) → items_where_true {X = ℕ} flags [] ≡ []
none_living [] = refl
none_living (true ∷ flags) = refl
none_living (false ∷ flags) = refl

-- the ids of a field are as many as the flags
pub flagged_ids : (m : MemberNorms) (field : ℕ) (ids : List ℕ) → IsFlagged m → ids_of field m.norms ≡ Some ids → length ids ≡ length m.alive.now
flagged_ids m field ids all is = go m.norms all is
  where
    go : (norms : List (ℕ × List ℕ)) → AllByRecursion (λ (p : ℕ × List ℕ). length p.1 ≡ length m.alive.now) norms → ids_of field norms ≡ Some ids → length ids ≡ length m.alive.now
    go [] each at = absurd cc
    go (p ∷ norms) each at = either (p.0 == field) at (λ rest. go norms each.1 rest)
      where
        either : (b : Bool) → option_map (λ (q : ℕ × List ℕ). q.1) (if b then Some p else find (λ (q : ℕ × List ℕ). q.0 == field) norms) ≡ Some ids → (ids_of field norms ≡ Some ids → length ids ≡ length m.alive.now) → length ids ≡ length m.alive.now
        either true at2 rest = (let same : p.1 ≡ ids = cc in ap length (sym same) ∙ each.0)
        either false at2 rest = rest at2

merged_suc : (field i : ℕ) (ms : List MemberNorms) (d : MemberNorms) → i < length ms → merged_ids field (take (suc i) ms) ≡ merged_ids field (take i ms) ++ items_where_true (slice_index_or ms i d).alive.now (field_ids (slice_index_or ms i d).norms field)
merged_suc field i [] d within = absurd (omega (arith, within))
merged_suc field zero (m ∷ ms) d within = append-nil (items_where_true m.alive.now (field_ids m.norms field))
merged_suc field (suc i) (m ∷ ms) d within = ap (λ xs. items_where_true m.alive.now (field_ids m.norms field) ++ xs) (merged_suc field i ms d (omega (arith, within))) ∙ sym (append_assoc (items_where_true m.alive.now (field_ids m.norms field)) (merged_ids field (take i ms)) (items_where_true (slice_index_or ms i d).alive.now (field_ids (slice_index_or ms i d).norms field)))

-- a member that has the field
pub merged_some : (field i : ℕ) (ms : List MemberNorms) (m : MemberNorms) (ids : List ℕ) → m ≡ slice_index_or ms i m → i < length ms → ids_of field m.norms ≡ Some ids → merged_ids field (take (i + 1) ms) ≡ merged_ids field (take i ms) ++ items_where_true m.alive.now ids
merged_some field i ms m ids is within at =
    ap (λ n. merged_ids field (take n ms)) (let e : i + 1 ≡ suc i = omega arith in e) ∙ merged_suc field i ms m within
    ∙ ap (λ (x : MemberNorms). merged_ids field (take i ms) ++ items_where_true x.alive.now (field_ids x.norms field)) (sym is)
    ∙ ap (λ o. merged_ids field (take i ms) ++ items_where_true m.alive.now (option_map_or (λ xs. xs) o [])) at

-- one that hasn't
pub merged_none : (field i : ℕ) (ms : List MemberNorms) (m : MemberNorms) → m ≡ slice_index_or ms i m → i < length ms → ids_of field m.norms ≡ None → merged_ids field (take (i + 1) ms) ≡ merged_ids field (take i ms)
merged_none field i ms m is within at =
    ap (λ n. merged_ids field (take n ms)) (let e : i + 1 ≡ suc i = omega arith in e) ∙ merged_suc field i ms m within
    ∙ ap (λ (x : MemberNorms). merged_ids field (take i ms) ++ items_where_true x.alive.now (field_ids x.norms field)) (sym is)
    ∙ ap (λ o. merged_ids field (take i ms) ++ items_where_true m.alive.now (option_map_or (λ xs. xs) o [])) at
    ∙ ap (λ xs. merged_ids field (take i ms) ++ xs) (none_living m.alive.now)
    ∙ append-nil (merged_ids field (take i ms))

pub flagged_at : (ms : List MemberNorms) (i : ℕ) (m : MemberNorms) → AllByRecursion IsFlagged ms → i < length ms → m ≡ slice_index_or ms i m → IsFlagged m
flagged_at ms i m all within is = subst IsFlagged (sym is) (go ms i all within)
  where
    go : (xs : List MemberNorms) (k : ℕ) → AllByRecursion IsFlagged xs → k < length xs → IsFlagged (slice_index_or xs k m)
    go [] k a w = absurd (omega (arith, w))
    go (x ∷ xs) zero a w = a.0
    go (x ∷ xs) (suc k) a w = go xs k a.1 (omega (arith, w))
