-- Members that are appended one after another.
use Rattle.std.proofs.Common.{[], List, Some, ap, append-nil, ap₂, append_assoc, arith, inl, inr, length, refl, slice_get, subst, suc, sym, take, zero, ◌++◌, ◌+◌, ◌<◌, ◌≡◌, ◌≤◌, ◌∙◌, ◌∷◌, ℕ}
use Rattle.std.specs.List.{AllByRecursion, items_where_true, slice_index_or}
use Rattle.definitions.proofs.Lists.{take_whole}
use Rattle.layouts.specs.Stores.{Hold}
use Rattle.common.specs.BitSets.{count_set}
use Rattle.definitions.specs.declared.fault.Fault.{Fault}
use Rattle.merging.specs.LivingSlots.{HasLongSlot, IsAppendRefusal}
use Rattle.merging.specs.MemberStores.{AreHeld, IsFlagged, IsMergeRefusal, living_count, merged_slots}
use Rattle.store.specs.Writing.{Written, docs_of}
use Rattle.merging.specs.declared.member_stores.MemberStore.{MemberStore}

-- the member of a number, with its slots
pub record HeldAt (k : ℕ) (ms : List MemberStore) (all : List (List (List ℕ))) (m : MemberStore) : Type 0 where
  pub slots : List (List ℕ)
  pub hold : Hold m.store.now.blocks slots
  pub more : merged_slots (take (suc k) ms) (take (suc k) all) ≡ merged_slots (take k ms) (take k all) ++ items_where_true m.alive.now slots

at_number : (k : ℕ) (ms : List MemberStore) (all : List (List (List ℕ))) (d : MemberStore) → AreHeld ms all → k < length ms → HeldAt k ms all (slice_index_or ms k d)
at_number k [] all d held within = absurd (omega (arith, within))
at_number k (m ∷ ms) [] d held within = absurd held
at_number zero (m ∷ ms) (slots ∷ all) d held within = record { slots = slots; hold = held.0; more = append-nil (items_where_true m.alive.now slots) }
at_number (suc k) (m ∷ ms) (slots ∷ all) d held within =
    let later = at_number k ms all d held.1 (omega (arith, within)) in
    record {
      slots = later.slots;
      hold = later.hold;
      more = ap (λ xs. items_where_true m.alive.now slots ++ xs) later.more ∙ sym (append_assoc (items_where_true m.alive.now slots) (merged_slots (take k ms) (take k all)) (items_where_true (slice_index_or ms k d).alive.now later.slots));
    }

pub held_at : (k : ℕ) (ms : List MemberStore) (all : List (List (List ℕ))) (m : MemberStore) → m ≡ slice_index_or ms k m → AreHeld ms all → k < length ms → HeldAt k ms all m
held_at k ms all m is held within = subst (HeldAt k ms all) (sym is) (at_number k ms all m held within)

pub more_slots : (k : ℕ) (ms : List MemberStore) (all : List (List (List ℕ))) (m : MemberStore) (at : HeldAt k ms all m) → merged_slots (take k ms) (take k all) ++ items_where_true m.alive.now at.slots ≡ merged_slots (take (k + 1) ms) (take (k + 1) all)
more_slots k ms all m at = sym (ap (λ n. merged_slots (take n ms) (take n all)) (let e : k + 1 ≡ suc k = omega arith in e) ∙ at.more)

same_many : (ms : List MemberStore) (all : List (List (List ℕ))) → AreHeld ms all → length all ≡ length ms
same_many [] [] held = refl
same_many [] (slots ∷ all) held = absurd held
same_many (m ∷ ms) [] held = absurd held
same_many (m ∷ ms) (slots ∷ all) held = ap suc (same_many ms all held.1)

pub all_slots : (k : ℕ) (ms : List MemberStore) (all : List (List (List ℕ))) → AreHeld ms all → length ms ≤ k → merged_slots (take k ms) (take k all) ≡ merged_slots ms all
all_slots k ms all held long = (let many = same_many ms all held in ap₂ merged_slots (take_whole k ms long) (take_whole k all (omega (arith, many, long))))

pub flagged_at : (ms : List MemberStore) (k : ℕ) (m : MemberStore) → AllByRecursion IsFlagged ms → k < length ms → m ≡ slice_index_or ms k m → IsFlagged m
flagged_at ms k m all within is = subst IsFlagged (sym is) (go ms k all within)
  where
    go : (xs : List MemberStore) (i : ℕ) → AllByRecursion IsFlagged xs → i < length xs → IsFlagged (slice_index_or xs i m)
    go [] i a w = absurd (omega (arith, w))
    go (x ∷ xs) zero a w = a.0
    go (x ∷ xs) (suc i) a w = go xs i a.1 (omega (arith, w))

-- ---- how many are alive

count_suc : (k : ℕ) (ms : List MemberStore) (d : MemberStore) → k < length ms → living_count (take (suc k) ms) ≡ living_count (take k ms) + count_set (slice_index_or ms k d).alive.now
count_suc k [] d within = absurd (omega (arith, within))
count_suc zero (m ∷ ms) d within = omega arith
count_suc (suc k) (m ∷ ms) d within = (let later = count_suc k ms d (omega (arith, within)) in omega (arith, later))

pub count_more : (k : ℕ) (ms : List MemberStore) (m : MemberStore) → m ≡ slice_index_or ms k m → k < length ms → living_count (take (k + 1) ms) ≡ living_count (take k ms) + count_set m.alive.now
count_more k ms m is within = ap (λ n. living_count (take n ms)) (let e : k + 1 ≡ suc k = omega arith in e) ∙ count_suc k ms m within ∙ ap (λ (x : MemberStore). living_count (take k ms) + count_set x.alive.now) (sym is)

pub all_counted : (k : ℕ) (ms : List MemberStore) → length ms ≤ k → living_count (take k ms) ≡ living_count ms
all_counted k ms long = ap living_count (take_whole k ms long)

count_front : (k : ℕ) (ms : List MemberStore) → living_count (take k ms) ≤ living_count ms
count_front zero ms = omega arith
count_front (suc k) [] = omega arith
count_front (suc k) (m ∷ ms) = (let later = count_front k ms in omega (arith, later))

there : (k : ℕ) (ms : List MemberStore) (d : MemberStore) → k < length ms → slice_get ms k ≡ Some (slice_index_or ms k d)
there k [] d within = absurd (omega (arith, within))
there zero (m ∷ ms) d within = refl
there (suc k) (m ∷ ms) d within = there k ms d (omega (arith, within))

pub member_refused : (fault : Fault) (block_size k : ℕ) (ms : List MemberStore) (m : MemberStore) (w : Written) → m ≡ slice_index_or ms k m → k < length ms → docs_of w ≡ living_count (take k ms) → w.block_size ≡ block_size → IsAppendRefusal fault w m.alive.now m.store.now.blocks → IsMergeRefusal fault block_size ms
member_refused fault block_size k ms m w is within docs size (inl memory) = inl memory
member_refused fault block_size k ms m w is within docs size (inr (inl (limit, inl many))) =
    let more = count_more k ms m is within in
    let front = count_front (k + 1) ms in
    inr (inl (limit, inl (omega (arith, many, docs, more, front))))
member_refused fault block_size k ms m w is within docs size (inr (inl (limit, inr long))) = inr (inl (limit, inr (k, m, there k ms m within ∙ ap Some (sym is), subst (λ n. HasLongSlot n m.alive.now m.store.now.blocks) size long)))
member_refused fault block_size k ms m w is within docs size (inr (inr (damaged, bad))) = inr (inr (damaged, (k, m, there k ms m within ∙ ap Some (sym is), bad)))
