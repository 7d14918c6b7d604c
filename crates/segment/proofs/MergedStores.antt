-- The store of a merge, by the segments that are its members.
use Rattle.std.proofs.Common.{[], Bool, List, Some, ap, ap₂, arith, drop, get_or, inl, inr, length, map, refl, slice_get, subst, suc, sym, zero, ◌++◌, ◌+◌, ◌≡◌, ◌∙◌, ◌∷◌, ℕ}
use Rattle.std.specs.List.{AllByRecursion, items_where_true}
use Rattle.common.specs.BitSets.{count_set}
use Rattle.definitions.specs.Alive.{Segment, live}
use Rattle.definitions.specs.Analyzers.{Analyzer}
use Rattle.definitions.specs.Merging.{documents_in, flags_of, merged_rows}
use Rattle.definitions.proofs.MergedRows.{live_rows}
use Rattle.definitions.specs.Schema.{Schema}
use Rattle.definitions.specs.declared.fault.Fault.{Fault}
use Rattle.layouts.specs.Stores.{Block, Hold}
use Rattle.merging.specs.LivingSlots.{HasBadSlot, HasLongSlot}
use Rattle.merging.specs.MemberStores as stores
use Rattle.merging.specs.declared.member_stores.MemberStore.{MemberStore}
use Rattle.segment.proofs.Fetching.{stands_hold}
use Rattle.segment_definitions.specs.Slots.{slot, slots}
use Rattle.segment.proofs.Counts.{set_living}
use Rattle.segment.specs.Members.{AreOpened, Member, StandFor, living_count}
use Rattle.segment.specs.Slots.{AnyMember, AreHeld, IsStoreRefusal, merged_slots, with_blocks}
use Rattle.store.proofs.SlotLaws.{count_is}
use Rattle.store.specs.Writing.{count_of}

abbrev view : MemberStore → List Block × List Bool
view s = (s.store.now.blocks, s.alive.now)

abbrev AreSame : List MemberStore → List Member → Type 0
AreSame ss ms = map view ss ≡ map with_blocks ms

first_same : (s : MemberStore) (ss : List MemberStore) (m : Member) (ms : List Member) → AreSame (s ∷ ss) (m ∷ ms) → view s ≡ with_blocks m
first_same s ss m ms same = ap (λ vs. get_or vs 0 (with_blocks m)) same

abbrev IsLong : List Block × List Bool → Type 0
IsLong v = count_of v.0 ≡ length v.1

pub stores_flagged : (schema : Schema) (ss : List MemberStore) (ms : List Member) → AreSame ss ms → AreOpened schema ms → AllByRecursion stores.IsFlagged ss
stores_flagged schema [] ms same opened = tt
stores_flagged schema (s ∷ ss) [] same opened = absurd (let long = ap length same in omega (arith, long))
stores_flagged schema (s ∷ ss) (m ∷ ms) same opened =
    (subst IsLong (sym (first_same s ss m ms same)) (sym (count_is m.0.store.blocks) ∙ opened.0.0.counted ∙ sym opened.0.1), stores_flagged schema ss ms (ap (drop 1) same) opened.1)

pub stores_held : (ss : List MemberStore) (ms : List Member) (all : List (List (List ℕ))) → AreSame ss ms → AreHeld ms all → stores.AreHeld ss all
stores_held [] [] [] same held = tt
stores_held [] [] (slots ∷ all) same held = absurd held
stores_held [] (m ∷ ms) all same held = absurd (let long = ap length same in omega (arith, long))
stores_held (s ∷ ss) [] all same held = absurd (let long = ap length same in omega (arith, long))
stores_held (s ∷ ss) (m ∷ ms) [] same held = absurd held
stores_held (s ∷ ss) (m ∷ ms) (slots ∷ all) same held = (subst (λ v. Hold v.0 slots) (sym (first_same s ss m ms same)) held.0, stores_held ss ms all (ap (drop 1) same) held.1)

pub slots_same : (ss : List MemberStore) (ms : List Member) (all : List (List (List ℕ))) → AreSame ss ms → stores.merged_slots ss all ≡ merged_slots ms all
slots_same [] [] all same = refl
slots_same [] (m ∷ ms) all same = absurd (let long = ap length same in omega (arith, long))
slots_same (s ∷ ss) [] all same = absurd (let long = ap length same in omega (arith, long))
slots_same (s ∷ ss) (m ∷ ms) [] same = refl
slots_same (s ∷ ss) (m ∷ ms) (slots ∷ all) same = ap₂ (λ xs ys. xs ++ ys) (ap (λ v. items_where_true v.1 slots) (first_same s ss m ms same)) (slots_same ss ms all (ap (drop 1) same))

pub count_same : (ss : List MemberStore) (ms : List Member) → AreSame ss ms → stores.living_count ss ≡ living_count ms
count_same [] [] same = refl
count_same [] (m ∷ ms) same = absurd (let long = ap length same in omega (arith, long))
count_same (s ∷ ss) [] same = absurd (let long = ap length same in omega (arith, long))
count_same (s ∷ ss) (m ∷ ms) same = ap₂ (λ x y. x + y) (ap (λ v. count_set v.1) (first_same s ss m ms same) ∙ sym (set_living m.1)) (count_same ss ms (ap (drop 1) same))

-- ---- what is refused

-- what one of them has, one of the members has
any_same : (Has : List Block × List Bool → Type 0) (ss : List MemberStore) (ms : List Member) (k : ℕ) (s : MemberStore) → AreSame ss ms → slice_get ss k ≡ Some s → Has (view s) → AnyMember (λ m. Has (with_blocks m)) ms
any_same Has [] ms k s same at has = cc
any_same Has (x ∷ ss) [] k s same at has = absurd (let long = ap length same in omega (arith, long))
any_same Has (x ∷ ss) (m ∷ ms) zero s same at has =
    let here : s ≡ x = cc in
    (0, m, refl, subst Has (ap view here ∙ first_same x ss m ms same) has)
any_same Has (x ∷ ss) (m ∷ ms) (suc k) s same at has = (let later = any_same Has ss ms k s (ap (drop 1) same) at has in (suc later.0, later.1, later.2, later.3))

pub store_refused : (fault : Fault) (block_size : ℕ) (ss : List MemberStore) (ms : List Member) → AreSame ss ms → stores.IsMergeRefusal fault block_size ss → IsStoreRefusal fault block_size ms
store_refused fault block_size ss ms same (inl memory) = inl memory
store_refused fault block_size ss ms same (inr (inl (limit, inl many))) = inr (inl (limit, inl (let count = count_same ss ms same in omega (arith, many, count))))
store_refused fault block_size ss ms same (inr (inl (limit, inr (k, s, at, long)))) = inr (inl (limit, inr (any_same (λ v. HasLongSlot block_size v.1 v.0) ss ms k s same at long)))
store_refused fault block_size ss ms same (inr (inr (damaged, (k, s, at, bad)))) = inr (inr (damaged, any_same (λ v. HasBadSlot v.1 v.0) ss ms k s same at bad))

-- ---- of documents

-- the slots of each segment's documents
abbrev pub slots_of : Schema → List Segment → List (List (List ℕ))
slots_of schema segments = map (λ rows. slots schema (documents_in rows)) segments

pub standing_held : (schema : Schema) (analyze : Analyzer) (ms : List Member) (segments : List Segment) → StandFor schema analyze ms segments → AreHeld ms (slots_of schema segments)
standing_held schema analyze [] [] stand = tt
standing_held schema analyze [] (rows ∷ segments) stand = absurd stand
standing_held schema analyze (m ∷ ms) [] stand = absurd stand
standing_held schema analyze (m ∷ ms) (rows ∷ segments) stand = (stands_hold schema analyze (documents_in rows) m.0 stand.0, standing_held schema analyze ms segments stand.2)

merged_living : (schema : Schema) (analyze : Analyzer) (ms : List Member) (segments : List Segment) → StandFor schema analyze ms segments → merged_slots ms (slots_of schema segments) ≡ merged_rows (map (λ rows. (flags_of rows, slots schema (documents_in rows))) segments)
merged_living schema analyze [] [] stand = refl
merged_living schema analyze [] (rows ∷ segments) stand = absurd stand
merged_living schema analyze (m ∷ ms) [] stand = absurd stand
merged_living schema analyze (m ∷ ms) (rows ∷ segments) stand = ap₂ (λ xs ys. xs ++ ys) (ap (λ flags. items_where_true flags (slots schema (documents_in rows))) stand.1) (merged_living schema analyze ms segments stand.2)

-- the merged slots are those of the living documents
pub slots_living : (schema : Schema) (analyze : Analyzer) (ms : List Member) (segments : List Segment) → StandFor schema analyze ms segments → merged_slots ms (slots_of schema segments) ≡ slots schema (live segments)
slots_living schema analyze ms segments stand = merged_living schema analyze ms segments stand ∙ sym (live_rows (slot schema) segments)
