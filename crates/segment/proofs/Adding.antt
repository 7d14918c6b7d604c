-- What one document more leaves, and which limits it would pass.
use Rattle.std.proofs.Common.{[], ◌++◌, ◌+◌, ◌∷◌, ◌≡◌, ◌≤◌, ◌^◌, ◌||◌, Bool, List, ap, arith, false, inl, inr, length, length-append, nat_le, refl, sym, true, ℕ}
use Rattle.std.proofs.lemmas.Bool.Decides.{nat_tests}
use Rattle.std.proofs.lemmas.List.{length-map, map-append}
use Rattle.definitions.specs.Schema.{Schema}
use Rattle.definitions.specs.Values.{Document}
use Rattle.layouts.specs.Stores.{max_docs}
use Rattle.segment_definitions.specs.Slots.{slot, slots}
use Rattle.segment.specs.Writers.{PassesStore}
use Rattle.store.proofs.Readers.{hold_length}
use Rattle.store.proofs.Writes.{limits_of}
use Rattle.store.specs.Writing.{HoldsSlots, Written, docs_of, passes_limit}

pub slots_more : (schema : Schema) (docs : List Document) (doc : Document) → slots schema docs ++ slot schema doc ∷ [] ≡ slots schema (docs ++ doc ∷ [])
slots_more schema docs doc = sym (map-append (slot schema) docs (doc ∷ []))

-- as many documents are stored as were added
pub docs_counted : (w : Written) (schema : Schema) (docs : List Document) → HoldsSlots w (slots schema docs) → docs_of w ≡ length docs
docs_counted w schema docs holds =
    let whole = ap length holds.2 in
    let joined = length-append holds.0 w.pending in
    let first = hold_length w.blocks holds.0 holds.1 in
    let each = length-map docs (slot schema) in
    omega (arith, whole, joined, first, each)

pub stays_within : (w : Written) (schema : Schema) (docs : List Document) (doc : Document) (block_size : ℕ) → HoldsSlots w (slots schema docs) → w.block_size ≡ block_size → passes_limit w (length (slot schema doc)) ≡ false → PassesStore schema block_size docs doc → ⊥
stays_within w schema docs doc block_size holds sized within passes =
    let limits = limits_of w (length (slot schema doc)) within in
    let l0 = limits.0 in
    let l1 = limits.1 in
    let count = docs_counted w schema docs holds in
    elim passes [ inl long ↦ omega (arith, l0, sized, long) | inr many ↦ omega (arith, l1, count, many) ]

pub passes_store : (w : Written) (schema : Schema) (docs : List Document) (doc : Document) (block_size : ℕ) → HoldsSlots w (slots schema docs) → w.block_size ≡ block_size → passes_limit w (length (slot schema doc)) ≡ true → PassesStore schema block_size docs doc
passes_store w schema docs doc block_size holds sized passed = go (nat_le (2 ^ 32) (w.block_size + length (slot schema doc) + 8)) refl passed
  where
    go : (b : Bool) → nat_le (2 ^ 32) (w.block_size + length (slot schema doc) + 8) ≡ b → (b || nat_le max_docs (docs_of w)) ≡ true → PassesStore schema block_size docs doc
    go true e t =
        let long : 2 ^ 32 ≤ w.block_size + length (slot schema doc) + 8 = grind (arith, nat_tests) in
        inl (omega (arith, long, sized))
    go false e t =
        let many : max_docs ≤ docs_of w = grind (arith, nat_tests) in
        let count = docs_counted w schema docs holds in
        inr (omega (arith, many, count))
