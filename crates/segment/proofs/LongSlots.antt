-- A member's slot that is too long is one of a living document.
use Rattle.std.proofs.Common.{[], List, Some, ap, arith, false, length, refl, slice_get, subst, suc, sym, true, zero, ◌++◌, ◌+◌, ◌^◌, ◌≡◌, ◌≤◌, ◌∙◌, ◌∷◌, ℕ}
use Rattle.std.specs.List.{slice_index_or}
use Rattle.definitions.specs.Alive.{Segment, live}
use Rattle.definitions.specs.Analyzers.{Analyzer}
use Rattle.definitions.specs.Merging.{documents_in, flags_of}
use Rattle.definitions.specs.Schema.{Schema}
use Rattle.definitions.specs.State.{living}
use Rattle.definitions.specs.Values.{Document}
use Rattle.merging.specs.LivingSlots.{HasLongSlot}
use Rattle.segment.proofs.Fetching.{stands_hold}
use Rattle.segment.specs.Opened.{blocks_of}
use Rattle.segment_definitions.specs.Slots.{slot, slots}
use Rattle.segment.specs.Limits.{AnyLongSlot}
use Rattle.segment.specs.Members.{Member, StandFor}
use Rattle.segment.specs.Slots.{HasLongMember}
use Rattle.store.proofs.Readers.{slot_is}

-- a document at an index, with its slot
record IsAt (schema : Schema) (docs : List Document) (bytes : List ℕ) : Type 0 where
  index : ℕ
  doc : Document
  at : slice_get docs index ≡ Some doc
  slot_is : bytes ≡ slot schema doc

-- the slot of a living document of a segment
living_at : (schema : Schema) (rows : Segment) (k : ℕ) → slice_index_or (flags_of rows) k false ≡ true → IsAt schema (living rows) (slice_index_or (slots schema (documents_in rows)) k [])
living_at schema [] k alive = absurd cc
living_at schema ((doc, true) ∷ rows) zero alive = record { index = 0; doc = doc; at = refl; slot_is = refl }
living_at schema ((doc, false) ∷ rows) zero alive = absurd cc
living_at schema ((doc, true) ∷ rows) (suc k) alive = (let later = living_at schema rows k alive in record { index = suc later.index; doc = later.doc; at = later.at; slot_is = later.slot_is })
living_at schema ((doc, false) ∷ rows) (suc k) alive = living_at schema rows k alive

in_first : (xs ys : List Document) (i : ℕ) (doc : Document) → slice_get xs i ≡ Some doc → slice_get (xs ++ ys) i ≡ Some doc
in_first [] ys i doc at = cc
in_first (x ∷ xs) ys zero doc at = at
in_first (x ∷ xs) ys (suc i) doc at = in_first xs ys i doc at

in_second : (xs ys : List Document) (i : ℕ) → slice_get (xs ++ ys) (length xs + i) ≡ slice_get ys i
in_second [] ys i = ap (slice_get ys) (let e : 0 + i ≡ i = omega arith in e)
in_second (x ∷ xs) ys i = ap (slice_get ((x ∷ xs) ++ ys)) (let e : length (x ∷ xs) + i ≡ suc (length xs + i) = omega arith in e) ∙ in_second xs ys i

module _ (schema : Schema) (analyze : Analyzer) (block_size : ℕ) where
  found : (ms : List Member) (segments : List Segment) (k : ℕ) (m : Member) → StandFor schema analyze ms segments → slice_get ms k ≡ Some m → HasLongSlot block_size m.1 (blocks_of m.0) → AnyLongSlot schema block_size (live segments)
  found [] segments k m stand at long = cc
  found (x ∷ ms) [] k m stand at long = absurd stand
  found (x ∷ ms) (rows ∷ segments) zero m stand at long =
      let here : x ≡ m = cc in
      let own : HasLongSlot block_size x.1 (blocks_of x.0) = subst (λ (y : Member). HasLongSlot block_size y.1 (blocks_of y.0)) (sym here) long in
      let one = living_at schema rows own.0 (ap (λ flags. slice_index_or flags own.0 false) (sym stand.1) ∙ own.2) in
      let bytes = slot_is (blocks_of x.0) (slots schema (documents_in rows)) own.0 own.1 (stands_hold schema analyze (documents_in rows) x.0 stand.0) own.3 in
      (one.index, one.doc, in_first (living rows) (live segments) one.index one.doc one.at, subst (λ (bs : List ℕ). 2 ^ 32 ≤ block_size + length bs + 8) (bytes ∙ one.slot_is) own.4)
  found (x ∷ ms) (rows ∷ segments) (suc k) m stand at long = (let later = found ms segments k m stand.2 at long in (length (living rows) + later.0, later.1, in_second (living rows) (live segments) later.0 ∙ later.2, later.3))

  pub long_slot : (ms : List Member) (segments : List Segment) → StandFor schema analyze ms segments → HasLongMember block_size ms → AnyLongSlot schema block_size (live segments)
  long_slot ms segments stand (k, m, at, long) = found ms segments k m stand at long
