-- What is read of a document in a segment that stands for documents.
use Rattle.std.proofs.Common.{[], ◌<◌, ◌^◌, ◌∷◌, ◌≡◌, ◌∙◌, List, None, Option, Some, ap, arith, length, option_map, refl, slice_get, slice_index_or, subst, suc, sym, zero, ℕ}
use Rattle.std.specs.List.{AllByRecursion}
use Rattle.std.proofs.lemmas.List.{length-map}
use Rattle.definitions.specs.Analyzers.{Analyzer}
use Rattle.definitions.specs.Schema.{Schema}
use Rattle.definitions.specs.Stored.{by_field, stored_pairs, stored_values}
use Rattle.definitions.specs.Values.{Document}
use Rattle.definitions.specs.declared.fault.Fault.{Fault}
use Rattle.layouts.specs.Stores.{Block, Hold, IsStore}
use Rattle.segment.proofs.Opening.{one_segment, store_short}
use Rattle.segment.proofs.StoredBack.{stored_back}
use Rattle.segment.specs.Opened.{IsOpened, StandsFor, bytes_of}
use Rattle.segment.specs.OpenedParts.{AreOpenedParts}
use Rattle.segment.specs.SlotDocuments.{IsNoDocument, IsSlotOf}
use Rattle.segment.specs.declared.segment.Segment.{Segment}
use Rattle.segment_definitions.specs.Segments.{IsSegmentOf, IsTaken, Sections}
use Rattle.segment_definitions.specs.Slots.{slot, slots}
use Rattle.store.proofs.DocumentSlots.{slot_below}
use Rattle.store.proofs.Opened.{holds_same}
use Rattle.store.proofs.Readers.{slot_is}
use Rattle.store.specs.Slots.{HasSlot, IsPast}

-- ---- slots of documents that an add takes

-- a document of a list, its slot, and that it is taken
record IsThere (schema : Schema) (docs : List Document) (index : ℕ) (doc : Document) : Type 0 where
  found : slice_get docs index ≡ Some doc
  slot_is : slice_index_or (slots schema docs) index [] ≡ slot schema doc
  taken : IsTaken schema doc

there : (schema : Schema) (docs : List Document) (index : ℕ) → index < length docs → AllByRecursion (IsTaken schema) docs → (doc : Document) × IsThere schema docs index doc
there schema [] index within taken = absurd (omega (arith, within))
there schema (doc ∷ docs) zero within taken = (doc, record { found = refl; slot_is = refl; taken = taken.0 })
there schema (doc ∷ docs) (suc index) within taken =
    let rest = there schema docs index (omega (arith, within)) taken.1 in
    (rest.0, record { found = rest.1.found; slot_is = rest.1.slot_is; taken = rest.1.taken })

-- a document of a list, of which the slot is what is stored
pub record IsRead (schema : Schema) (docs : List Document) (index : ℕ) (bytes : List ℕ) (doc : Document) : Type 0 where
  pub found : slice_get docs index ≡ Some doc
  pub slot_is : IsSlotOf schema bytes (stored_pairs schema doc)
  pub again : stored_pairs schema (stored_pairs schema doc) ≡ stored_pairs schema doc

slot_reads : (schema : Schema) (docs : List Document) (index : ℕ) (bytes : List ℕ) → index < length docs → AllByRecursion (IsTaken schema) docs → bytes ≡ slice_index_or (slots schema docs) index [] → length bytes < 2 ^ 64 → (doc : Document) × IsRead schema docs index bytes doc
slot_reads schema docs index bytes within taken is short =
    let at = there schema docs index within taken in
    let same : bytes ≡ slot schema at.0 = is ∙ at.1.slot_is in
    let back = stored_back schema at.0 at.1.taken.0 at.1.taken.1 (subst (λ (bs : List ℕ). length bs < 2 ^ 64) same short) in
    (at.0, record { found = at.1.found; slot_is = subst (λ (bs : List ℕ). IsSlotOf schema bs (stored_pairs schema at.0)) (sym same) (back.reads, back.known); again = back.again })

one_document : (schema : Schema) (bytes : List ℕ) (x y : Document) → IsSlotOf schema bytes x → IsSlotOf schema bytes y → x ≡ y
one_document schema bytes x y a b = ap (λ (o : Option Document). elim o [ Some d ↦ d | None ↦ x ]) (sym a.0 ∙ b.0)

-- ---- in a segment

module _ (schema : Schema) (analyze : Analyzer) (docs : List Document) (s : Segment) (stands : StandsFor schema analyze docs s) where
  pub stands_hold : Hold s.store.blocks (slots schema docs)
  stands_hold =
      let o = stands.opened in
      let one = one_segment s.num_docs (length docs) o.sections stands.bytes_are.sections s.bytes o.written stands.bytes_are.written in
      let is : IsStore (slots schema docs) o.sections.store = subst (λ (t : Sections). IsStore (slots schema docs) t.store) (sym one.1) stands.bytes_are.store_is in
      holds_same o.sections.store s.store.blocks (slots schema docs) o.blocks_are o.store_is (store_short s.num_docs o.sections s.bytes o.written) is

  pub within : (index : ℕ) (bytes : List ℕ) → HasSlot s.store.blocks index bytes → index < length docs
  within index bytes has =
      let below = slot_below s.store.blocks (slots schema docs) index has.0 stands_hold has.1 in
      let each = length-map docs (slot schema) in
      omega (arith, below, each)

  -- the document that its slot is
  fetched : (index : ℕ) (bytes : List ℕ) → HasSlot s.store.blocks index bytes → length bytes < 2 ^ 64 → (doc : Document) × IsRead schema docs index bytes doc
  fetched index bytes has short = slot_reads schema docs index bytes (within index bytes has) stands.bytes_are.taken (slot_is s.store.blocks (slots schema docs) index bytes stands_hold has) short

  pub read_is : (index : ℕ) (bytes : List ℕ) (read : Document) → HasSlot s.store.blocks index bytes → length bytes < 2 ^ 64 → IsSlotOf schema bytes read → option_map (stored_pairs schema) (slice_get docs index) ≡ Some read
  read_is index bytes read has short is =
      let own = fetched index bytes has short in
      ap (option_map (stored_pairs schema)) own.1.found ∙ ap (λ d. Some d) (one_document schema bytes (stored_pairs schema own.0) read own.1.slot_is is)

  pub shown_is : (index : ℕ) (bytes : List ℕ) (read : Document) → HasSlot s.store.blocks index bytes → length bytes < 2 ^ 64 → IsSlotOf schema bytes read → option_map (stored_values schema) (slice_get docs index) ≡ Some (stored_values schema read)
  shown_is index bytes read has short is =
      let own = fetched index bytes has short in
      ap (option_map (stored_values schema)) own.1.found
      ∙ ap (λ (pairs : Document). Some (by_field schema pairs)) (sym own.1.again ∙ ap (stored_pairs schema) (one_document schema bytes (stored_pairs schema own.0) read own.1.slot_is is))

  pub never_none : (index : ℕ) (bytes : List ℕ) → HasSlot s.store.blocks index bytes → length bytes < 2 ^ 64 → IsNoDocument schema bytes → ⊥
  never_none index bytes has short none = (let own = fetched index bytes has short in none (stored_pairs schema own.0) own.1.slot_is)

  pub past_documents : (index : ℕ) (fault : Fault) → IsPast fault index (length (slots schema docs)) → IsPast fault index (length docs)
  past_documents index fault past = subst (IsPast fault index) (length-map docs (slot schema)) past

-- ---- after a look-up in the cache

pub opened_again : (schema : Schema) (s : Segment) (blocks : List Block) → blocks ≡ s.store.blocks → IsOpened schema s → AreOpenedParts schema s.bytes s.num_docs s.inverted_index s.length_fields.items s.norms blocks
opened_again schema s blocks same o = subst (AreOpenedParts schema s.bytes s.num_docs s.inverted_index s.length_fields.items s.norms) (sym same) o

pub stands_again : (schema : Schema) (analyze : Analyzer) (docs : List Document) (s t : Segment) → bytes_of t ≡ bytes_of s → IsOpened schema t → StandsFor schema analyze docs s → StandsFor schema analyze docs t
stands_again schema analyze docs s t same o stands = record { opened = o; bytes_are = subst (IsSegmentOf schema analyze docs) (sym same) stands.bytes_are }
