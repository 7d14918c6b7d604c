-- The sections of a merge are a segment.
use Rattle.std.proofs.Common.{[], List, Some, ap, arith, false, length, length-append, refl, slice_get, subst, suc, true, zero, ◌++◌, ◌≡◌, ◌∷◌, ℕ}
use Rattle.std.specs.List.{AllByRecursion}
use Rattle.definitions.specs.Alive as alive
use Rattle.definitions.specs.Alive.{live}
use Rattle.definitions.specs.Analyzers.{Analyzer}
use Rattle.definitions.specs.KeptLengths.{length_fields, norms_of}
use Rattle.definitions.specs.Merging.{documents_in, flags_of, num_living}
use Rattle.definitions.specs.Schema.{Schema}
use Rattle.definitions.specs.State.{living}
use Rattle.definitions.specs.Values.{Document}
use Rattle.layouts.specs.FieldNorms.{IsNorms}
use Rattle.layouts.specs.InvertedIndexes.{AreIndexed, AreSections, IndexedField}
use Rattle.layouts.specs.Stores.{AreBlocks, Block, Hold, IsStore, store_bytes}
use Rattle.merging.specs.LivingSlots.{HasBadSlot}
use Rattle.segment.specs.Opened.{blocks_of}
use Rattle.segment_definitions.specs.Keys.{AreKeyed}
use Rattle.segment_definitions.specs.Segments.{AreWritten, IsSegment, IsSegmentOf, IsTaken, Sections}
use Rattle.segment.proofs.MergedStores.{slots_living, slots_of}
use Rattle.segment.specs.Members.{Member, StandFor, living_count}
use Rattle.segment.specs.Slots.{HasBadMember, AreHeld, merged_slots}
use Rattle.store.proofs.Readers.{none_bad}
use Rattle.store.proofs.SlotLaws.{count_is}
use Rattle.store.specs.Writing.{count_of}

-- ---- how many documents

rows_count : (rows : alive.Segment) → length (living rows) ≡ num_living (flags_of rows)
rows_count [] = refl
rows_count ((doc, true) ∷ rows) = ap suc (rows_count rows)
rows_count ((doc, false) ∷ rows) = rows_count rows

pub living_is : (schema : Schema) (analyze : Analyzer) (ms : List Member) (segments : List alive.Segment) → StandFor schema analyze ms segments → living_count ms ≡ length (live segments)
living_is schema analyze [] [] stand = refl
living_is schema analyze [] (rows ∷ segments) stand = absurd stand
living_is schema analyze (m ∷ ms) [] stand = absurd stand
living_is schema analyze (m ∷ ms) (rows ∷ segments) stand =
    let here = ap num_living stand.1 in
    let count = rows_count rows in
    let later = living_is schema analyze ms segments stand.2 in
    let whole = length-append (living rows) (live segments) in
    omega (arith, here, count, later, whole)

-- ---- documents that an add takes

both_taken : (P : Document → Type 0) (xs ys : List Document) → AllByRecursion P xs → AllByRecursion P ys → AllByRecursion P (xs ++ ys)
both_taken P [] ys a b = b
both_taken P (x ∷ xs) ys a b = (a.0, both_taken P xs ys a.1 b)

living_taken : (P : Document → Type 0) (rows : alive.Segment) → AllByRecursion P (documents_in rows) → AllByRecursion P (living rows)
living_taken P [] all = tt
living_taken P ((doc, true) ∷ rows) all = (all.0, living_taken P rows all.1)
living_taken P ((doc, false) ∷ rows) all = living_taken P rows all.1

all_taken : (schema : Schema) (analyze : Analyzer) (ms : List Member) (segments : List alive.Segment) → StandFor schema analyze ms segments → AllByRecursion (IsTaken schema) (live segments)
all_taken schema analyze [] [] stand = tt
all_taken schema analyze [] (rows ∷ segments) stand = absurd stand
all_taken schema analyze (m ∷ ms) [] stand = absurd stand
all_taken schema analyze (m ∷ ms) (rows ∷ segments) stand = both_taken (IsTaken schema) (living rows) (live segments) (living_taken (IsTaken schema) rows stand.0.bytes_are.taken) (all_taken schema analyze ms segments stand.2)

-- ---- a segment of the living documents

pub segment_of : (schema : Schema) (analyze : Analyzer) (ms : List Member) (segments : List alive.Segment) (sections : Sections) (bytes : List ℕ) (fields : List IndexedField) → StandFor schema analyze ms segments → AreWritten (living_count ms) sections bytes
    → AreSections schema (living_count ms) (norms_of schema analyze (live segments)) fields sections.terms sections.postings sections.positions → AreIndexed schema analyze (live segments) fields → AreKeyed schema fields
    → IsNorms (length_fields schema) (living_count ms) sections.norms (norms_of schema analyze (live segments))
    → IsStore (merged_slots ms (slots_of schema segments)) sections.store → IsSegmentOf schema analyze (live segments) bytes
segment_of schema analyze ms segments sections bytes fields stand written terms indexed keyed norms store =
    let many = living_is schema analyze ms segments stand in
    record {
      sections = sections;
      fields = fields;
      taken = all_taken schema analyze ms segments stand;
      written = subst (λ n. AreWritten n sections bytes) many written;
      terms_are = subst (λ n. AreSections schema n (norms_of schema analyze (live segments)) fields sections.terms sections.postings sections.positions) many terms;
      keyed = keyed;
      indexed = indexed;
      norms_are = subst (λ n. IsNorms (length_fields schema) n sections.norms (norms_of schema analyze (live segments))) many norms;
      store_is = subst (λ xs. IsStore xs sections.store) (slots_living schema analyze ms segments stand) store;
    }

-- ---- a segment, whatever it stands for and whatever its blocks hold

pub segment_is : (schema : Schema) (n : ℕ) (sections : Sections) (bytes : List ℕ) (fields : List IndexedField) (norms : List (ℕ × List ℕ)) (blocks : List Block) → AreWritten n sections bytes
    → AreSections schema n norms fields sections.terms sections.postings sections.positions → AreKeyed schema fields → IsNorms (length_fields schema) n sections.norms norms
    → AreBlocks blocks → sections.store ≡ store_bytes blocks → count_of blocks ≡ n → IsSegment schema n bytes
segment_is schema n sections bytes fields norms blocks written terms keyed lengths are is many =
    let sum = count_is blocks in
    record {
      sections = sections;
      norms = norms;
      fields = fields;
      blocks = blocks;
      written = written;
      terms_are = terms;
      keyed = keyed;
      norms_are = lengths;
      store_is = is;
      blocks_are = are;
      counted = omega (arith, sum, many);
    }

-- ---- damage

no_bad : (k : ℕ) (ms : List Member) (all : List (List (List ℕ))) (m : Member) → slice_get ms k ≡ Some m → AreHeld ms all → HasBadSlot m.1 (blocks_of m.0) → ⊥
no_bad k [] all m at held bad = cc
no_bad k (x ∷ ms) [] m at held bad = absurd held
no_bad zero (x ∷ ms) (slots ∷ all) m at held bad = (let same : x ≡ m = cc in none_bad (blocks_of m.0) slots bad.0 (subst (λ y. Hold (blocks_of y.0) slots) same held.0) bad.2)
no_bad (suc k) (x ∷ ms) (slots ∷ all) m at held bad = no_bad k ms all m at held.1 bad

-- a store whose blocks hold slots isn't damaged
pub none_damaged : (ms : List Member) (all : List (List (List ℕ))) → HasBadMember ms → AreHeld ms all → ⊥
none_damaged ms all (k, m, at, bad) held = no_bad k ms all m at held bad
