-- What the segments of pending documents hold, and why they take one document more or don't.
use Rattle.std.proofs.Common.{[], ◌++◌, ◌+◌, ◌<◌, ◌^◌, ◌∙◌, ◌∷◌, ◌≡◌, ◌≤◌, ◌⊎◌, Bool, Err, IfErr, List, None, Ok, OnErr, Option, Result, Some, ap, ap₂, append_assoc, arith, get_or, if◌then◌else◌, inl, inr, length, length-append, refl, subst, suc, sym, take, zero, ⊎_elim, ℕ}
use Rattle.std.proofs.Math.Logic.{∥∥₁_elim, ∥∥₁_map}
use Rattle.std.proofs.lemmas.List.{take_more}
use Rattle.std.specs.List.{AllByRecursion, AllZip}
use Rattle.std.specs.Prelude.{MatchOption, option_to_list}
use Rattle.definitions.proofs.Lists.{all_push, zip_length}
use Rattle.definitions.specs.Analyzers.{Analyzer}
use Rattle.definitions.specs.Calls as calls
use Rattle.definitions.specs.KeptLengths.{norms_of}
use Rattle.definitions.specs.Postings.{postings}
use Rattle.definitions.specs.Schema.{Schema}
use Rattle.definitions.specs.State.{as_group}
use Rattle.definitions.specs.Values.{Document}
use Rattle.definitions.specs.declared.fault.Fault.{Fault}
use Rattle.definitions.specs.declared.fault.Fault.TheVariants as faults
use Rattle.postings_writer.specs.Limits.{IsSerializeRefusal}
use Rattle.segment.specs.Opened.{IsOpened, StandsFor, bytes_of}
use Rattle.segment.specs.Writers.{HasWritten, IsAddRefusal}
use Rattle.segment.specs.declared.segment.Segment as code
use Rattle.segment.specs.declared.segment_writer.SegmentWriter.{SegmentWriter}
use Rattle.segment_definitions.specs.Segments.{IsSegment, IsSegmentOf}
use Rattle.segment_definitions.specs.Slots.{slot}
use Rattle.segment_search.proofs.Places.{zip_more}
use Rattle.index_state.proofs.Outcomes.{memory_is_no_limit}
use Rattle.index_state.specs.Given.{IsGiven}
use Rattle.index_state.specs.Limits.{OneMorePasses, TermsPass}
use Rattle.index_state.specs.Pending.{Holds, IsFull}
use Rattle.index_state.specs.declared.pending_segments.FullSegment.{FullSegment}
use Rattle.index_state.specs.declared.pending_segments.PendingSegments.{PendingSegments}
use Rattle.segment_definitions.proofs.SegmentDocs.{segment_alone as segment_known}

-- ---- documents that an add takes

-- no test of an add refuses them
pub given_ok : (schema : Schema) (doc : Document) → IsGiven schema doc → calls.document_given schema doc ≡ Ok doc
given_ok schema doc given = ap₂ answer given.0 given.1
  where
    answer : Bool → Bool → Result Document Fault
    answer unknown indexed = if unknown then Err faults.UnknownField else (if indexed then Ok doc else Err faults.NotIndexable)

-- ---- limits

-- a limit that a document passes behind others: that of its slot, or one of what is indexed
pub add_passes : (schema : Schema) (analyze : Analyzer) (block_size n : ℕ) (docs : List Document) (doc : Document) (fault : Fault) → IsAddRefusal fault schema analyze block_size docs doc → fault ≡ faults.Limit → (2 ^ 32 ≤ block_size + length (slot schema doc) + 8) ⊎ OneMorePasses schema analyze n docs doc
add_passes schema analyze block_size n docs doc fault refusal is =
    ⊎_elim (λ (memory : fault ≡ faults.OutOfMemory). absurd (memory_is_no_limit fault memory is)) (λ limit. ⊎_elim (λ store. ⊎_elim (λ long. inl long) (λ many. inr (inl (inl many))) store) (λ passes. inr (inl passes)) limit.1) refusal

-- what the bytes of a segment are refused for
pub close_passes : (schema : Schema) (analyze : Analyzer) (docs : List Document) (fault : Fault) → IsSerializeRefusal fault schema (norms_of schema analyze docs) (λ t. postings schema analyze t docs) → fault ≡ faults.Limit → TermsPass schema analyze docs
close_passes schema analyze docs fault refusal is = ⊎_elim (λ (memory : fault ≡ faults.OutOfMemory). absurd (memory_is_no_limit fault memory is)) (λ limit. limit.1) refusal

-- memory ran out, or a limit was met
pub add_err : (schema : Schema) (analyze : Analyzer) (block_size : ℕ) (docs : List Document) (doc : Document) (fault : Fault) → IsAddRefusal fault schema analyze block_size docs doc → (fault ≡ faults.OutOfMemory) ⊎ (fault ≡ faults.Limit)
add_err schema analyze block_size docs doc fault refusal = ⊎_elim (λ memory. inl memory) (λ limit. inr limit.0) refusal

pub close_err : (schema : Schema) (analyze : Analyzer) (docs : List Document) (fault : Fault) → IsSerializeRefusal fault schema (norms_of schema analyze docs) (λ t. postings schema analyze t docs) → (fault ≡ faults.OutOfMemory) ⊎ (fault ≡ faults.Limit)
close_err schema analyze docs fault refusal = ⊎_elim (λ memory. inl memory) (λ limit. inr limit.0) refusal

-- these two are told apart, so a truncation tells which of them it is
pub want_known : (fault : Fault) → ∥ ((fault ≡ faults.OutOfMemory) ⊎ (fault ≡ faults.Limit)) ∥₁ → (fault ≡ faults.OutOfMemory) ⊎ (fault ≡ faults.Limit)
want_known faults.OutOfMemory h = inl refl
want_known faults.Limit h = inr refl
want_known fault h = absurd (∥∥₁_elim h (λ x y. absurd x) (λ is. ⊎_elim (λ (memory : fault ≡ faults.OutOfMemory). cc) (λ (limit : fault ≡ faults.Limit). cc) is))

-- where one document more fills a segment, and its terms are too much, it passes a limit
pub full_passes : {T : Type 0} (r : Result T Fault) (schema : Schema) (analyze : Analyzer) (block_size n : ℕ) (docs : List Document) (doc : Document) → n ≤ length (docs ++ doc ∷ []) → IfErr r (λ fault. fault ≡ faults.Limit → TermsPass schema analyze (docs ++ doc ∷ []))
    → IfErr r (λ fault. fault ≡ faults.Limit → (2 ^ 32 ≤ block_size + length (slot schema doc) + 8) ⊎ OneMorePasses schema analyze n docs doc)
full_passes (Ok x) schema analyze block_size n docs doc many h = tt
full_passes (Err fault) schema analyze block_size n docs doc many h = λ is. inr (inr (omega (arith, many, length-append docs (doc ∷ [])), h is))

-- ---- what is held

-- one document more is some
pub one_more : (docs : List Document) (doc : Document) → 0 < length (docs ++ doc ∷ [])
one_more docs doc = omega (arith, length-append docs (doc ∷ []))

-- and a group of their own
pub group_of : (docs : List Document) → 0 < length docs → as_group docs ≡ docs ∷ []
group_of [] some = absurd (omega (arith, some))
group_of (doc ∷ docs) some = refl

-- an open segment has these documents, and none is open where there are none
abbrev pub IsOpen : Schema → Analyzer → ℕ → List Document → Option SegmentWriter → Type 0
IsOpen schema analyze block_size docs o = MatchOption o (docs ≡ []) (λ writer. (0 < length docs) × HasWritten schema analyze block_size writer docs)

-- an open segment makes one group more
pub open_counted : (schema : Schema) (analyze : Analyzer) (block_size : ℕ) (o : Option SegmentWriter) (last : List Document) → IsOpen schema analyze block_size last o → length (as_group last) ≡ length (option_to_list o)
open_counted schema analyze block_size None last none = ap (λ ds. length (as_group ds)) none
open_counted schema analyze block_size (Some writer) last some = ap length (group_of last some.0)

module _ (schema : Schema) (analyze : Analyzer) (block_size : ℕ) (pending : PendingSegments) (full : List (List Document)) (last : List Document) (h : Holds schema analyze block_size pending full last) where
  -- a writer has the last documents, which are some
  pub writer_holds : (writer : SegmentWriter) → pending.writer ≡ Some writer → (0 < length last) × HasWritten schema analyze block_size writer last
  writer_holds writer is = subst (IsOpen schema analyze block_size last) is h.writer

  -- where there is no writer there are none
  pub writer_none : pending.writer ≡ None → last ≡ []
  writer_none is = subst (IsOpen schema analyze block_size last) is h.writer

  -- as many segments are full
  pub full_counted : length full ≡ length pending.full.items
  full_counted = zip_length (IsFull schema analyze) full pending.full.items h.closed

-- one segment more is full, and none is open
pub one_full : (schema : Schema) (analyze : Analyzer) (block_size : ℕ) (new : PendingSegments) (full : List (List Document)) (was : List FullSegment) (docs : List Document) (segment : FullSegment) → AllZip (IsFull schema analyze) full was → IsFull schema analyze docs segment → new.full.items ≡ was ++ segment ∷ [] → new.writer ≡ None
    → Holds schema analyze block_size new (full ++ docs ∷ []) []
one_full schema analyze block_size new full was docs segment closed is items none = record {
  closed = subst (AllZip (IsFull schema analyze) (full ++ docs ∷ [])) (sym items) (zip_more (IsFull schema analyze) full (docs ∷ []) was (segment ∷ []) closed (is, tt));
  writer = subst (IsOpen schema analyze block_size []) (sym none) refl;
}

-- ---- opened

-- what stands for an element stands for the element of its index
got_at : {X Y : Type 0} (R : X → Y → Type 0) (xs : List X) (ys : List Y) (i : ℕ) (d : X) (y : Y) → AllZip R xs ys → i < length ys → y ≡ get_or ys i y → R (get_or xs i d) y
got_at R [] [] i d y h l e = absurd (omega (arith, l))
got_at R [] (z ∷ ys) i d y h l e = absurd h
got_at R (x ∷ xs) [] i d y h l e = absurd h
got_at R (x ∷ xs) (z ∷ ys) zero d y h l e = subst (λ w. R x w) (sym e) h.0
got_at R (x ∷ xs) (z ∷ ys) (suc i) d y h l e = got_at R xs ys i d y h.1 (omega (arith, l)) e

module _ (schema : Schema) (analyze : Analyzer) (block_size : ℕ) (pending : PendingSegments) (full : List (List Document)) (last : List Document) (h : Holds schema analyze block_size pending full last) (i : ℕ) (segment : FullSegment) (inside : i < length pending.full.items) (e : segment ≡ get_or pending.full.items i segment) where
  -- a full segment is of its documents
  pub full_at : IsFull schema analyze (get_or full i []) segment
  full_at = got_at (IsFull schema analyze) full pending.full.items i [] segment h.closed inside e

  -- so its bytes are a segment
  pub segment_at : (copy : List ℕ) → copy ≡ segment.bytes → (n : ℕ) × IsSegment schema n copy
  segment_at copy same = (length (get_or full i []), subst (IsSegment schema (length (get_or full i []))) (sym same) (segment_known schema analyze (get_or full i []) segment.bytes full_at.0))

  -- and opened they stand for these behind others
  pub opened_next : (docs : List (List Document)) (was : List code.Segment) (s : code.Segment) → AllZip (StandsFor schema analyze) (docs ++ take i full) was → IsOpened schema s → bytes_of s ≡ segment.bytes → AllZip (StandsFor schema analyze) (docs ++ take (i + 1) full) (was ++ s ∷ [])
  opened_next docs was s before opened same =
      let one = get_or full i [] in
      let many = zip_length (IsFull schema analyze) full pending.full.items h.closed in
      let stands : StandsFor schema analyze one s = record { opened = opened; bytes_are = subst (IsSegmentOf schema analyze one) (sym same) full_at.0 } in
      let next = zip_more (StandsFor schema analyze) (docs ++ take i full) (one ∷ []) was (s ∷ []) before (stands, tt) in
      let docs_are : (docs ++ take i full) ++ one ∷ [] ≡ docs ++ take (i + 1) full = append_assoc docs (take i full) (one ∷ []) ∙ ap (λ ds. docs ++ ds) (sym (take_more full i [] (omega (arith, inside, many)))) in
      subst (λ ds. AllZip (StandsFor schema analyze) ds (was ++ s ∷ [])) docs_are next

-- each is opened still
pub opened_more : (schema : Schema) (segments new : List code.Segment) (s : code.Segment) → ∥ AllByRecursion (IsOpened schema) segments ∥₁ → IsOpened schema s → new ≡ segments ++ s ∷ [] → ∥ AllByRecursion (IsOpened schema) new ∥₁
opened_more schema segments new s h o e = ∥∥₁_map h (λ all. subst (AllByRecursion (IsOpened schema)) (sym e) (all_push (IsOpened schema) segments s all o))

-- some of them are
pub some_opened : {T E : Type 0} (r : Result T E) (schema : Schema) (analyze : Analyzer) (docs more : List (List Document)) (segments : List code.Segment) → AllZip (StandsFor schema analyze) (docs ++ more) segments → OnErr r ((some : List (List Document)) × AllZip (StandsFor schema analyze) (docs ++ some) segments)
some_opened (Ok x) schema analyze docs more segments h = tt
some_opened (Err e) schema analyze docs more segments h = (more, h)
