-- Hits that are read from segments.
use Rattle.std.proofs.Common.{[], ◌++◌, ◌+◌, ◌<◌, ◌∙◌, ◌∷◌, ◌≡◌, ◌≤◌, ◌⊎◌, Bool, List, None, Some, ap, ap₂, arith, drop, drop-cons, get_or, inl, inr, length, map, option_map, set, slice_get, subst, suc, sym, zero, ℕ}
use Rattle.std.proofs.Math.Logic.{∥∥₁_elim}
use Rattle.std.proofs.Props.{props}
use Rattle.std.proofs.lemmas.List.{append_assoc, get_or-map, length-map, map-append}
use Rattle.std.specs.List.{AllByRecursion, AllZip}
use Rattle.definitions.specs.Analyzers.{Analyzer}
use Rattle.definitions.specs.Schema.{Schema}
use Rattle.definitions.specs.Values.{Document}
use Rattle.definitions.specs.declared.fault.Fault.{Fault}
use Rattle.definitions.specs.declared.fault.Fault.TheVariants as faults
use Rattle.segment.specs.Opened.{IsOpened, StandsFor, blocks_of, bytes_of, num_docs_of}
use Rattle.segment.specs.SlotDocuments.{IsDocumentFault}
use Rattle.segment.specs.declared.segment.Segment as code
use Rattle.best_k.specs.Kept.{ScoredAddress}
use Rattle.common.proofs.FirstBits.{set_inside as flag_there}
use Rattle.segment_search.proofs.Flagging.{flagged_within}
use Rattle.segment_search.specs.Flags.{AreFlagged}
use Rattle.segment_search.specs.Hits.{IsHeld, KeepsSegments}
use Rattle.store.specs.Writing.{count_of}
use Rattle.segment_search.specs.Best.{IsFound}
use Rattle.store.proofs.SlotLaws.{count_is}

-- what stands for the element at an index
pub stands_at : {X Y : Type 0} (R : X → Y → Type 0) (none : X) (other : Y) (xs : List X) (ys : List Y) (i : ℕ) → AllZip R xs ys → i < length ys → R (get_or xs i none) (get_or ys i other)
stands_at R none other [] [] i h l = absurd (omega (arith, l))
stands_at R none other [] (z ∷ ys) i h l = absurd h
stands_at R none other (x ∷ xs) [] i h l = absurd h
stands_at R none other (x ∷ xs) (z ∷ ys) zero h l = h.0
stands_at R none other (x ∷ xs) (z ∷ ys) (suc i) h l = stands_at R none other xs ys i h.1 (omega (arith, l))

-- an element that is told where it is there
pub told_there : {X Y : Type 0} (f : X → Y) (none : X) (xs : List X) (i : ℕ) (y : Y) → option_map f (slice_get xs i) ≡ Some y → f (get_or xs i none) ≡ y
told_there f none [] zero y e = absurd (cc)
told_there f none [] (suc i) y e = absurd (cc)
told_there f none (x ∷ xs) zero y e = cc
told_there f none (x ∷ xs) (suc i) y e = told_there f none xs i y e

-- ---- segments of which one changed

zip_set : {X Y : Type 0} (R : X → Y → Type 0) (other new : Y) (xs : List X) (ys : List Y) (i : ℕ) → AllZip R xs ys → i < length ys → ((x : X) → R x (get_or ys i other) → R x new) → AllZip R xs (set ys i new)
zip_set R other new [] [] i h l f = absurd (omega (arith, l))
zip_set R other new [] (z ∷ ys) i h l f = absurd h
zip_set R other new (x ∷ xs) [] i h l f = absurd h
zip_set R other new (x ∷ xs) (z ∷ ys) zero h l f = (f x h.0, h.1)
zip_set R other new (x ∷ xs) (z ∷ ys) (suc i) h l f = (h.0, zip_set R other new xs ys i h.1 (omega (arith, l)) f)

all_set : {Y : Type 0} (P : Y → Type 0) (other new : Y) (ys : List Y) (i : ℕ) → AllByRecursion P ys → i < length ys → (P (get_or ys i other) → P new) → AllByRecursion P (set ys i new)
all_set P other new [] i h l f = absurd (omega (arith, l))
all_set P other new (z ∷ ys) zero h l f = (f h.0, h.1)
all_set P other new (z ∷ ys) (suc i) h l f = (h.0, all_set P other new ys i h.1 (omega (arith, l)) f)

map_set : {Y Z : Type 0} (f : Y → Z) (other new : Y) (ys : List Y) (i : ℕ) → i < length ys → f new ≡ f (get_or ys i other) → map f (set ys i new) ≡ map f ys
map_set f other new [] i l same = absurd (omega (arith, l))
map_set f other new (z ∷ ys) zero l same = ap (λ w. w ∷ map f ys) same
map_set f other new (z ∷ ys) (suc i) l same = ap (λ ws. f z ∷ ws) (map_set f other new ys i (omega (arith, l)) same)

-- where it is kept, all are
pub kept_set : (old : List code.Segment) (i : ℕ) (other new : code.Segment) → i < length old
    → ((schema : Schema) (analyze : Analyzer) (docs : List Document) → StandsFor schema analyze docs (get_or old i other) → StandsFor schema analyze docs new)
    → ((schema : Schema) → IsOpened schema (get_or old i other) → IsOpened schema new)
    → bytes_of new ≡ bytes_of (get_or old i other) → num_docs_of new ≡ num_docs_of (get_or old i other) → blocks_of new ≡ blocks_of (get_or old i other) → KeepsSegments old (set old i new)
kept_set old i other new l stands opened bytes counts blocks = record {
  stands = λ schema analyze docs h. zip_set (StandsFor schema analyze) other new docs old i h l (stands schema analyze);
  opened = λ schema h. all_set (IsOpened schema) other new old i h l (opened schema);
  bytes = map_set bytes_of other new old i l bytes;
  blocks = map_set blocks_of other new old i l blocks;
  counts = map_set num_docs_of other new old i l counts;
}

-- and from one reading to the next
pub kept_then : (one two three : List code.Segment) → KeepsSegments one two → KeepsSegments two three → KeepsSegments one three
kept_then one two three first second = record {
  stands = λ schema analyze docs h. second.stands schema analyze docs (first.stands schema analyze docs h);
  opened = λ schema h. second.opened schema (first.opened schema h);
  bytes = second.bytes ∙ first.bytes;
  blocks = second.blocks ∙ first.blocks;
  counts = second.counts ∙ first.counts;
}

-- memory was wanting for a document that is there
pub not_past : (fault : Fault) (doc count : ℕ) → doc < count → ((fault ≡ faults.OutOfMemory) × (doc < count)) ⊎ ((fault ≡ faults.InvalidArgument) × (count ≤ doc)) → fault ≡ faults.OutOfMemory
not_past fault doc count l (inl memory) = memory.0
not_past fault doc count l (inr past) = let none = past.1 in absurd (omega (arith, l, none))

-- what reading a document that is there is refused by
pub slot_faults : (schema : Schema) (s : code.Segment) (doc : ℕ) (fault : Fault) → doc < count_of (blocks_of s) → IsDocumentFault schema (blocks_of s) doc fault → (fault ≡ faults.OutOfMemory) ⊎ (fault ≡ faults.Damaged None)
slot_faults schema s doc fault l (inl memory) = inl memory
slot_faults schema s doc fault l (inr (inl (inl memory))) = inl memory.0
slot_faults schema s doc fault l (inr (inl (inr (inl past)))) = let none = past.1 in absurd (omega (arith, l, none))
slot_faults schema s doc fault l (inr (inl (inr (inr bad)))) = inr bad.0
slot_faults schema s doc fault l (inr (inr none)) = inr none.0

-- ---- addresses of documents that are there

-- what holds of all holds of the one at an index
pub one_at : {Y : Type 0} (P : Y → Type 0) (other : Y) (ys : List Y) (i : ℕ) → AllByRecursion P ys → i < length ys → P (get_or ys i other)
one_at P other [] i h l = absurd (omega (arith, l))
one_at P other (z ∷ ys) zero h l = h.0
one_at P other (z ∷ ys) (suc i) h l = one_at P other ys i h.1 (omega (arith, l))

-- a document of a segment is in its store
pub stored_at : (segments : List code.Segment) (i doc : ℕ) (other : code.Segment) → i < length segments → doc < get_or (map num_docs_of segments) i 0 → doc < count_of (blocks_of (get_or segments i other))
stored_at segments i doc other inside l =
    let s = get_or segments i other in
    let counted : count_of (blocks_of s) ≡ num_docs_of s = ∥∥₁_elim s.opened (hlevel props) (λ o. sym (count_is (blocks_of s)) ∙ o.1.counted) in
    let held : doc < num_docs_of s = subst (λ n. doc < n) (get_or-map num_docs_of segments i other 0 inside) l in
    omega (arith, counted, held)

-- one is there in as many segments of as many documents
pub held_kept : (old new : List code.Segment) (m : ScoredAddress) → map num_docs_of new ≡ map num_docs_of old → IsHeld old m → IsHeld new m
held_kept old new m same h =
    let long = length-map new num_docs_of in
    let as_long = length-map old num_docs_of in
    let counted = ap length same in
    let inside = h.0 in
    (omega (arith, long, as_long, counted, inside), h.1, subst (λ counts. m.2 < get_or counts m.1 0) (sym same) h.2)

flags_counted : (segments : List code.Segment) (sets : List (List Bool)) (i : ℕ) → AreFlagged segments sets → i < length sets → length (get_or sets i []) ≡ get_or (map num_docs_of segments) i 0
flags_counted segments [] i h l = absurd (omega (arith, l))
flags_counted [] (flags ∷ sets) i h l = absurd h
flags_counted (s ∷ segments) (flags ∷ sets) zero h l = h.0
flags_counted (s ∷ segments) (flags ∷ sets) (suc i) h l = flags_counted segments sets i h.1 (omega (arith, l))

-- a living document is there
pub held_alive : (segments : List code.Segment) (sets : List (List Bool)) → AreFlagged segments sets → (m : ScoredAddress) → IsFound sets m → IsHeld segments m
held_alive segments sets flagged m found =
    let few = flagged_within segments sets flagged in
    let inside = found.0 in
    (omega (arith, few, inside), found.1, subst (λ n. m.2 < n) (flags_counted segments sets m.1 flagged found.0) (flag_there (get_or sets m.1 []) m.2 found.2))

-- ---- hits, one after the other

-- a hit more, of the next document that is left
pub read_next : {X Y Z : Type 0} (f : X → Z) (g : Y → Z) (hits new : List X) (best : List Y) (i : ℕ) (h : X) (other : Y) (all : List Z) → new ≡ hits ++ h ∷ [] → f h ≡ g (get_or best i other) → i < length best → map f hits ++ map g (drop i best) ≡ all → map f new ++ map g (drop (i + 1) best) ≡ all
read_next f g hits new best i h other all pushed told there so_far =
    let next : i + 1 ≡ suc i = omega arith in
    let rest = map g (drop (suc i) best) in
    ap₂ (λ xs n. map f xs ++ map g (drop n best)) pushed next
    ∙ ap (λ zs. zs ++ rest) (map-append f hits (h ∷ []))
    ∙ append_assoc (map f hits) (f h ∷ []) rest
    ∙ ap (λ z. map f hits ++ z ∷ rest) told
    ∙ ap (λ ys. map f hits ++ map g ys) (sym (drop-cons best i other there))
    ∙ so_far
