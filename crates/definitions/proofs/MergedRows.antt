-- What the living documents of several segments have.
use Rattle.std.proofs.Common.{[], ◌++◌, ◌+◌, ◌∙◌, ◌∷◌, ◌≡◌, Bool, List, None, Some, ap, ap₂, arith, false, filter, filter_map, if◌then◌else◌, length, map, refl, suc, sym, true, ℕ}
use Rattle.std.specs.List.{cons_option, enumerate_from, items_where_true, slice_index_or}
use Rattle.definitions.specs.Alive.{Segment, live}
use Rattle.definitions.specs.Analyzers.{Analyzer}
use Rattle.definitions.specs.Merging.{at_document, documents_in, flags_of, merged_postings, merged_rows, num_living, rank, renumbered}
use Rattle.definitions.specs.Postings.{Posting, posting_of, postings}
use Rattle.definitions.specs.Recorded.{count_of, holds, positions_of}
use Rattle.definitions.specs.Schema.{Schema}
use Rattle.definitions.specs.State.{living}
use Rattle.definitions.specs.Values.{Document}

-- ---- rows

pub map_both : {X Y : Type 0} (f : X → Y) (xs ys : List X) → map f (xs ++ ys) ≡ map f xs ++ map f ys
map_both f [] ys = refl
map_both f (x ∷ xs) ys = ap (λ l. f x ∷ l) (map_both f xs ys)

living_rows : {X : Type 0} (f : Document → X) (rows : Segment) → map f (living rows) ≡ items_where_true (flags_of rows) (map f (documents_in rows))
living_rows f [] = refl
living_rows f ((doc, true) ∷ rows) = ap (λ l. f doc ∷ l) (living_rows f rows)
living_rows f ((doc, false) ∷ rows) = living_rows f rows

-- what is made of each living document, segment by segment
pub live_rows : {X : Type 0} (f : Document → X) (segments : List Segment) → map f (live segments) ≡ merged_rows (map (λ rows. (flags_of rows, map f (documents_in rows))) segments)
live_rows f [] = refl
live_rows f (rows ∷ segments) = map_both f (living rows) (live segments) ∙ ap₂ (λ xs ys. xs ++ ys) (living_rows f rows) (live_rows f segments)

-- ---- numbers

living_count : (rows : Segment) → length (living rows) ≡ num_living (flags_of rows)
living_count [] = refl
living_count ((doc, true) ∷ rows) = ap (λ n. suc n) (living_count rows)
living_count ((doc, false) ∷ rows) = living_count rows

-- one for a living document
abbrev one : Bool → ℕ
one flag = if flag then 1 else 0

rank_next : (flag : Bool) (flags : List Bool) (d : ℕ) → rank (flag ∷ flags) (d + 1) ≡ one flag + rank flags d
rank_next true flags d = let e : d + 1 ≡ suc d = omega arith in ap (rank (true ∷ flags)) e ∙ omega arith
rank_next false flags d = let e : d + 1 ≡ suc d = omega arith in ap (rank (false ∷ flags)) e ∙ omega arith

flag_next : (flag : Bool) (flags : List Bool) (d : ℕ) → slice_index_or (flag ∷ flags) (d + 1) false ≡ slice_index_or flags d false
flag_next flag flags d = let e : d + 1 ≡ suc d = omega arith in ap (λ n. slice_index_or (flag ∷ flags) n false) e

-- ---- postings

-- a posting one document further
abbrev bumped : Posting → Posting
bumped p = at_document (p.doc + 1) p

-- behind a document the numbers are one greater
renumbered_next : (base : ℕ) (flag : Bool) (flags : List Bool) (ps : List Posting) → renumbered base (flag ∷ flags) (map bumped ps) ≡ renumbered (base + one flag) flags ps
renumbered_next base flag flags [] = refl
renumbered_next base flag flags (p ∷ ps) =
    ap (λ (b : Bool). map (λ (q : Posting). at_document (base + rank (flag ∷ flags) q.doc) q) (if b then bumped p ∷ filter (λ (q : Posting). slice_index_or (flag ∷ flags) q.doc false) (map bumped ps) else filter (λ (q : Posting). slice_index_or (flag ∷ flags) q.doc false) (map bumped ps))) (flag_next flag flags p.doc)
    ∙ go (slice_index_or flags p.doc false) (renumbered_next base flag flags ps)
  where
    go : (b : Bool) → renumbered base (flag ∷ flags) (map bumped ps) ≡ renumbered (base + one flag) flags ps
        → map (λ (q : Posting). at_document (base + rank (flag ∷ flags) q.doc) q) (if b then bumped p ∷ filter (λ (q : Posting). slice_index_or (flag ∷ flags) q.doc false) (map bumped ps) else filter (λ (q : Posting). slice_index_or (flag ∷ flags) q.doc false) (map bumped ps))
        ≡ map (λ (q : Posting). at_document (base + one flag + rank flags q.doc) q) (if b then p ∷ filter (λ (q : Posting). slice_index_or flags q.doc false) ps else filter (λ (q : Posting). slice_index_or flags q.doc false) ps)
    go true h = let e : base + rank (flag ∷ flags) (p.doc + 1) ≡ base + one flag + rank flags p.doc = omega (arith, rank_next flag flags p.doc) in ap₂ (λ (n : ℕ) (l : List Posting). at_document n p ∷ l) e h
    go false h = h

module _ (schema : Schema) (analyze : Analyzer) (t : List ℕ) where
  -- the postings of documents that are numbered from one on
  abbrev listed : ℕ → List Document → List Posting
  listed k docs = filter_map (posting_of schema analyze t) (enumerate_from k docs)

  -- the posting of a document at a place
  abbrev posted : ℕ → Document → Posting
  posted k doc = record { doc = k; count = count_of schema analyze t doc; positions = positions_of schema analyze t doc }

  listed_next : (k : ℕ) (docs : List Document) → listed (k + 1) docs ≡ map bumped (listed k docs)
  listed_next k [] = refl
  listed_next k (doc ∷ docs) = go (holds schema analyze t doc) (listed_next (k + 1) docs)
    where
      go : (b : Bool) → listed (k + 1 + 1) docs ≡ map bumped (listed (k + 1) docs) → cons_option (if b then Some (posted (k + 1) doc) else None) (listed (k + 1 + 1) docs) ≡ map bumped (cons_option (if b then Some (posted k doc) else None) (listed (k + 1) docs))
      go true h = ap (λ l. posted (k + 1) doc ∷ l) h
      go false h = h

  listed_both : (k : ℕ) (docs more : List Document) → listed k (docs ++ more) ≡ listed k docs ++ listed (k + length docs) more
  listed_both k [] more = let e : k ≡ k + 0 = omega arith in ap (λ n. listed n more) e
  listed_both k (doc ∷ docs) more = go (holds schema analyze t doc) (listed_both (k + 1) docs more ∙ ap (λ n. listed (k + 1) docs ++ listed n more) next)
    where
      next : k + 1 + length docs ≡ k + length (doc ∷ docs)
      next = omega arith

      go : (b : Bool) → listed (k + 1) (docs ++ more) ≡ listed (k + 1) docs ++ listed (k + length (doc ∷ docs)) more
          → cons_option (if b then Some (posted k doc) else None) (listed (k + 1) (docs ++ more)) ≡ cons_option (if b then Some (posted k doc) else None) (listed (k + 1) docs) ++ listed (k + length (doc ∷ docs)) more
      go true h = ap (λ l. posted k doc ∷ l) h
      go false h = h

  -- one segment
  living_listed : (base : ℕ) (rows : Segment) → listed base (living rows) ≡ renumbered base (flags_of rows) (listed 0 (documents_in rows))
  living_listed base [] = refl
  living_listed base ((doc, true) ∷ rows) = go (holds schema analyze t doc) (living_listed (base + 1) rows ∙ sym (renumbered_next base true (flags_of rows) (listed 0 (documents_in rows))) ∙ ap (renumbered base (true ∷ flags_of rows)) (sym (listed_next 0 (documents_in rows))))
    where
      here : base ≡ base + 0
      here = omega arith

      go : (b : Bool) → listed (base + 1) (living rows) ≡ renumbered base (true ∷ flags_of rows) (listed (0 + 1) (documents_in rows))
          → cons_option (if b then Some (posted base doc) else None) (listed (base + 1) (living rows)) ≡ renumbered base (true ∷ flags_of rows) (cons_option (if b then Some (posted 0 doc) else None) (listed (0 + 1) (documents_in rows)))
      go true h = ap₂ (λ (n : ℕ) (l : List Posting). posted n doc ∷ l) here h
      go false h = h
  living_listed base ((doc, false) ∷ rows) = go (holds schema analyze t doc) (living_listed base rows ∙ ap (λ n. renumbered n (flags_of rows) (listed 0 (documents_in rows))) here ∙ sym (renumbered_next base false (flags_of rows) (listed 0 (documents_in rows))) ∙ ap (renumbered base (false ∷ flags_of rows)) (sym (listed_next 0 (documents_in rows))))
    where
      here : base ≡ base + 0
      here = omega arith

      go : (b : Bool) → listed base (living rows) ≡ renumbered base (false ∷ flags_of rows) (listed (0 + 1) (documents_in rows))
          → listed base (living rows) ≡ renumbered base (false ∷ flags_of rows) (cons_option (if b then Some (posted 0 doc) else None) (listed (0 + 1) (documents_in rows)))
      go true h = h
      go false h = h

  -- several
  live_listed : (base : ℕ) (segments : List Segment) → listed base (live segments) ≡ merged_postings base (map (λ rows. (flags_of rows, listed 0 (documents_in rows))) segments)
  live_listed base [] = refl
  live_listed base (rows ∷ segments) =
      listed_both base (living rows) (live segments)
      ∙ ap₂ (λ ps qs. ps ++ qs) (living_listed base rows) (ap (λ n. listed (base + n) (live segments)) (living_count rows) ∙ live_listed (base + num_living (flags_of rows)) segments)

pub live_postings : (schema : Schema) (analyze : Analyzer) (t : List ℕ) (segments : List Segment) → postings schema analyze t (live segments) ≡ merged_postings 0 (map (λ rows. (flags_of rows, postings schema analyze t (documents_in rows))) segments)
live_postings schema analyze t segments = live_listed schema analyze t 0 segments
