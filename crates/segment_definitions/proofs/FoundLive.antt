-- The addresses over segments are those of the living documents that match, in their order.
use Rattle.std.proofs.Common.{[], ◌++◌, ◌+◌, ◌∙◌, ◌∷◌, ◌≡◌, Bool, List, None, Some, ap, ap₂, append_assoc, arith, false, filter, filter_map, get_or, if◌then◌else◌, length, length-append, map, refl, subst, suc, sym, take, true, ℕ}
use Rattle.std.specs.List.{cons_option, enumerate_from}
use Rattle.std.proofs.Math.Seq.{get_or-append_seam}
use Rattle.std.proofs.lemmas.List.{map-append, take-map}
use Rattle.std.proofs.lemmas.List.Elements.{filter_map-append}
use Rattle.definitions.proofs.Ranking.{map-ranked}
use Rattle.definitions.specs.Alive.{Segment, live}
use Rattle.definitions.specs.Analyzers.{Analyzer}
use Rattle.definitions.specs.Answers.{answer_at}
use Rattle.definitions.specs.Matching.{matches}
use Rattle.definitions.specs.Query.{Query}
use Rattle.definitions.specs.Scanning.{Hit, hit_of, ranked, scan}
use Rattle.definitions.specs.Schema.{Schema}
use Rattle.definitions.specs.Scoring.{Similarity, score}
use Rattle.definitions.specs.State.{living}
use Rattle.definitions.specs.Stored.{stored_values}
use Rattle.definitions.specs.Values.{Document}
use Rattle.segment_definitions.specs.Found.{places_from, places_in, shown_at}

abbrev no_row : Document × Bool
no_row = ([], false)

-- the row behind those before it
row_at : (full before rows : Segment) (row : Document × Bool) → full ≡ before ++ row ∷ rows → get_or full (length before) no_row ≡ row
row_at full before rows row e = ap (λ xs. get_or xs (length before) no_row) e ∙ get_or-append_seam before row rows no_row

flag_at_index : (full before rows : Segment) (row : Document × Bool) → full ≡ before ++ row ∷ rows → get_or (map (λ (r : Document × Bool). r.1) full) (length before) false ≡ row.1
flag_at_index full before rows row e =
    let flags = map (λ (r : Document × Bool). r.1) before in
    let rest = map (λ (r : Document × Bool). r.1) rows in
    ap (λ xs. get_or (map (λ (r : Document × Bool). r.1) xs) (length before) false) e
    ∙ ap (λ xs. get_or xs (length before) false) (map-append (λ (r : Document × Bool). r.1) before (row ∷ rows))
    ∙ subst (λ n. get_or (flags ++ row.1 ∷ rest) n false ≡ row.1) (length-flags before) (get_or-append_seam flags row.1 rest false)
  where
    length-flags : (rows : Segment) → length (map (λ (r : Document × Bool). r.1) rows) ≡ length rows
    length-flags [] = refl
    length-flags (r ∷ rows) = ap suc (length-flags rows)

module _ (schema : Schema) (analyze : Analyzer) (sim : Similarity) (q : Query) where
  -- the answers of rows that are numbered from one on
  abbrev listed : ℕ → Segment → List (ℕ × ℕ)
  listed k rows = filter_map (answer_at schema analyze sim 1 q) (enumerate_from k (map (λ row. row.0) rows))

  -- what is shown of an answer
  abbrev shown : Segment → ℕ × ℕ → Hit
  shown full p = (p.1, stored_values schema (get_or full p.0 no_row).0)

  abbrev is_alive : Segment → ℕ × ℕ → Bool
  is_alive full p = get_or (map (λ row. row.1) full) p.0 false

  abbrev hits : List Document → List Hit
  hits docs = filter_map (hit_of schema analyze sim q) docs

  rows_found : (full before rows : Segment) → full ≡ before ++ rows → map (shown full) (filter (is_alive full) (listed (length before) rows)) ≡ hits (living rows)
  rows_found full before [] e = refl
  rows_found full before (row ∷ rows) e =
      let here = row_at full before rows row e in
      let flag = flag_at_index full before rows row e in
      let more = rows_found full (before ++ row ∷ []) rows (e ∙ sym (append_assoc before (row ∷ []) rows)) in
      let next : length (before ++ row ∷ []) ≡ length before + 1 = length-append before (row ∷ []) in
      let rest = subst (λ n. map (shown full) (filter (is_alive full) (listed n rows)) ≡ hits (living rows)) next more in
      go (matches schema analyze row.0 q) row.1 flag rest (ap (λ (r : Document × Bool). stored_values schema r.0) here) ∙ sym (split row.1)
    where
      k : ℕ
      k = length before

      points : ℕ
      points = score schema analyze sim row.0 1 q

      left : List (ℕ × ℕ)
      left = listed (k + 1) rows

      kept : Segment
      kept = filter (λ r. r.1) rows

      split : (flag : Bool) → hits (map (λ r. r.0) (if flag then row ∷ kept else kept)) ≡ (if flag then hits (row.0 ∷ map (λ r. r.0) kept) else hits (map (λ r. r.0) kept))
      split true = refl
      split false = refl

      go : (m flag : Bool) → is_alive full (k, points) ≡ flag → map (shown full) (filter (is_alive full) left) ≡ hits (map (λ r. r.0) kept) → stored_values schema (get_or full k no_row).0 ≡ stored_values schema row.0
          → map (shown full) (filter (is_alive full) (cons_option (if m then Some (k, points) else None) left))
          ≡ (if flag then cons_option (if m then Some (points, stored_values schema row.0) else None) (hits (map (λ r. r.0) kept)) else hits (map (λ r. r.0) kept))
      go false true same rest here = rest
      go false false same rest here = rest
      go true true same rest here = ap (λ (b : Bool). map (shown full) (if b then (k, points) ∷ filter (is_alive full) left else filter (is_alive full) left)) same ∙ ap₂ (λ v hs. (points, v) ∷ hs) here rest
      go true false same rest here = ap (λ (b : Bool). map (shown full) (if b then (k, points) ∷ filter (is_alive full) left else filter (is_alive full) left)) same ∙ rest

  -- what is shown of a segment that stands behind others
  shown_behind : (full before more : List Segment) (rows : Segment) (ps : List (ℕ × ℕ)) → full ≡ before ++ rows ∷ more → map (shown_at schema full) (map (λ p. record { segment = length before; doc = p.0; score = p.1 }) ps) ≡ map (shown rows) ps
  shown_behind full before more rows [] e = refl
  shown_behind full before more rows (p ∷ ps) e =
      let here : get_or full (length before) [] ≡ rows = ap (λ xs. get_or xs (length before) []) e ∙ get_or-append_seam before rows more [] in
      ap₂ (λ (r : Segment) hs. (p.1, stored_values schema (get_or r p.0 no_row).0) ∷ hs) here (shown_behind full before more rows ps e)

  segments_found : (full before more : List Segment) → full ≡ before ++ more → map (shown_at schema full) (places_from schema analyze sim q (length before) more) ≡ hits (live more)
  segments_found full before [] e = refl
  segments_found full before (rows ∷ more) e =
      let n = length before in
      let ps = filter (is_alive rows) (listed 0 rows) in
      let next : length (before ++ rows ∷ []) ≡ suc n = length-append before (rows ∷ []) ∙ omega arith in
      let others = segments_found full (before ++ rows ∷ []) more (e ∙ sym (append_assoc before (rows ∷ []) more)) in
      let rest = subst (λ m. map (shown_at schema full) (places_from schema analyze sim q m more) ≡ hits (live more)) next others in
      map-append (shown_at schema full) (places_in schema analyze sim q n rows) (places_from schema analyze sim q (suc n) more)
      ∙ ap₂ (λ (xs ys : List Hit). xs ++ ys) (shown_behind full before more rows ps e ∙ rows_found rows [] rows refl) rest
      ∙ sym (filter_map-append (hit_of schema analyze sim q) (living rows) (live more))

-- the best addresses over segments, shown, are a scan of their living documents
pub best_is_scan : (schema : Schema) (analyze : Analyzer) (sim : Similarity) (q : Query) (rows : List Segment) (k : ℕ) → map (shown_at schema rows) (take k (ranked (λ p. p.score) (places_from schema analyze sim q 0 rows))) ≡ scan schema analyze sim (live rows) q k
best_is_scan schema analyze sim q rows k =
    let addresses = places_from schema analyze sim q 0 rows in
    sym (take-map (shown_at schema rows) k (ranked (λ p. p.score) addresses))
    ∙ ap (take k) (map-ranked (shown_at schema rows) (λ p. p.score) (λ h. h.0) (λ p. refl) addresses)
    ∙ ap (λ hs. take k (ranked (λ h. h.0) hs)) (segments_found schema analyze sim q rows [] rows refl)
