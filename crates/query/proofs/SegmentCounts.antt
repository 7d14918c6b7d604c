-- Living documents that match, counted segment by segment.
use Rattle.std.proofs.Common.{[], List, arith, cond, false, refl, sum_by, true, ◌&&◌, ◌∷◌, ◌≡◌}
use Rattle.std.proofs.lemmas.List.Sums.{sum_by-append, sum_by-cons}
use Rattle.definitions.specs.Alive.{Segment, live}
use Rattle.definitions.specs.Analyzers.{Analyzer}
use Rattle.definitions.specs.Answers.{living_count}
use Rattle.definitions.specs.Matching.{matches}
use Rattle.definitions.specs.Query.{Query}
use Rattle.definitions.specs.Scanning.{scan_count}
use Rattle.definitions.specs.Schema.{Schema}
use Rattle.definitions.specs.State.{living}

module _ (schema : Schema) (analyze : Analyzer) (q : Query) where
  -- the living documents of a segment
  living_scanned : (rows : Segment) → living_count schema analyze q rows ≡ scan_count schema analyze (living rows) q
  living_scanned [] = refl
  living_scanned ((doc, true) ∷ rows) =
      let more = sum_by-cons (λ row. cond (row.1 && matches schema analyze row.0 q) 1 0) (doc, true) rows in
      let scanned = sum_by-cons (λ doc. cond (matches schema analyze doc q) 1 0) doc (living rows) in
      let rest = living_scanned rows in
      omega (arith, more, scanned, rest)
  living_scanned ((doc, false) ∷ rows) =
      let more = sum_by-cons (λ row. cond (row.1 && matches schema analyze row.0 q) 1 0) (doc, false) rows in
      let rest = living_scanned rows in
      omega (arith, more, rest)

  -- those of several segments
  pub counts_add_up : (segments : List Segment) → sum_by (living_count schema analyze q) segments ≡ scan_count schema analyze (live segments) q
  counts_add_up [] = refl
  counts_add_up (rows ∷ segments) =
      let more = sum_by-cons (living_count schema analyze q) rows segments in
      let here = living_scanned rows in
      let rest = counts_add_up segments in
      let both = sum_by-append (λ doc. cond (matches schema analyze doc q) 1 0) (living rows) (live segments) in
      omega (arith, more, here, rest, both)
