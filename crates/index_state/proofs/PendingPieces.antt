-- The documents that wait, in as many pieces as there are new segments after a commit.
use Rattle.std.proofs.Common.{[], ◌++◌, ◌+◌, ◌<◌, ◌∙◌, ◌∷◌, ◌≡◌, Bool, List, ap, ap₂, false, length, map, refl, suc, sym, ℕ}
use Rattle.definitions.proofs.DocumentBounds.{pieces-map}
use Rattle.definitions.proofs.Joins.{joined}
use Rattle.definitions.specs.State.{Pending, as_group, pieces}
use Rattle.definitions.specs.Values.{Document}
use Rattle.segment_definitions.proofs.RowsLeft.{pieces-rows}
use Rattle.segment_definitions.specs.Waiting.{AllLong, Numbered, Waits, docs_of, numbered_rows, pending_rows}

-- the documents of rows are those that were numbered
docs_numbered : (has : List ℕ → Document → Bool) (dels : List Numbered) (i : ℕ) (docs : List Document) → map (λ row. row.0) (numbered_rows has dels i docs) ≡ docs
docs_numbered has dels i [] = refl
docs_numbered has dels i (doc ∷ docs) = ap (λ ds. doc ∷ ds) (docs_numbered has dels (suc i) docs)

docs_pending : (has : List ℕ → Document → Bool) (dels : List Numbered) (n i : ℕ) (docs : List (List Document)) → map (map (λ row. row.0)) (pending_rows has dels n i docs) ≡ docs
docs_pending has dels n i [] = refl
docs_pending has dels n i (ds ∷ docs) = ap₂ (λ one more. one ∷ more) (docs_numbered has dels i ds) (docs_pending has dels n (i + n) docs)

pub length-pending : (has : List ℕ → Document → Bool) (dels : List Numbered) (n i : ℕ) (docs : List (List Document)) → length (pending_rows has dels n i docs) ≡ length docs
length-pending has dels n i [] = refl
length-pending has dels n i (ds ∷ docs) = ap suc (length-pending has dels n (i + n) docs)

-- full segments and the one that isn't are the pieces of their documents
pieces_written : (n : ℕ) (full : List (List Document)) (last : List Document) → AllLong n full → length last < n → pieces n (joined full ++ last) ≡ full ++ as_group last
pieces_written n full last long short =
    let has : List ℕ → Document → Bool = λ t doc. false in
    let docs = joined full ++ last in
    sym (ap (pieces n) (docs_numbered has [] 0 docs))
    ∙ pieces-map (λ row. row.0) n (numbered_rows has [] 0 docs)
    ∙ ap (map (map (λ row. row.0))) (pieces-rows has [] n full last long short)
    ∙ docs_pending has [] n 0 (full ++ as_group last)

-- what waits is the pieces of the documents that wait
pub pieces_waiting : (n : ℕ) (pending : List Pending) (full : List (List Document)) (last : List Document) (dels : List Numbered) → Waits n pending full last dels → pieces n (docs_of pending) ≡ full ++ as_group last
pieces_waiting n pending full last dels w = ap (pieces n) w.docs ∙ pieces_written n full last w.long w.short
