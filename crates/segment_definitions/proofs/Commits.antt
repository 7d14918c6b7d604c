-- What a commit leaves.
use Rattle.std.proofs.Common.{ap, ap₂, filter, map, not, sym, ◌++◌, ◌<◌, ◌∙◌, ◌≡◌, List, length, ℕ}
use Rattle.std.specs.List.{list_any}
use Rattle.std.proofs.lemmas.List.{map-append}
use Rattle.definitions.proofs.Joins.{joined}
use Rattle.definitions.specs.Alive.{Segment}
use Rattle.definitions.specs.Analyzers.{Analyzer}
use Rattle.definitions.specs.Recorded.{holds}
use Rattle.definitions.specs.Schema.{Schema}
use Rattle.definitions.specs.State.{State, after_commit, as_group, deleted_terms, living, pieces}
use Rattle.definitions.specs.Values.{Document}
use Rattle.segment_definitions.proofs.RowsLeft.{living_lefts, marked_rows, pieces-rows}
use Rattle.segment_definitions.specs.Rows.{left_rows}
use Rattle.segment_definitions.specs.Waiting.{AllLong, Numbered, deletions_from, docs_of, numbered_rows, pending_rows}

-- the rows after a commit: those of committed segments without what is deleted, and those of pending ones
pub commit_groups : (schema : Schema) (analyze : Analyzer) (n : ℕ) (s : State) (rowss : List Segment) (gs : List (List Document)) (w : List Document) (dels : List Numbered)
    → s.groups ≡ map living rowss → docs_of s.pending ≡ joined gs ++ w → AllLong n gs → length w < n → deletions_from 0 s.pending ≡ dels
    → (after_commit schema analyze n s).groups ≡ map living (map (left_rows (holds schema analyze) (deleted_terms s.pending)) rowss ++ pending_rows (holds schema analyze) dels n 0 (gs ++ as_group w))
commit_groups schema analyze n s rowss gs w dels seen docs long short numbered =
    let has = holds schema analyze in
    let old = ap (map (filter (λ doc. not (list_any (λ t. has t doc) (deleted_terms s.pending))))) seen ∙ sym (living_lefts has (deleted_terms s.pending) rowss) in
    let marks = marked_rows schema analyze s.pending 0 ∙ ap₂ (λ ds docs. numbered_rows has ds 0 docs) numbered docs in
    let new = ap (pieces n) marks ∙ pieces-rows has dels n gs w long short in
    ap₂ (λ one more. one ++ map living more) old new ∙ sym (map-append living (map (left_rows has (deleted_terms s.pending)) rowss) (pending_rows has dels n 0 (gs ++ as_group w)))
