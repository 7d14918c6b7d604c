-- The groups of segments with alive sets: after a commit, how many documents they have, and by their flags.
use Rattle.std.proofs.Common.{[], ◌+◌, ◌++◌, ◌∙◌, ◌∷◌, ◌≡◌, ◌≤◌, Bool, List, ap, ap₂, arith, cond, count_by, drop, false, length, length-append, map, refl, sum_by, sym, true, ℕ}
use Rattle.std.specs.List.{items_where_true}
use Rattle.std.proofs.lemmas.List.{drop-append-le}
use Rattle.std.proofs.lemmas.List.Sums.{sum_by-cons}
use Rattle.definitions.proofs.Joins.{joined}
use Rattle.definitions.specs.Alive.{live_groups}
use Rattle.definitions.specs.Analyzers.{Analyzer}
use Rattle.definitions.specs.Recorded.{holds}
use Rattle.definitions.specs.Schema.{Schema}
use Rattle.definitions.specs.State.{State, after_commit, as_group, deleted_terms, living}
use Rattle.definitions.specs.Values.{Document}
use Rattle.segment_definitions.proofs.Commits.{commit_groups}
use Rattle.segment_definitions.specs.Rows.{flagged, left_rows}
use Rattle.segment_definitions.specs.Waiting.{Numbered, Waits, pending_rows}
use Rattle.index_state.proofs.EachFlagged.{each_more}
use Rattle.index_state.specs.Flags.{flagged_each}

-- a commit makes these groups of all segments, the one that wasn't full behind the others
pub groups_committed : (schema : Schema) (analyze : Analyzer) (n : ℕ) (s : State) (docs : List (List Document)) (last : List Document) (dels : List Numbered) (alive sets : List (List Bool)) (ts : List (List ℕ))
    → length alive ≤ length docs → s.groups ≡ live_groups (flagged_each docs alive) → Waits n s.pending (drop (length alive) docs) last dels → ts ≡ deleted_terms s.pending
    → flagged_each (docs ++ as_group last) sets ≡ map (left_rows (holds schema analyze) ts) (flagged_each (docs ++ as_group last) alive) ++ pending_rows (holds schema analyze) dels n 0 (drop (length alive) (docs ++ as_group last))
    → (after_commit schema analyze n s).groups ≡ live_groups (flagged_each (docs ++ as_group last) sets)
groups_committed schema analyze n s docs last dels alive sets ts few groups w terms rows =
    let has = holds schema analyze in
    let after = commit_groups schema analyze n s (flagged_each docs alive) (drop (length alive) docs) last dels groups w.docs w.long w.short w.deletions in
    let olds = ap₂ (λ (us : List (List ℕ)) rs. map (left_rows has us) rs) (sym terms) (sym (each_more docs (as_group last) alive few)) in
    let news = ap (λ gs. pending_rows has dels n 0 gs) (sym (drop-append-le (length alive) docs (as_group last) few)) in
    after ∙ ap₂ (λ one more. live_groups (one ++ more)) olds news ∙ ap live_groups (sym rows)

-- ---- how many documents

-- a flag for each document of the first segments
abbrev pub HaveFlags : List (List Document) → List (List Bool) → Type 0
HaveFlags docs [] = Unit {0}
HaveFlags [] (flags ∷ sets) = ⊥
HaveFlags (ds ∷ docs) (flags ∷ sets) = (length flags ≡ length ds) × HaveFlags docs sets

pub living_where : (docs : List Document) (flags : List Bool) → living (flagged docs flags) ≡ items_where_true flags docs
living_where [] [] = refl
living_where [] (flag ∷ flags) = refl
living_where (doc ∷ docs) [] = refl
living_where (doc ∷ docs) (true ∷ flags) = ap (λ ds. doc ∷ ds) (living_where docs flags)
living_where (doc ∷ docs) (false ∷ flags) = living_where docs flags

length-living : (docs : List Document) (flags : List Bool) → length flags ≡ length docs → length (living (flagged docs flags)) ≡ count_by (λ flag. flag) flags
length-living [] [] e = refl
length-living [] (flag ∷ flags) e = absurd (omega (arith, e))
length-living (doc ∷ docs) [] e = absurd (omega (arith, e))
length-living (doc ∷ docs) (true ∷ flags) e =
    let rest = length-living docs flags (omega (arith, e)) in
    let more = sum_by-cons (λ (flag : Bool). cond flag 1 0) true flags in
    omega (arith, rest, more)
length-living (doc ∷ docs) (false ∷ flags) e =
    let rest = length-living docs flags (omega (arith, e)) in
    let more = sum_by-cons (λ (flag : Bool). cond flag 1 0) false flags in
    omega (arith, rest, more)

pub length-groups : (docs : List (List Document)) (sets : List (List Bool)) → HaveFlags docs sets → length (joined (live_groups (flagged_each docs sets))) ≡ sum_by (λ flags. count_by (λ flag. flag) flags) sets
length-groups docs [] h = refl
length-groups [] (flags ∷ sets) h = absurd h
length-groups (ds ∷ docs) (flags ∷ sets) h =
    length-append (living (flagged ds flags)) (joined (live_groups (flagged_each docs sets)))
    ∙ ap₂ (λ (a b : ℕ). a + b) (length-living ds flags h.0) (length-groups docs sets h.1)
    ∙ sym (sum_by-cons (λ flags. count_by (λ flag. flag) flags) flags sets)
