use Rattle.std.proofs.Common.{[], List, ap, length, refl, replicate, true, ◌∷◌, ◌≡◌, ℕ}
use Rattle.std.specs.List.{items_where_true}
use Rattle.definitions.proofs.MergedRows.{live_rows}
use Rattle.segment_definitions.specs.Slots.{slot}
use Rattle.segment_definitions.proofs.segment_laws.slots_are_merged.Goals as goal

all_kept : (kept : List (List ℕ)) → items_where_true (replicate (length kept) true) kept ≡ kept
all_kept [] = refl
all_kept (x ∷ xs) = ap (λ l. x ∷ l) (all_kept xs)

pub returns-clause-living : goal.returns-clause-living
returns-clause-living c schema segments = live_rows (slot schema) segments

pub returns-clause-all : goal.returns-clause-all
returns-clause-all c = all_kept
