-- Members of a list of segments, and the groups that they stand for.
use Rattle.std.proofs.Common.{[], ◌∙◌, ◌∷◌, ◌≡◌, Bool, List, ap, ap₂, arith, length, refl, suc, sym, take, zero, ℕ}
use Rattle.std.specs.List.{AllByRecursion, AllZip}
use Rattle.definitions.specs.Alive.{live_groups}
use Rattle.definitions.specs.Analyzers.{Analyzer}
use Rattle.definitions.specs.Schema.{Schema}
use Rattle.definitions.specs.Values.{Document}
use Rattle.segment.specs.Opened.{IsOpened, StandsFor}
use Rattle.segment.specs.declared.segment.Segment as code
use Rattle.segment_definitions.specs.IndexFiles.{IsGroup}
use Rattle.segment_definitions.specs.Rows.{flagged}
use Rattle.index_state.proofs.Groups.{living_where}
use Rattle.segment_search.proofs.RowsRead.{docs_counted}
use Rattle.index_state.specs.Flags.{AreFlagged, flagged_each, members}

pub zip_take : {X Y : Type 0} (R : X → Y → Type 0) (xs : List X) (ys : List Y) (n : ℕ) → AllZip R xs ys → AllZip R (take n xs) (take n ys)
zip_take R xs ys zero h = tt
zip_take R [] [] (suc n) h = tt
zip_take R [] (y ∷ ys) (suc n) h = absurd h
zip_take R (x ∷ xs) [] (suc n) h = absurd h
zip_take R (x ∷ xs) (y ∷ ys) (suc n) h = (h.0, zip_take R xs ys n h.1)

pub each_take : (docs : List (List Document)) (sets : List (List Bool)) → flagged_each (take (length sets) docs) sets ≡ flagged_each docs sets
each_take docs [] = refl
each_take [] (flags ∷ sets) = refl
each_take (ds ∷ docs) (flags ∷ sets) = ap (λ rows. flagged ds flags ∷ rows) (each_take docs sets)

-- the living documents of each member are its group
pub in_groups : (schema : Schema) (analyze : Analyzer) (docs : List (List Document)) (segments : List code.Segment) (sets : List (List Bool)) → AllZip (StandsFor schema analyze) docs segments → AreFlagged segments sets → AllZip (IsGroup schema analyze) (members segments sets) (live_groups (flagged_each docs sets))
in_groups schema analyze [] [] [] h f = tt
in_groups schema analyze [] (s ∷ segments) [] h f = tt
in_groups schema analyze (ds ∷ docs) [] [] h f = tt
in_groups schema analyze (ds ∷ docs) (s ∷ segments) [] h f = tt
in_groups schema analyze docs [] (flags ∷ sets) h f = absurd f
in_groups schema analyze [] (s ∷ segments) (flags ∷ sets) h f = absurd h
in_groups schema analyze (ds ∷ docs) (s ∷ segments) (flags ∷ sets) h f = (
  record { docs = ds; segment = h.0.bytes_are; flagged = f.0 ∙ sym (docs_counted schema analyze ds s h.0); living = living_where ds flags },
  in_groups schema analyze docs segments sets h.1 f.1,
)

-- segments of documents, of which the living are these groups
pub record AreOf (schema : Schema) (analyze : Analyzer) (segments : List code.Segment) (sets : List (List Bool)) (groups : List (List Document)) : Type 0 where
  pub docs : List (List Document)
  pub shown : AllZip (StandsFor schema analyze) docs segments
  pub groups_are : groups ≡ live_groups (flagged_each docs sets)
  pub each : length sets ≡ length docs

pub of_groups : (schema : Schema) (analyze : Analyzer) (segments : List code.Segment) (sets : List (List Bool)) (groups : List (List Document)) → AllByRecursion (IsOpened schema) segments → length sets ≡ length segments → AllZip (IsGroup schema analyze) (members segments sets) groups → AreOf schema analyze segments sets groups
of_groups schema analyze [] [] [] o e h = record { docs = []; shown = tt; groups_are = refl; each = refl }
of_groups schema analyze [] [] (group ∷ groups) o e h = absurd h
of_groups schema analyze [] (flags ∷ sets) groups o e h = absurd (omega (arith, e))
of_groups schema analyze (s ∷ segments) [] groups o e h = absurd (omega (arith, e))
of_groups schema analyze (s ∷ segments) (flags ∷ sets) [] o e h = absurd h
of_groups schema analyze (s ∷ segments) (flags ∷ sets) (group ∷ groups) o e h =
    let rest = of_groups schema analyze segments sets groups o.1 (omega (arith, e)) h.1 in
    let one : StandsFor schema analyze h.0.docs s = record { opened = o.0; bytes_are = h.0.segment } in
    record {
      docs = h.0.docs ∷ rest.docs;
      shown = (one, rest.shown);
      groups_are = ap₂ (λ (d : List Document) ds. d ∷ ds) (h.0.living ∙ sym (living_where h.0.docs flags)) rest.groups_are;
      each = ap suc rest.each;
    }
