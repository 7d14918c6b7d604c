use Rattle.std.proofs.Common.{List, [], ap₂, subst, sym, ◌∙◌, ◌≡◌}
use Rattle.std.specs.List.{AllByRecursion, AllZip}
use Rattle.definitions.specs.Values.{Document}
use Rattle.segment.specs.Opened.{IsOpened}
use Rattle.segment_definitions.specs.ListBodies.{Member}
use Rattle.segment_definitions.specs.IndexFiles.{IsGroup}
use Rattle.index_state.specs.Flags.{AreFlagged, members}
use Rattle.index_state.proofs.index_state.IndexState.new.Goals as goal

pub of_parts-requires-clause-opened : goal.of_parts-requires-clause-opened
of_parts-requires-clause-opened g c = subst (AllByRecursion (IsOpened c.args.schema)) (sym c.new-segments.ensures.items) tt

pub of_parts-requires-clause-flagged : goal.of_parts-requires-clause-flagged
of_parts-requires-clause-flagged g c = subst (AreFlagged c.new-segments.result.items) (sym c.new-alive.ensures.items) tt

pub returns-clause-stands : goal.returns-clause-stands
returns-clause-stands g c =
    let none : members c.new-segments.result.items c.new-alive.result.items ≡ [] = ap₂ members c.new-segments.ensures.items c.new-alive.ensures.items in
    let no_groups : List (List Document) = [] in
    c.of_parts.ensures.stands no_groups (subst (λ (ms : List Member). AllZip (IsGroup c.args.schema (g.A.Analyzer.analyze c.args.analyzer)) ms no_groups) (sym none) tt)

pub returns-clause-none : goal.returns-clause-none
returns-clause-none g c = c.of_parts.ensures.members ∙ ap₂ members c.new-segments.ensures.items c.new-alive.ensures.items
