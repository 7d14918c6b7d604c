use Rattle.std.proofs.Common.{ap₂, map, subst, sym, ◌∙◌, ◌≡◌}
use Rattle.std.specs.List.{AllByRecursion, AllZip}
use Rattle.segment.specs.Opened.{IsOpened}
use Rattle.index_file.specs.Lists.{member_of}
use Rattle.segment_definitions.specs.IndexFiles.{IsGroup}
use Rattle.index_state.proofs.Parted.{all_flagged, all_opened, parts_are}
use Rattle.index_state.specs.Flags.{AreFlagged, members}
use Rattle.index_state.specs.Parts.{segment_in}
use Rattle.index_state.proofs.index_state.IndexState.of_members.Goals as goal

pub of_parts-requires-clause-opened : goal.of_parts-requires-clause-opened
of_parts-requires-clause-opened g c = subst (AllByRecursion (IsOpened c.args.schema)) (sym c.in-Ok.ensures.segments) (all_opened c.args.schema c.args.members.items c.requires.listed)

pub of_parts-requires-clause-flagged : goal.of_parts-requires-clause-flagged
of_parts-requires-clause-flagged g c =
    let listed = c.args.members.items in
    let sets = c.in-Ok.alive.items in
    subst (λ ss. AreFlagged ss sets) (sym c.in-Ok.ensures.segments) (subst (AreFlagged (map segment_in listed)) (sym c.in-Ok.ensures.alive) (all_flagged c.args.schema listed c.requires.listed))

pub returns-in-Ok-clause-stands : goal.returns-in-Ok-clause-stands
returns-in-Ok-clause-stands g c groups h =
    let listed = c.args.members.items in
    let same : members c.in-Ok.segments.items c.in-Ok.alive.items ≡ map member_of listed = ap₂ members c.in-Ok.ensures.segments c.in-Ok.ensures.alive ∙ parts_are listed in
    c.of_parts.ensures.stands groups (subst (λ ms. AllZip (IsGroup c.args.schema (g.A.Analyzer.analyze c.args.analyzer)) ms groups) (sym same) h)

pub returns-in-Ok-clause-members : goal.returns-in-Ok-clause-members
returns-in-Ok-clause-members g c = c.of_parts.ensures.members ∙ ap₂ members c.in-Ok.ensures.segments c.in-Ok.ensures.alive ∙ parts_are c.args.members.items
