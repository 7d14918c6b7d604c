use Rattle.std.proofs.Common.{[], subst, sym}
use Rattle.std.specs.List.{AllZip}
use Rattle.engine.proofs.FileSayings.{fresh_leaves_none}
use Rattle.engine.specs.Files.{LeavesMembers}
use Rattle.engine.specs.Indexes.{members_of, schema_of, settings_of}
use Rattle.segment_definitions.specs.IndexFiles.{IsGroup}
use Rattle.engine.proofs.file_laws.a_crashed_create_leaves_no_documents.Goals as goal

pub returns : goal.returns
returns g c analyze image device fresh honest holds opened =
    let index = c.args.opened.now in
    let leaves = subst (LeavesMembers (schema_of index) (settings_of index) (members_of index)) holds (opened.file honest) in
    let none = fresh_leaves_none (schema_of index) (settings_of index) (members_of index) image leaves fresh in
    opened.stands [] (subst (λ ms. AllZip (IsGroup (schema_of index) analyze) ms []) (sym none) tt)
