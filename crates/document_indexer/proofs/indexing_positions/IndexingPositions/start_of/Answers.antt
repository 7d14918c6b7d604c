use Rattle.std.proofs.Common.{ap, eq-eqb, false, ne_eqb, sym, true, ◌∙◌}
use Rattle.std.specs.Option.{option_copied}
use Rattle.document_indexer.proofs.KeptStarts.{start_found, start_missing}
use Rattle.document_indexer.proofs.indexing_positions.IndexingPositions.start_of.Goals as goal

pub returns-in-Some : goal.returns-in-Some
returns-in-Some c = start_found c.self.inside.starts c.args.self.now c.args.prefix.now c.args.doc c.in-Some.field-0.now true c.self.view_is c.in-Some.ensures.value (eq-eqb _ _ c.if-last-doc.true)

pub returns-in_default : goal.returns-in_default
returns-in_default c = start_found c.self.inside.starts c.args.self.now c.args.prefix.now c.args.doc c.in-Some.field-0.now false c.self.view_is c.in-Some.ensures.value (ne_eqb _ _ c.if-last-doc.false)

pub returns-in_default-2 : goal.returns-in_default-2
returns-in_default-2 c = start_missing c.self.inside.starts c.args.self.now c.args.prefix.now c.args.doc c.self.view_is (sym (ap option_copied c.in_default.is) ∙ c.get.ensures.value)
