use Rattle.std.proofs.Common.{arith, refl, subst, sym}
use Rattle.std.proofs.Math.Logic.{∥∥₁_map}
use Rattle.segment_reader.proofs.KeptParts.{number_there, part_shaped}
use Rattle.segment_reader.specs.KeptTerms.{AreShaped, placed_terms}
use Rattle.segment_reader.proofs.term_dictionary.range_from.Goals as goal

pub new-requires : goal.new-requires
new-requires c = ∥∥₁_map c.requires (λ k. subst (AreShaped c.args.section.now) (sym c.shape_from-part.ensures) (part_shaped c.args.section.now c.args.shape c.args.starts.now (omega arith) k _).shaped)

pub returns : goal.returns
returns c = number_there c.args.section.now c.args.shape c.args.starts.now (omega arith) c.requires c.args.number c.terms_in_block-size.result (placed_terms c.args.section.now c.args.shape) c.in_ok-range.range c.skip.new.self c.shape_from-part.result c.terms_in_block-size.ensures refl c.shape_from-part.ensures c.in_ok-range.ensures c.skip.ensures
