use Rattle.std.proofs.Common.{if◌then◌else◌, ◌∙◌}
use Rattle.std.specs.Int.{to_be_bytes, w64}
use Rattle.definitions.specs.Schema.{bool_kind}
use Rattle.terms.proofs.TermOrder.{bool_order, same_kind}
use Rattle.terms.proofs.term_laws.terms_of_bools_are_ordered_as_these.Goals as goal

pub returns : goal.returns
returns c f b d = same_kind f bool_kind (to_be_bytes w64 (if b then 1 else 0)) (to_be_bytes w64 (if d then 1 else 0)) ∙ bool_order b d
