use Rattle.std.proofs.Common.{◌∙◌}
use Rattle.std.specs.Int.{to_be_bytes, w128, w64}
use Rattle.definitions.specs.Schema.{i64_kind, ip_addr_kind, u64_kind}
use Rattle.definitions.specs.Terms.{signed_bytes}
use Rattle.terms.proofs.TermOrder.{below_order, same_kind, signed_order}
use Rattle.terms.proofs.term_laws.terms_of_numbers_are_ordered_as_these.Goals as goal

pub returns : goal.returns
returns c = record {
  unsigned = λ f m n small below. same_kind f u64_kind (to_be_bytes w64 m) (to_be_bytes w64 n) ∙ below_order 8 m n small below;
  signed = λ f y z first second. same_kind f i64_kind (signed_bytes y) (signed_bytes z) ∙ signed_order y z first second;
  address = λ f m n small below. same_kind f ip_addr_kind (to_be_bytes w128 m) (to_be_bytes w128 n) ∙ below_order 16 m n small below;
}
