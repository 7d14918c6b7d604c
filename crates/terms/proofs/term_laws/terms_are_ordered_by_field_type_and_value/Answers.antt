use Rattle.std.proofs.Common.{◌++◌, ◌∙◌}
use Rattle.std.specs.Int.{to_be_bytes, w32}
use Rattle.definitions.specs.Terms.{type_code}
use Rattle.terms.proofs.TermOrder.{fields_order, same_front}
use Rattle.terms.proofs.term_laws.terms_are_ordered_by_field_type_and_value.Goals as goal

pub returns : goal.returns
returns c = record {
  field = λ f g k l x y before small. fields_order f g (type_code k ++ x) (type_code l ++ y) before small;
  code = λ f k l x y. same_front (to_be_bytes w32 f) (type_code k ++ x) (type_code l ++ y);
  value = λ f k x y. same_front (to_be_bytes w32 f) (type_code k ++ x) (type_code k ++ y) ∙ same_front (type_code k) x y;
}
