use Rattle.std.proofs.Common.{arith, get_or, nat_lt, of_calls, rules}
use Rattle.std.proofs.lemmas.Bool.{lt-ltb, ltb-true}
use Rattle.std.proofs.lemmas.Fn.{always_returns_same}
use Rattle.segment_reader.proofs.NumbersFound.{first_found, numbers_rise}
use Rattle.segment_reader.specs.declared.field_index.FieldIndex.{FieldIndex}
use Rattle.segment_reader.proofs.field_lookup.first_from.Goals as goal

pub returns : goal.returns
returns c =
    let is = c.args.indexes.now in
    let field = c.args.field in
    let parts = c.partition_point.ensures.partitioned (λ (i : FieldIndex). nat_lt i.kind.field field) (always_returns_same _ _ _ (λ a r f k. search (rules, of_calls))) (λ i j d order within h.
    let later = ltb-true (get_or is j d).kind.field field h in
    let rise = numbers_rise 0 is i j d c.requires order within in
    lt-ltb (get_or is i d).kind.field field (omega (arith, later, rise))) in
    first_found field is c.partition_point.result c.partition_point.ensures.bound parts
