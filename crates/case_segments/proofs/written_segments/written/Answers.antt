use Rattle.std.proofs.Common.{[], arith}
use Rattle.case_segments.proofs.written_segments.written.Goals as goal

pub add_all-requires : goal.add_all-requires
add_all-requires c = (_, [], c.in_ok-writer.ensures.ok _)

pub close-requires : goal.close-requires
close-requires c =
    let all = c.in_ok-add_all.ensures in
    let many = c.num_docs.ensures c.args.schema.now _ all.0 all.1 all.2 in
    let some = c.if-num_docs-eq0.false in
    ∣ (_, all.0, all.1, all.2, omega (arith, many, some)) ∣₁
