use Rattle.std.proofs.Common.{◌%◌, ◌*◌, ◌/◌, ◌+◌, ◌≤◌, ◌∙◌, ap, arith, length}
use Rattle.postings_writer.proofs.PackedKeys.{all_bytes, few_number, middle_number}
use Rattle.postings_writer.proofs.packed_key.padded.Goals as goal

pub returns-then-len-lt4 : goal.returns-then-len-lt4
returns-then-len-lt4 c = few_number c.args.bytes.now (all_bytes c.args.bytes.now (λ i. omega (arith, c.type_inv.bytes i))) c.lowest_first.result c.read_few.result c.lowest_first.ensures c.read_few.ensures

pub returns : goal.returns
returns c =
    let bytes = c.args.bytes.now in
    let few : length bytes ≤ 7 = (let r = c.requires in omega (arith, r)) in
    let some : 4 ≤ length bytes = (let f = c.if-len-lt4.false in omega (arith, f)) in
    ap (λ n. c.read_u32.result * 4294967296 % 18446744073709551616 + n / 4294967296) c.lowest_first-2.ensures
    ∙ middle_number bytes (all_bytes bytes (λ i. omega (arith, c.type_inv.bytes i))) some few c.read_u32.result c.read_u32-2.result c.read_u32.ensures c.read_u32-2.ensures
