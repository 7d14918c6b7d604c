use Rattle.std.proofs.Common.{◌%◌, ◌*◌, ◌+◌, ◌≡◌, ◌≤◌, ◌∙◌, ap₂, arith, length}
use Rattle.postings_writer.specs.PackedKeys.{IsShort, packed}
use Rattle.postings_writer.proofs.PackedKeys.{all_bytes, long_number, packed_below, short_number}
use Rattle.postings_writer.proofs.packed_key.packed.Goals as goal

pub returns-then-len-lt8-clause-is : goal.returns-then-len-lt8-clause-is
returns-then-len-lt8-clause-is c =
    let key = c.args.key.now in
    short_number key (all_bytes key (λ i. omega (arith, c.type_inv.key i))) (let few = c.if-len-lt8.true in omega (arith, few)) c.from.result (c.from.ensures ∙ c.padded.ensures) (let fits = c.padded.type_inv in let same = c.from.ensures in omega (arith, fits, same))

pub returns-then-len-lt8-clause-packed : goal.returns-then-len-lt8-clause-packed
returns-then-len-lt8-clause-packed c = record {
  key = c.args.key.now;
  is_short = record { bytes = all_bytes c.args.key.now (λ i. omega (arith, c.type_inv.key i)); short = c.requires };
  packed_is = returns-then-len-lt8-clause-is c;
}

pub returns-clause-is : goal.returns-clause-is
returns-clause-is c =
    let key = c.args.key.now in
    let some : 8 ≤ length key = (let f = c.if-len-lt8.false in omega (arith, f)) in
    ap₂ (λ a b. a * 18446744073709551616 % 340282366920938463463374607431768211456 + b + length key) c.from-2.ensures (c.from-3.ensures ∙ c.lowest_first-rest.ensures)
    ∙ long_number key (all_bytes key (λ i. omega (arith, c.type_inv.key i))) some c.requires c.read_u64-2.result c.read_u64.result c.read_u64-2.ensures c.read_u64.ensures

pub returns-clause-packed : goal.returns-clause-packed
returns-clause-packed c = record {
  key = c.args.key.now;
  is_short = record { bytes = all_bytes c.args.key.now (λ i. omega (arith, c.type_inv.key i)); short = c.requires };
  packed_is = returns-clause-is c;
}

pub overflow_add-result-3 : goal.overflow_add-result-3
overflow_add-result-3 c =
    let key = c.args.key.now in
    let some : 8 ≤ length key = (let f = c.if-len-lt8.false in omega (arith, f)) in
    let short : IsShort key = record { bytes = all_bytes key (λ i. omega (arith, c.type_inv.key i)); short = c.requires } in
    let is : c.from-2.result * 18446744073709551616 % 340282366920938463463374607431768211456 + c.from-3.result + length key ≡ packed key =
    ap₂ (λ a b. a * 18446744073709551616 % 340282366920938463463374607431768211456 + b + length key) c.from-2.ensures (c.from-3.ensures ∙ c.lowest_first-rest.ensures)
    ∙ long_number key short.bytes some c.requires c.read_u64-2.result c.read_u64.result c.read_u64-2.ensures c.read_u64.ensures in
    let below = packed_below key short in
    omega (arith, is, below)
