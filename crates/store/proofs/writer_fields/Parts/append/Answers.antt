use Rattle.std.proofs.Common.{ap, arith, length, length-append, ◌+◌, ◌≡◌}
use Rattle.store.specs.Stacking.{IsShut}
use Rattle.store.specs.Writing.{blocks_of, written}
use Rattle.store.proofs.Stacked.{count_shut, fit_shifted, stands_stacked}
use Rattle.store.proofs.writer_fields.Parts.append.Goals as goal

pub put_shifted-requires : goal.put_shifted-requires
put_shifted-requires c =
    let r = c.requires.stands in
    let shut : IsShut c.put_pending.new.self (blocks_of (written r.0 r.1 0)) (c.in_ok-docs.docs, c.in_ok-docs.end) = c.in_ok-docs.ensures.ok r.0 r.1 r.2 in
    let docs = shut.docs in
    let bytes = shut.bytes in
    let few = r.3 in
    let covers = c.requires.covers in
    let long = length-append c.put_pending.new.self.out.items c.args.bytes.now in
    let all : length c.extend_from_slice.new.self.items ≡ c.in_ok-docs.end + length c.args.bytes.now = omega (arith, ap length c.in_ok-extend_from_slice.ensures.items, ap length shut.out_is) in
    fit_shifted c.args.reaches.now 0 0 c.in_ok-docs.docs c.in_ok-docs.end c.requires.run (omega (arith, count_shut r.0 r.1)) (omega (arith, c.extend_from_slice.new.self.ok.0))

pub overflow_add-self : goal.overflow_add-self
overflow_add-self c =
    let r = c.requires.stands in
    let shut : IsShut c.put_pending.new.self (blocks_of (written r.0 r.1 0)) (c.in_ok-docs.docs, c.in_ok-docs.end) = c.in_ok-docs.ensures.ok r.0 r.1 r.2 in
    let docs = shut.docs in
    let few = r.3 in
    omega (arith, count_shut r.0 r.1)

pub returns-clause-ok : goal.returns-clause-ok
returns-clause-ok c = λ bs ds more st is whole.
    let shut : IsShut c.put_pending.new.self (blocks_of (written bs ds 0)) (c.in_ok-docs.docs, c.in_ok-docs.end) = c.in_ok-docs.ensures.ok bs ds st in
    stands_stacked c.put_pending.new.self (blocks_of (written bs ds 0)) more c.in_ok-docs.docs c.in_ok-docs.end c.args.bytes.now c.args.reaches.now shut is whole
    c.in_ok-extend_from_slice.ensures.items c.in_ok-put_shifted.ensures.ok c.clear.ensures.items (omega arith) (omega (arith, c.extend_from_slice.new.self.ok.0))
