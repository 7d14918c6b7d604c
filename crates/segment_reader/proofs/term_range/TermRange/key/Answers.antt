use Rattle.std.proofs.Common.{ap, arith, length, sym, ◌≡◌}
use Rattle.std.proofs.lemmas.List.{length-take-le}
use Rattle.segment_reader.proofs.term_range.TermRange.key.Goals as goal

pub slice_bounds-result-end : goal.slice_bounds-result-end
slice_bounds-result-end c =
    let items : c.deref.result.now ≡ c.self.inside.buffer.items = c.deref.ensures.value in
    let long = ap length items in
    let within = c.self.invariant.0 in
    sym (length-take-le c.self.inside.key_len c.deref.result.now (omega (arith, long, within)))
