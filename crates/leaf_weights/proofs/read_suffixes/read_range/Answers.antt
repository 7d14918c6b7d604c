use Rattle.std.proofs.Common.{[], Some, ap, arith, length, subst, ◌≡◌, ◌∷◌}
use Rattle.std.proofs.lemmas.List.{length-append}
use Rattle.std.specs.List.{AllByRecursion}
use Rattle.segment_reader.specs.Dictionaries.{Placed}
use Rattle.segment_reader.specs.Readers.{dictionary_in, info_in}
use Rattle.leaf_weights.proofs.RangesRead.{bytes_more, first_taken, read_more, stepped}
use Rattle.leaf_weights.proofs.read_suffixes.read_range.Goals as goal

pub loop-left-preserved : goal.loop-left-preserved
loop-left-preserved c =
    let here = stepped c.loop-left.range.here c.loop-left.range.rest c.advance.new.self c.key.result.now c.value.result.now c.advance.ensures.next c.key.ensures c.value.ensures in
    let first = first_taken c.loop-left.left c.loop-left.range.rest c.advance.new.self.rest (c.key.result.now, c.value.result.now) (omega (arith, c.loop-left-test.true)) here in
    let many = length-append c.loop-left.read.items (c.read_suffix.result ∷ []) in
    let counted = c.loop-left.invariant.3 in
    let items = ap length c.in_ok-push.ensures.items in
    let some = c.loop-left-test.true in (
      λ contents. read_more contents.fields c.args.field c.loop-left.read.items c.push.new.self.items c.read_suffix.result _ _ _ (c.key.result.now, c.value.result.now) c.in_ok-push.ensures.items first (c.read_suffix.ensures.found contents) (c.loop-left.invariant.0 contents),
      λ rest. c.loop-left.invariant.1 (bytes_more _ _ (c.key.result.now, c.value.result.now) first c.read_suffix.ensures.bytes rest),
      (subst (AllByRecursion (λ (d : Placed). info_in d.0 (dictionary_in c.args.index.now c.args.field) ≡ Some d.1)) here c.loop-left.invariant.2).1,
      omega (arith, many, counted, items, some),
    )
