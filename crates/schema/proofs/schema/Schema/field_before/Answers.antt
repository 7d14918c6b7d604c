-- A dot is one byte, so a text may be cut before it and after it.
use Rattle.std.proofs.Common.{arith, ◌<◌, length, get_or, ◌≡◌}
use Rattle.std.proofs.lemmas.Option.{get_or_from_slice_get, slice_get_within}
use Rattle.std.proofs.lemmas.Str.{IsCharBoundary-after_ascii}
use Rattle.schema.proofs.schema.Schema.field_before.Goals as goal

pub range_from-requires : goal.range_from-requires
range_from-requires c =
    let path = c.args.path.now in
    let inside : c.args.dot < length path = slice_get_within path c.args.dot 46 c.requires in
    let dot : get_or path c.args.dot 0 ≡ 46 = get_or_from_slice_get path c.args.dot 46 0 c.requires in
    λ _. IsCharBoundary-after_ascii path c.args.dot c.utf8.path inside (omega arith)
