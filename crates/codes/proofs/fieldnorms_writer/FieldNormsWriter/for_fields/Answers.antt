use Rattle.std.proofs.Common.{◌≡◌, ◌∙◌, ap, ap₂, arith, length, replicate, zip, sym}
use Rattle.std.proofs.lemmas.List.{length-map, length-replicate}
use Rattle.codes.proofs.RecordedLengths.{fresh_more, no_ids, zip_empty}
use Rattle.codes.proofs.fieldnorms_writer.FieldNormsWriter.for_fields.Goals as goal

pub loop-preserved : goal.loop-preserved
loop-preserved c = rw c.in_ok-push.ensures.items (fresh_more (λ v. v.items) c.loop.ids.items c.new.result c.loop.index c.loop.invariant c.new.ensures.items)

pub invariant_of-result : goal.invariant_of-result
invariant_of-result c =
    let all : c.loop.index ≡ length c.args.fields.now = omega arith in
    let many : length c.loop.ids.items ≡ length c.args.fields.now = sym (length-map c.loop.ids.items (λ v. v.items)) ∙ ap length c.loop.invariant ∙ length-replicate c.loop.index no_ids ∙ all in
    (rw c.in_ok-from_slice.ensures.items c.requires, rw c.in_ok-from_slice.ensures.items many)

pub returns : goal.returns
returns c =
    let all : c.loop.index ≡ length c.args.fields.now = omega arith in
    ap₂ zip c.in_ok-from_slice.ensures.items (c.loop.invariant ∙ ap (λ k. replicate k no_ids) all) ∙ zip_empty c.args.fields.now
