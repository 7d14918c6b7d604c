use Rattle.std.proofs.Common.{ap, arith, length, ◌∙◌}
use Rattle.std.proofs.Math.Seq.{map-set_same}
use Rattle.std.proofs.lemmas.List.{length-map, length-set}
use Rattle.walks.proofs.union_walk.most_frequent.Goals.{else-documents-most, then-documents-most}
use Rattle.walks.proofs.union_walk.most_frequent.Goals as goal

pub loop-i-preserved : goal.loop-i-preserved
loop-i-preserved g c =
    let entries = g.S.DocSet.entries in
    let inv = c.loop-i.invariant in
    let within = inv.within in
    let test = c.loop-i-test.true in
    let end = c.len-i-end.ensures in
    let same = ap length inv.same in
    let now = length-map c.loop-i.scorers.items entries in
    let given = length-map c.args.scorers.now.items entries in
    let long = length-set c.loop-i.scorers.items c.loop-i.i c.documents_for_bound-documents.new.scorer in
    record {
      same = map-set_same entries c.loop-i.scorers.items c.loop-i.i c.documents_for_bound-documents.new.scorer c.index_mut.result.now (c.documents_for_bound-documents.ensures ∙ ap entries c.index_mut.ensures.value) ∙ inv.same;
      within = elim c.if-documents-most.branch [ then-documents-most w ↦ (let is = w.index-is in omega (arith, is, test, end, same, now, given, long)) | else-documents-most w ↦ (let is = w.index-is in omega (arith, is, within, long)) ];
    }
