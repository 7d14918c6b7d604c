use Rattle.std.proofs.Common.{ap, arith, length, ◌++◌, length-append, sym, ◌<◌, ◌≡◌, ◌∙◌, ◌∷◌, []}
use Rattle.std.proofs.lemmas.Bool.Decides.{nat_tests}
use Rattle.codes.specs.UnpackedBlocks.{listed}
use Rattle.layouts.specs.TermPostings.{id_of}
use Rattle.postings_writer.proofs.WrittenPostings.{docs_more, may_come, on_ok_both, sum_refused, writing_more, writing_none, written_full, written_open}
use Rattle.definitions.proofs.Lists.{err_map as on_err}
use Rattle.postings_writer.specs.TermWriting.{IsSumRefusal, Waiting, Writing, recorded_count}
use Rattle.postings_writer.proofs.postings_serializer.PostingsSerializer.write_doc.Goals as goal

pub invariant_of-self : goal.invariant_of-self
invariant_of-self c =
    let least = ap (λ w. w.next) c.self.view_is in
    let open_yet = c.if-not-is_full.ensures in
    let long = ap (λ (b : Waiting). length b.docs) c.append_doc.ensures in
    let few : length c.append_doc.new.self.docs < 128 = grind (arith, nat_tests, open_yet, long, c.self.invariant.waiting_fit, length-append c.self.inside.block.docs (c.args.doc ∷ [])) in
    writing_more c.self.inside.fieldnorm_reader c.self.inside.last_doc c.self.inside.next_doc c.self.inside.block c.append_doc.new.self c.args.doc c.recorded_count-count.result c.fieldnorm_id-fieldnorm_id.result c.self.invariant (omega (arith, least, c.requires.next)) (c.fieldnorm_id-fieldnorm_id.ensures ∙ ap (λ (w : Writing). id_of (listed w.norms) c.args.doc) (sym c.self.view_is)) c.append_doc.ensures few

pub returns-then-not-is_full-clause-written : goal.returns-then-not-is_full-clause-written
returns-then-not-is_full-clause-written c docs counts a =
    let may = may_come _ c.args.self.now c.args.doc c.recorded_count-count.result c.args.term_freq c.self.view_is c.requires.next c.requires.fits c.recorded_count-count.ensures.count c.recorded_count-count.ensures.some c.recorded_count-count.type_inv in
    written_open _ c.args.self.now c.append_doc.new.self c.args.doc c.recorded_count-count.result c.fieldnorm_id-fieldnorm_id.result _ docs counts may c.self.view_is c.append_doc.ensures c.recorded_count-count.ensures.count a

pub write_block-written-requires-clause-ascending : goal.write_block-written-requires-clause-ascending
write_block-written-requires-clause-ascending c =
    let least = ap (λ w. w.next) c.self.view_is in
    docs_more c.self.inside.fieldnorm_reader c.self.inside.last_doc c.self.inside.next_doc c.self.inside.block c.append_doc.new.self c.args.doc c.recorded_count-count.result c.fieldnorm_id-fieldnorm_id.result c.self.invariant (omega (arith, least, c.requires.next)) c.append_doc.ensures

pub invariant_of-self-2 : goal.invariant_of-self-2
invariant_of-self-2 c =
    let least = ap (λ w. w.next) c.self.view_is in
    let full : length c.append_doc.new.self.docs ≡ 128 = (let is = c.if-not-is_full.ensures in grind (arith, nat_tests)) in
    writing_none c.self.inside.fieldnorm_reader c.self.inside.last_doc c.self.inside.next_doc c.self.inside.block c.append_doc.new.self c.clear.new.self c.args.doc c.recorded_count-count.result c.fieldnorm_id-fieldnorm_id.result c.self.invariant (omega (arith, least, c.requires.next)) c.append_doc.ensures full c.clear.ensures

pub returns-clause-written : goal.returns-clause-written
returns-clause-written c docs counts a =
    let full : length c.append_doc.new.self.docs ≡ 128 = (let is = c.if-not-is_full.ensures in grind (arith, nat_tests)) in
    let may = may_come _ c.args.self.now c.args.doc c.recorded_count-count.result c.args.term_freq c.self.view_is c.requires.next c.requires.fits c.recorded_count-count.ensures.count c.recorded_count-count.ensures.some c.recorded_count-count.type_inv in
    on_ok_both c.write_block-written.result
    (λ put fits. written_full _ c.args.self.now c.append_doc.new.self c.clear.new.self c.write_block-written.new.self c.args.doc c.recorded_count-count.result c.fieldnorm_id-fieldnorm_id.result _ docs counts may fits c.self.view_is c.append_doc.ensures c.clear.ensures put c.recorded_count-count.ensures.count (c.fieldnorm_id-fieldnorm_id.ensures ∙ ap (λ (w : Writing). id_of (listed w.norms) c.args.doc) (sym c.self.view_is)) c.self.invariant full a)
    c.write_block-written.ensures.ok
    c.write_block-written.ensures.within

pub returns-clause-sums : goal.returns-clause-sums
returns-clause-sums c docs counts a =
    let full : length c.append_doc.new.self.docs ≡ 128 = (let is = c.if-not-is_full.ensures in grind (arith, nat_tests)) in
    let n = recorded_count c.args.self.now.option c.args.term_freq in
    on_err c.write_block-written.result _ (λ fault. IsSumRefusal fault (counts ++ n ∷ []))
    (λ fault refused. sum_refused fault _ c.args.self.now c.append_doc.new.self c.args.doc c.recorded_count-count.result c.fieldnorm_id-fieldnorm_id.result n docs counts c.self.view_is c.append_doc.ensures c.recorded_count-count.ensures.count c.self.invariant.same full a refused)
    c.write_block-written.ensures.err
