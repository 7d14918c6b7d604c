use Rattle.std.proofs.Common.{ap, arith, length, ◌∙◌}
use Rattle.std.proofs.lemmas.List.{length-map}
use Rattle.merging.proofs.Numbers.{dead_found, living_found}
use Rattle.merging.specs.Mappings.{Mapping, is_living, new_doc}
use Rattle.merging.proofs.doc_id_mapping.DocIdMapping.get_new_doc_id.Goals as goal

pub index-new_doc-requires : goal.index-new_doc-requires
index-new_doc-requires c =
    let within = c.requires in
    let view = ap (λ (m : Mapping). length m.flags) c.self.view_is in
    let long = length-map c.self.inside.new_doc_ids.items is_living in
    omega (arith, within, view, long)

pub returns-then-new_doc-eq-TERMINATED : goal.returns-then-new_doc-eq-TERMINATED
returns-then-new_doc-eq-TERMINATED c =
    let within = c.requires in
    let view = ap (λ (m : Mapping). length m.flags) c.self.view_is in
    let long = length-map c.self.inside.new_doc_ids.items is_living in
    dead_found c.self.inside.base c.self.inside.end c.args.doc c.index-new_doc.result.now c.self.inside.new_doc_ids.items c.self.invariant (omega (arith, within, view, long)) c.index-new_doc.ensures c.if-new_doc-eq-TERMINATED.true
    ∙ ap (λ (m : Mapping). new_doc m c.args.doc) c.self.view_is

pub returns : goal.returns
returns c =
    let within = c.requires in
    let view = ap (λ (m : Mapping). length m.flags) c.self.view_is in
    let long = length-map c.self.inside.new_doc_ids.items is_living in
    living_found c.self.inside.base c.self.inside.end c.args.doc c.index-new_doc.result.now c.self.inside.new_doc_ids.items c.self.invariant (omega (arith, within, view, long)) c.index-new_doc.ensures c.if-new_doc-eq-TERMINATED.false
    ∙ ap (λ (m : Mapping). new_doc m c.args.doc) c.self.view_is
