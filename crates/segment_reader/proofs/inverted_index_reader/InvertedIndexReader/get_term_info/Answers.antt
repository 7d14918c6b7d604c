use Rattle.std.proofs.Common.{ap, arith, subst, sym, true≢false, ◌≡◌, ◌∙◌}
use Rattle.definitions.specs.Terms.{field_of, payload_of}
use Rattle.segment_reader.proofs.ReaderCalls.{for_some, info_of_held, none_found, own_info, same_term, whole_term}
use Rattle.segment_reader.specs.Readers.{HasKind, dictionary_in, info_in}
use Rattle.terms.specs.Kinds.{kind_of}
use Rattle.segment_reader.proofs.inverted_index_reader.InvertedIndexReader.get_term_info.Goals.{After-get}
use Rattle.segment_reader.proofs.inverted_index_reader.InvertedIndexReader.get_term_info.Goals as goal

pub returns-then-not-has_type-clause-ok : goal.returns-then-not-has_type-clause-ok
returns-then-not-has_type-clause-ok c contents =
    let same = c.field.ensures in
    let fits = c.field.type_inv in
    none_found c.args.self.now c.args.term.now (kind_of c.typ.result) contents c.typ.ensures.parts (omega (arith, same, fits)) (λ has. true≢false (sym (c.has_type.ensures.1 (subst (λ n. HasKind c.args.self.now n (kind_of c.typ.result)) (sym c.field.ensures) has)) ∙ c.if-not-has_type.true))

got : (c : After-get) → c.get.result ≡ info_in (payload_of c.args.term.now) (dictionary_in c.args.self.now (field_of c.args.term.now))
got c =
    c.get.ensures
    ∙ ap (λ k. info_in k c.terms.result) c.serialized_value_bytes.ensures
    ∙ ap (info_in (payload_of c.args.term.now)) (c.terms.ensures.own ∙ ap (dictionary_in c.args.self.now) c.field-2.ensures)

has : (c : After-get) → HasKind c.args.self.now (field_of c.args.term.now) (kind_of c.typ.result)
has c = subst (λ n. HasKind c.args.self.now n (kind_of c.typ.result)) c.field.ensures (c.has_type.ensures.0 c.if-not-has_type.false)

pub returns-clause-own : goal.returns-clause-own
returns-clause-own c = own_info c.get.result (payload_of c.args.term.now) (dictionary_in c.args.self.now (field_of c.args.term.now)) (got c)

pub returns-clause-same : goal.returns-clause-same
returns-clause-same c contents =
    let same = c.field.ensures in
    let fits = c.field.type_inv in
    for_some c.get.result (same_term c.args.self.now c.args.term.now (kind_of c.typ.result) contents c.typ.ensures.parts (omega (arith, same, fits)) (has c))

pub returns-clause-ok : goal.returns-clause-ok
returns-clause-ok c contents =
    let same = c.field.ensures in
    let fits = c.field.type_inv in
    info_of_held c.args.self.now c.args.term.now (kind_of c.typ.result) contents c.get.result c.typ.ensures.parts (omega (arith, same, fits)) (has c) (got c)

pub returns-clause-whole : goal.returns-clause-whole
returns-clause-whole c contents = for_some c.get.result (whole_term c.args.self.now c.args.term.now (kind_of c.typ.result) contents c.typ.ensures.parts (has (goal.at.returns-clause-whole c).After-get))
