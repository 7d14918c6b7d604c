use Rattle.std.proofs.Common.{IfOk, arith, map, take, subst, ◌≡◌}
use Rattle.std.proofs.lemmas.Result.{IfOk-weaker}
use Rattle.segment_reader.specs.Readers.{Contents}
use Rattle.definitions.specs.Terms.{field_of, payload_of}
use Rattle.leaf_weights.proofs.PrefixTerms.{both_ok, few_suffixes, range_held, read_found}
use Rattle.leaf_weights.specs.Suffixes.{read_places}
use Rattle.segment_postings.specs.Cursors.{entries_left}
use Rattle.segment_reader.specs.SegmentReaders.{index_of}
use Rattle.leaf_weights.proofs.read_suffixes.read_suffixes.Goals as goal

pub read_range-requires : goal.read_range-requires
read_range-requires c = record { held = range_held c.args.reader.now c.inverted_index-index.result.now c.field-field.result c.serialized_value_bytes.result.now c.terms-terms.result c.in_ok-range.range c.inverted_index-index.ensures c.in_ok-range.ensures c.terms-terms.ensures.own }

pub returns-clause-found : goal.returns-clause-found
returns-clause-found c contents =
    both_ok c.read_range.result (subst (λ i. ((contents : Contents i) → IfOk c.read_range.result (λ read. map entries_left read.items ≡ read_places contents.fields c.field-field.result (take c.args.max_expansions c.in_ok-range.range.rest)))) c.inverted_index-index.ensures c.read_range.ensures.found contents) c.read_range.ensures.bytes
    (λ read found bytes. read_found contents.fields c.field-field.result (field_of c.args.prefix.now) c.args.max_expansions c.serialized_value_bytes.result.now (payload_of c.args.prefix.now) c.terms-terms.result c.in_ok-range.range c.inverted_index-index.result.now (index_of c.args.reader.now) (map entries_left read.items) c.in_ok-range.ensures c.terms-terms.ensures.own c.inverted_index-index.ensures c.field-field.ensures c.serialized_value_bytes.ensures bytes found)

pub returns-clause-all : goal.returns-clause-all
returns-clause-all c most =
    let few = c.terms-terms.ensures.few in
    IfOk-weaker c.read_range.result _ _ (λ read given. few_suffixes c.field-field.result (field_of c.args.prefix.now) c.args.max_expansions (payload_of c.args.prefix.now) c.terms-terms.result c.inverted_index-index.result.now (index_of c.args.reader.now) c.terms-terms.ensures.own c.inverted_index-index.ensures c.field-field.ensures (omega (arith, few, most))) c.read_range.ensures.few
