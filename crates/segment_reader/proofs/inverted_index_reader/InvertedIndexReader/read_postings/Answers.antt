use Rattle.std.proofs.Common.{subst}
use Rattle.options.specs.RecordOption.{record_option_of}
use Rattle.segment_reader.proofs.PostingsFound.{bounds_held, posted_same}
use Rattle.segment_reader.specs.NewCursors.{IsNewCursor, Posted}
use Rattle.segment_reader.proofs.inverted_index_reader.InvertedIndexReader.read_postings.Goals as goal

pub returns-clause-some : goal.returns-clause-some
returns-clause-some c contents =
    let same = posted_same c.args.self.now contents c.args.term.now c.field.result c.serialized_value_bytes-value_bytes.result.now c.field.ensures c.serialized_value_bytes-value_bytes.ensures (c.in_ok-term_info.ensures.whole contents) (c.in_ok-term_info.ensures.same contents) in
    subst (λ (t : Posted). IsNewCursor (record_option_of c.args.option) t c.read_postings_from_terminfo.result) same (c.read_postings_from_terminfo.ensures.ok contents)

pub returns-clause-bounds : goal.returns-clause-bounds
returns-clause-bounds c contents analyze docs are =
    let same = posted_same c.args.self.now contents c.args.term.now c.field.result c.serialized_value_bytes-value_bytes.result.now c.field.ensures c.serialized_value_bytes-value_bytes.ensures (c.in_ok-term_info.ensures.whole contents) (c.in_ok-term_info.ensures.same contents) in
    let told = subst (λ (t : Posted). IsNewCursor (record_option_of c.args.option) t c.read_postings_from_terminfo.result) same (c.read_postings_from_terminfo.ensures.ok contents) in
    bounds_held c.args.self.now contents c.args.term.now _ analyze docs are told.skips
