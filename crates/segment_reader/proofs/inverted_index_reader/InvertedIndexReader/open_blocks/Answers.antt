use Rattle.std.proofs.Common.{List, ap, subst, sym, ◌<◌, ◌∙◌, ℕ}
use Rattle.std.proofs.Math.Logic.{∥∥₁_map}
use Rattle.std.specs.List.{AllByRecursion}
use Rattle.definitions.specs.Postings.{Posting}
use Rattle.layouts.specs.InvertedIndexes.{field_ids}
use Rattle.options.specs.RecordOption.{record_option_of}
use Rattle.segment_reader.proofs.PostingsFound.{has_term, is_info, option_told}
use Rattle.segment_reader.specs.OpenedTerms.{entries_of_postings}
use Rattle.segment_reader.specs.Readers.{postings_in}
use Rattle.segment_reader.proofs.inverted_index_reader.InvertedIndexReader.open_blocks.Goals as goal
use Rattle.segment_postings.proofs.WholeTerms.{docs_within}

pub bytes_of-requires : goal.bytes_of-requires
bytes_of-requires c = is_info c.args.self.now c.args.field c.args.value_bytes.now c.args.term_info.now c.option_of-recorded.ensures.known c.requires

pub open_term_blocks-requires : goal.open_term_blocks-requires
open_term_blocks-requires c = ∥∥₁_map c.option_of-recorded.ensures.known (λ contents. (postings_in contents.fields c.args.field c.args.value_bytes.now, c.bytes_of.result.1.now, has_term c.args.self.now c.args.field c.args.value_bytes.now c.args.term_info.now contents (record_option_of c.option_of-recorded.result) c.bytes_of.result.0.now c.bytes_of.result.1.now c.requires c.option_of-recorded.ensures.option c.bytes_of.ensures.postings c.bytes_of.ensures.positions))

pub returns-clause-ok : goal.returns-clause-ok
returns-clause-ok c contents =
    let ps : List Posting = postings_in contents.fields c.args.field c.args.value_bytes.now in
    let positions : List ℕ = c.bytes_of.result.1.now in
    let known = has_term c.args.self.now c.args.field c.args.value_bytes.now c.args.term_info.now contents (record_option_of c.option_of-recorded.result) c.bytes_of.result.0.now c.bytes_of.result.1.now c.requires c.option_of-recorded.ensures.option c.bytes_of.ensures.postings c.bytes_of.ensures.positions in
    let docs = c.open_term_blocks.ensures.docs ps positions known in
    let P : List ℕ → Type 0 = AllByRecursion (λ doc. doc < contents.num_docs) in
    record {
      docs = docs;
      counts = c.open_term_blocks.ensures.counts ps positions known;
      doc_freq = c.open_term_blocks.ensures.doc_freq ∙ sym known.many;
      within = subst P (sym docs) (docs_within _ contents.num_docs ps known.is_term.each_posting);
      skips = c.open_term_blocks.ensures.skips ps positions known ∙ ap (λ o. entries_of_postings o (field_ids contents.norms c.args.field) ps) (option_told c.args.self.now c.args.field c.args.value_bytes.now c.args.term_info.now contents (record_option_of c.option_of-recorded.result) c.requires c.option_of-recorded.ensures.option);
    }
