use Rattle.std.proofs.Common.{[], List, ap, arith, length, subst, sym, ◌<◌, ◌≡◌, ◌∙◌}
use Rattle.std.proofs.Math.Logic.{∥∥₁_elim, ∥∥₁_map}
use Rattle.std.proofs.Props.{props}
use Rattle.std.proofs.lemmas.List.{length-map}
use Rattle.definitions.specs.Postings.{Posting}
use Rattle.docsets.specs.Entries.{Entry, from}
use Rattle.layouts.specs.InvertedIndexes.{field_ids}
use Rattle.options.specs.RecordOption.{record_option_of}
use Rattle.segment_postings.specs.Cursors.{entries_left}
use Rattle.segment_reader.proofs.PostingsFound.{has_term, is_info, option_told}
use Rattle.segment_reader.proofs.OpenedPostings.{entries_within}
use Rattle.segment_reader.specs.OpenedTerms.{entries_of_postings, entry_as}
use Rattle.segment_reader.specs.Readers.{postings_in}
use Rattle.segment_reader.proofs.inverted_index_reader.InvertedIndexReader.read_postings_from_terminfo.Goals as goal

pub bytes_of-requires : goal.bytes_of-requires
bytes_of-requires c = is_info c.args.self.now c.args.field c.args.value_bytes.now c.args.term_info.now c.option_of-recorded.ensures.known c.requires

pub open_term-requires : goal.open_term-requires
open_term-requires c = ∥∥₁_map c.option_of-recorded.ensures.known (λ contents. (postings_in contents.fields c.args.field c.args.value_bytes.now, has_term c.args.self.now c.args.field c.args.value_bytes.now c.args.term_info.now contents (record_option_of c.option_of-recorded.result) c.bytes_of.result.0.now c.bytes_of.result.1.now c.requires c.option_of-recorded.ensures.option c.bytes_of.ensures.postings c.bytes_of.ensures.positions))

pub returns-clause-ok : goal.returns-clause-ok
returns-clause-ok c contents =
    let ps : List Posting = postings_in contents.fields c.args.field c.args.value_bytes.now in
    let known = has_term c.args.self.now c.args.field c.args.value_bytes.now c.args.term_info.now contents (record_option_of c.option_of-recorded.result) c.bytes_of.result.0.now c.bytes_of.result.1.now c.requires c.option_of-recorded.ensures.option c.bytes_of.ensures.postings c.bytes_of.ensures.positions in
    let entries = c.open_term.ensures.entries ps known in
    let P : List Entry → Type 0 = λ es. from contents.num_docs es ≡ [] in
    record {
      entries = entries;
      doc_freq = c.open_term.ensures.doc_freq ∙ sym known.many;
      within = subst P (sym entries) (entries_within (record_option_of c.args.option) _ contents.num_docs ps known.is_term.each_posting);
      skips = c.open_term.ensures.skips ps known ∙ ap (λ o. entries_of_postings o (field_ids contents.norms c.args.field) ps) (option_told c.args.self.now c.args.field c.args.value_bytes.now c.args.term_info.now contents (record_option_of c.option_of-recorded.result) c.requires c.option_of-recorded.ensures.option);
      bounded = c.open_term.ensures.bounded ps known;
      positions = c.open_term.ensures.positions ps known;
    }

pub returns-clause-start : goal.returns-clause-start
returns-clause-start c =
    let opened = c.open_term.ensures in
    let present : 0 < length (entries_left c.open_term.result) =
    ∥∥₁_elim c.option_of-recorded.ensures.known (hlevel props) (λ contents.
    (let ps : List Posting = postings_in contents.fields c.args.field c.args.value_bytes.now in
    let known = has_term c.args.self.now c.args.field c.args.value_bytes.now c.args.term_info.now contents (record_option_of c.option_of-recorded.result) c.bytes_of.result.0.now c.bytes_of.result.1.now c.requires c.option_of-recorded.ensures.option c.bytes_of.ensures.postings c.bytes_of.ensures.positions in
    let some = known.is_term.has_postings in
    let same = ap length (c.open_term.ensures.entries ps known) in
    let long = length-map ps (entry_as (record_option_of c.args.option)) in
    omega (arith, some, same, long))) in
    record { present = present; decoded = opened.decoded; place = opened.place; reached = opened.reached }
