use Rattle.std.proofs.Common.{[], ◌*◌, ◌∙◌, Bool, ap, if◌then◌else◌, replicate, subst, sym}
use Rattle.definitions.specs.Schema.{has_freq, has_positions}
use Rattle.options.specs.RecordOption.{record_option_of}
use Rattle.docsets.specs.Entries.{from}
use Rattle.segment_postings.specs.Reading.{HasPostings}
use Rattle.postings_tests.proofs.TermEntries.{none_from}
use Rattle.postings_tests.proofs.cursor_walks.opened.Goals as goal

pub returns : goal.returns
returns c =
    let docs = c.requires.0 in
    let counts = c.requires.1 in
    let P : Bool → Type 0 = λ b. HasPostings b (has_positions (record_option_of c.args.option)) c.args.num_docs c.args.bytes.now docs counts in
    let Q : Bool → Type 0 = λ b. HasPostings c.recorded_of.result.counts b c.args.num_docs c.args.bytes.now docs counts in
    let has = subst Q (sym c.recorded_of.ensures.positions) (subst P (sym c.recorded_of.ensures.counts) c.requires.2) in
    ap (from (3 * c.args.num_docs)) (c.new.ensures.entries docs counts has) ∙ none_from (3 * c.args.num_docs) docs (if c.has_freq.result then counts else replicate c.args.num_docs 1) [] c.requires.3
