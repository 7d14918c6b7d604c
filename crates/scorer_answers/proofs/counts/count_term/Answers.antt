use Rattle.std.proofs.Common.{[], length, map, ◌∙◌, ◌≡◌}
use Rattle.scorer_answers.proofs.Held.{of_documents}
use Rattle.scorer_answers.proofs.LivingCounts.{term_alive, term_each, term_none}
use Rattle.definitions.specs.Merging.{documents_in}
use Rattle.definitions.specs.Schema.{basic}
use Rattle.segment_reader.specs.OpenedTerms.{entry_as}
use Rattle.segment_postings.specs.Cursors.{entries_left}
use Rattle.segment_reader.proofs.FieldLengths.{all_within as held_within}
use Rattle.scorer_answers.proofs.counts.count_term.Goals as goal

-- src/counts.rt:68:9
pub returns-in_default : goal.returns-in_default
returns-in_default c schema analyze option rows has =
    of_documents (λ ps. c.doc_freq.result ≡ length ps) schema analyze (documents_in rows) c.args.reader.now c.inverted_index-index.result.now c.args.term.now has.stands c.inverted_index-index.ensures c.doc_freq.ensures
    ∙ term_each schema analyze rows c.args.reader.now has c.args.term.now option c.in_default.ensures.none

-- src/counts.rt:71:31
pub count-requires : goal.count-requires
count-requires c = held_within c.args.reader.now c.inverted_index-index.result.now _ (entries_left c.in-Some-read_postings.postings) c.inverted_index-index.ensures c.in-Some.ensures.each (λ contents. (c.in-Some-read_postings.ensures.some contents).within)

-- src/counts.rt:61:1
pub returns-in-Some-read_postings : goal.returns-in-Some-read_postings
returns-in-Some-read_postings c schema analyze option rows has =
    let es = entries_left c.in-Some-read_postings.postings in
    c.count.ensures.count
    ∙ term_alive schema analyze rows c.args.reader.now has c.args.term.now option basic es c.in-Some.alive.now c.in-Some.ensures.some
    (of_documents (λ ps. es ≡ map (entry_as basic) ps) schema analyze (documents_in rows) c.args.reader.now c.inverted_index-index.result.now c.args.term.now has.stands c.inverted_index-index.ensures (λ contents. (c.in-Some-read_postings.ensures.some contents).entries))

-- src/counts.rt:61:1
pub returns-in-None : goal.returns-in-None
returns-in-None c schema analyze option rows has =
    term_none schema analyze rows c.args.reader.now has c.args.term.now option c.in-Some.alive.now c.in-Some.ensures.some
    (of_documents (λ ps. ps ≡ []) schema analyze (documents_in rows) c.args.reader.now c.inverted_index-index.result.now c.args.term.now has.stands c.inverted_index-index.ensures c.in-None.ensures.none)
