use Rattle.std.proofs.Common.{[], ap, arith, subst, sym}
use Rattle.definitions.proofs.Lists.{all_at_least as long}
use Rattle.postings_writer.specs.Writers.{Stands, Writer}
use Rattle.postings_cases.proofs.sections.sections_with.Goals as goal

pub index_all-requires : goal.index_all-requires
index_all-requires c = ([], c.in_ok-indexer.ensures _)

pub serialize-requires-clause-stands : goal.serialize-requires-clause-stands
serialize-requires-clause-stands c =
    let written = c.in_ok-index_all.ensures.1.recorded.written in
    let P : Writer → Type 0 = λ w. Stands c.args.schema.now w written.os in
    ∣ (written.os, subst P (sym c.postings_writer-writer.ensures) written.stands) ∣₁

pub serialize-requires-clause-lengths : goal.serialize-requires-clause-lengths
serialize-requires-clause-lengths c =
    let all = c.in_ok-index_all.ensures in
    let few = all.1.recorded.written.num_docs_within in
    let docs = c.num_docs-num_docs.ensures c.args.schema.now _ all.0 all.1 in
    let same = ap (λ (w : Writer). w.num_docs) c.postings_writer-writer.ensures in
    long c.postings_writer-writer.result.now.num_docs c.num_docs-num_docs.result c.in_ok-lengths.lengths (omega arith) c.in_ok-lengths.ensures.ok.counts
