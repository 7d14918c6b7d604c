use Rattle.std.proofs.Common.{arith}
use Rattle.std.proofs.Math.Logic.{∥∥₁_elim}
use Rattle.layouts.specs.InvertedIndexes.{Sections}
use Rattle.segment_reader.proofs.ReadersMade.{made_of, no_sections, stands_for}
use Rattle.segment_reader.proofs.indexes_read.known_indexes.Goals as goal

pub want_of_memory-requires : goal.want_of_memory-requires
want_of_memory-requires c other = ∥∥₁_elim c.requires (λ x y. absurd x) (λ known. no_sections c.args.schema.now known.num_docs known.norms (record { terms = c.args.terms.now; postings = c.args.postings.now; positions = c.args.positions.now }) c.deref.result.now c.in_ok-kinds.kinds.items c.deref.ensures.value c.in_ok-kinds.ensures.kinds known.docs_few (omega arith) (omega arith) (omega arith) (c.in-Err.ensures.err other).1 known.fields known.sections_are)

pub returns-in-Ok : goal.returns-in-Ok
returns-in-Ok c num_docs norms fields few are =
    let read = c.in-Ok.ensures.ok in
    let s : Sections = record { terms = c.args.terms.now; postings = c.args.postings.now; positions = c.args.positions.now } in
    let told = c.in-Ok.indexes.items in
    let made = made_of read.0 c.args.schema.now num_docs s c.deref.result.now c.in_ok-kinds.kinds.items read.1 told c.deref.ensures.value c.in_ok-kinds.ensures.kinds c.in_ok-kinds.ensures.few few (omega arith) (omega arith) (omega arith) read.2 read.3 c.in-Ok.ensures.kinds in
    stands_for read.0 c.args.schema.now num_docs norms s read.1 told fields made are
