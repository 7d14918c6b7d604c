use Rattle.std.proofs.Common.{ap, ◌++◌, ◌∙◌}
use Rattle.codes.specs.UnpackedBlocks.{listed}
use Rattle.definitions.specs.Schema.{has_freq, has_positions}
use Rattle.layouts.specs.TermPostings.{postings_bytes}
use Rattle.postings_tests.proofs.cursor_walks.written.Goals as goal

pub returns : goal.returns
returns c =
    let some = c.in_ok-write_docs.ensures.written in
    let docs = some.0 in
    let counts = some.1 in
    let now = c.write_docs.new.serializer in
    let option = c.in_ok-write_docs.ensures.same.0 ∙ ap (λ w. w.option) c.new-serializer.ensures.begun in
    let whole = c.in_ok-close_term.ensures.ok docs counts some.2 some.3 ∙ ap (λ xs. xs ++ postings_bytes now.option (listed now.norms) docs counts) c.new-bytes.ensures.items in
    (docs, counts, record { option = now.option; ids = listed now.norms; postings = record { posted = c.close_term.ensures.posted docs counts some.2; bytes_are = whole }; many = some.3; counts_are = ap has_freq option; positions_are = ap has_positions option }, some.4)
