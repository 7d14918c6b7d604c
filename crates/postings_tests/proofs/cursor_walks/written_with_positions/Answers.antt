use Rattle.std.proofs.Common.{List, ap, subst, sym, ◌++◌, ◌∙◌, ℕ}
use Rattle.codes.specs.UnpackedBlocks.{listed}
use Rattle.definitions.specs.Schema.{has_freq, has_positions}
use Rattle.layouts.specs.Positions.{ArePositions}
use Rattle.layouts.specs.TermPostings.{postings_bytes}
use Rattle.postings_tests.proofs.cursor_walks.written_with_positions.Goals as goal

pub returns : goal.returns
returns c =
    let some = c.in_ok-write_with_positions.ensures.written in
    let docs = some.0 in
    let counts = some.1 in
    let now = c.write_with_positions.new.serializer in
    let same = c.in_ok-write_with_positions.ensures.same in
    let option = same.0 ∙ ap (λ w. w.option) c.new-serializer.ensures.begun in
    let whole = c.in_ok-close_term.ensures.ok docs counts some.3 some.4 ∙ ap (λ xs. xs ++ postings_bytes now.option (listed now.norms) docs counts) c.new-bytes.ensures.items in
    let closed = c.in_ok-close_term-2.ensures.ok in
    let numbers = c.write_with_positions.new.positions.1 in
    let P : List ℕ → Type 0 = λ bs. ArePositions numbers bs in
    let bytes = c.close.ensures ∙ (ap (λ p. p.0) closed.2 ∙ ap (λ xs. xs ++ closed.0) same.2) in
    (docs, counts, some.2, numbers, record { option = now.option; ids = listed now.norms; postings = record { posted = c.close_term.ensures.posted docs counts some.3; bytes_are = whole }; many = some.4; counts_are = ap has_freq option; positions_are = ap has_positions option }, some.5, subst P (sym bytes) closed.1)
