use Rattle.std.proofs.Common.{List, subst, sym, ℕ}
use Rattle.std.proofs.lemmas.Grind.{merely}
use Rattle.segment_postings.specs.TermEntries.{HasPositions}
use Rattle.postings_tests.proofs.cursor_walks.opened_with_positions.Goals as goal

pub with_positions-requires-clause-known : goal.with_positions-requires-clause-known
with_positions-requires-clause-known c =
    let known = c.requires in
    let P : List ℕ → Type 0 = λ ns. HasPositions known.1 known.2 ns in
    merely (known.0, known.1, known.2, known.4, subst P (sym (c.new.ensures known.3 known.6)) known.5)
