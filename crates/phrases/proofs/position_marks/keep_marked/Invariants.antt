use Rattle.std.proofs.Common.{false, get_or, vec_capacity, ◌≡◌}
use Rattle.std.proofs.lemmas.List.Filters.{FiltersInPlace}
use Rattle.phrases.proofs.position_marks.keep_marked.Given as goal

-- those so far that are marked stand in front, and those left as they were
abbrev pub invariant-loop-i : goal.invariant-loop-i
invariant-loop-i l = record {
  kept : FiltersInPlace (λ p. get_or l.marks p false) l.fn.positions.items l.positions.items l.count l.i;
  room : vec_capacity l.positions ≡ vec_capacity l.fn.positions;
}
