-- Each document so far, and the least that may come next.
use Rattle.std.proofs.Common.{◌%◌, ◌*◌, ◌+◌, ◌<◌, ◌≡◌, ◌^◌, get_or, length, ℕ}
use Rattle.codes.specs.BlockFields.{document, field, next_after}
use lib.Lanes.{number_l}
use Rattle.codes.proofs.delta_sums.documents_at.Given as goal

abbrev pub invariant-loop-index : goal.invariant-loop-index
invariant-loop-index g l = record {
  told : (i : ℕ) → i < 8 * l.group + l.index → get_or l.out i 0 ≡ document l.next (field g.row.W (number_l 256 l.bytes)) i;
  long : length l.out ≡ 128;
  least : l.least ≡ next_after l.next (field g.row.W (number_l 256 l.bytes)) (8 * l.group + l.index) % 2 ^ 32;
}

abbrev pub invariant-loop-group : goal.invariant-loop-group
invariant-loop-group g l = record {
  told : (i : ℕ) → i < 8 * l.group → get_or l.out i 0 ≡ document l.next (field g.row.W (number_l 256 l.bytes)) i;
  long : length l.out ≡ 128;
  least : l.least ≡ next_after l.next (field g.row.W (number_l 256 l.bytes)) (8 * l.group) % 2 ^ 32;
}
