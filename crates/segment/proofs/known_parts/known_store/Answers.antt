use Rattle.std.proofs.Math.Logic.{∥∥₁_elim}
use Rattle.segment.proofs.known_parts.known_store.Goals as goal

pub want_of_memory-requires : goal.want_of_memory-requires
want_of_memory-requires c other = ∥∥₁_elim c.requires.known (λ x y. absurd x) (λ known. (c.in-Err.ensures.err other).1 known.0 known.1 known.2 known.3)
