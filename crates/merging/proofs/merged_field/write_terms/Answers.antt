use Rattle.std.proofs.Math.Logic.{∥∥₁_map}
use Rattle.merging.proofs.merged_field.write_terms.Goals as goal

pub all_terms-requires : goal.all_terms-requires
all_terms-requires c = ∥∥₁_map c.requires.known (λ k. (k.0, k.1, k.2, k.3))
