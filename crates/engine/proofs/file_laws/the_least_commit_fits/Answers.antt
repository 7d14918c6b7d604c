use Rattle.std.proofs.Common.{[], subst, ◌∷◌}
use Rattle.definitions.specs.State.{added}
use Rattle.engine.proofs.LeastCommit.{least_fits}
use Rattle.engine.specs.Indexes.{gate_of}
use Rattle.index_state.specs.Records.{IsCommitBody}
use Rattle.segment_definitions.specs.ListBodies.{Makes}
use Rattle.segment_definitions.specs.Segments.{IsSegment}
use Rattle.engine.proofs.file_laws.the_least_commit_fits.Goals as goal

pub returns : goal.returns
returns g c analyze similarity n some none small (after, body, records, long) =
    least_fits analyze n (gate_of c.args.index.now) after body some small
    (subst (λ ms. Makes (IsSegment []) ms after body) none records.0)
    (subst (λ ms. IsCommitBody [] analyze n (added [] ∷ []) ms after body) none records.2) long
