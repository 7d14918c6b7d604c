use Rattle.std.proofs.Common.{drop, ◌<◌, ◌^◌, ◌≡◌}
use Rattle.store.specs.SkipIndexes.{adjoins}
use Rattle.store.proofs.skip_index.are_checkpoints.Given as goal

-- the checkpoints that are left decide
abbrev pub invariant-loop-reach : goal.invariant-loop-reach
invariant-loop-reach l = record {
  rest : adjoins l.doc l.byte (drop l.reach-index l.checkpoints) ≡ adjoins 0 0 l.checkpoints;
  fits : l.byte < 2 ^ 64;
}
