use Rattle.std.proofs.Common.{inl}
use Rattle.definitions.proofs.CallRuns.{started}
use Rattle.index_file.specs.Kept.{IsOldOrOf}
use Rattle.engine.proofs.open_file.open_file.Goals as goal

pub returns-in-Err-clause-any_moment : goal.returns-in-Err-clause-any_moment
returns-in-Err-clause-any_moment g c bodies h ends =
    let d = g.D.Device in
    let device = c.args.device in
    started d.moment d.left_since device (IsOldOrOf d.content d.unsynced device bodies) (λ image left. inl (g.met.D.Device.only_now device image h left))
