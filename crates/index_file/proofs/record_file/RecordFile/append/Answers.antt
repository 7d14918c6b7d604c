use Rattle.std.proofs.Common.{[], ◌++◌, ◌∷◌}
use Rattle.index_file.proofs.CallByCall.{resting}
use Rattle.index_file.proofs.record_file.RecordFile.append.Goals as goal

pub returns-then-saturating_sub-frame-clause-any_moment : goal.returns-then-saturating_sub-frame-clause-any_moment
returns-then-saturating_sub-frame-clause-any_moment g c bodies body h framed rest synced =
    let d = g.D.Device in
    let old = c.args.self.now.device in
    resting d.moment d.left_since d.content d.unsynced old c.args.self.now.gate bodies (bodies ++ body ∷ []) rest synced (λ image left. g.met.D.Device.only_now old image h left)
