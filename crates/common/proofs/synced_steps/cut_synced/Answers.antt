use Rattle.std.proofs.Common.{Bool, IsTrue, List, inr, subst, sym, take, ℕ}
use Rattle.definitions.specs.Disk.{IsImage, IsPartly, shortened}
use Rattle.definitions.proofs.CallImages.{done_is_partly, IsSynced-any, cut-images}
use Rattle.definitions.proofs.CallRuns.{while_cutting, while_syncing}
use Rattle.common.proofs.synced_steps.cut_synced.Goals as goal

pub returns-in_err-cut-clause-any_moment : goal.returns-in_err-cut-clause-any_moment
returns-in_err-cut-clause-any_moment g c h =
    let d = g.D.Device in
    let laws = g.met.D.Device in
    let old = c.args.device.now in
    while_cutting d.moment d.left_since d.content d.unsynced old c.cut.new.self c.args.len
    (c.requires h) (λ image left. laws.only_now old image h left)
    (c.in_err-cut.ensures.partly h) (c.in_err-cut.ensures.unsynced_err h) (c.in_err-cut.ensures.time h)

pub returns-clause-any_moment : goal.returns-clause-any_moment
returns-clause-any_moment g c h =
    let d = g.D.Device in
    let laws = g.met.D.Device in
    let old = c.args.device.now in
    let mid = c.cut.new.self in
    let len = c.args.len in
    let h' : IsTrue (d.honest mid) = subst (λ (b : Bool). IsTrue b) (sym c.in_ok-cut.ensures.honest) h in
    let partly : IsPartly (d.content old) (take len (d.content old)) (d.content mid) = done_is_partly _ _ _ (c.in_ok-cut.ensures.content h) in
    let P : List ℕ → Type 0 = IsImage (take len (d.content old)) (shortened len (d.unsynced old)) in
    while_syncing d.moment d.left_since d.content d.unsynced old mid c.sync.new.self P
    (while_cutting d.moment d.left_since d.content d.unsynced old mid len
    (c.requires h) (λ image left. laws.only_now old image h left)
    partly (inr (c.in_ok-cut.ensures.unsynced h)) (c.in_ok-cut.ensures.time h))
    (cut-images len (d.content old) (d.content mid) (d.unsynced old) (d.unsynced mid) (c.requires h) partly (inr (c.in_ok-cut.ensures.unsynced h)))
    (laws.remains mid h') (c.sync.ensures.content h') (IsSynced-any _ _ _ _ (c.sync.ensures.unsynced h') (c.sync.ensures.unsynced_err h')) (c.sync.ensures.time h')
