use Rattle.std.proofs.Common.{Bool, IsTrue, List, inr, length, subst, sym, ℕ}
use Rattle.definitions.specs.Disk.{IsImage, IsPartly, overwritten, written}
use Rattle.definitions.proofs.CallImages.{done_is_partly, IsSynced-any, write-images}
use Rattle.definitions.proofs.CallRuns.{while_syncing, while_writing}
use Rattle.common.proofs.synced_steps.write_synced.Goals as goal

pub returns-in_err-write_at-clause-any_moment : goal.returns-in_err-write_at-clause-any_moment
returns-in_err-write_at-clause-any_moment g c h =
    let d = g.D.Device in
    let laws = g.met.D.Device in
    let old = c.args.device.now in
    while_writing d.moment d.left_since d.content d.unsynced old c.write_at.new.self c.args.at c.args.bytes.now
    (c.requires h) (laws.remains old h) (λ image left. laws.only_now old image h left)
    (c.in_err-write_at.ensures.partly h) (c.in_err-write_at.ensures.unsynced_err h) (c.in_err-write_at.ensures.time h)

pub returns-clause-any_moment : goal.returns-clause-any_moment
returns-clause-any_moment g c h =
    let d = g.D.Device in
    let laws = g.met.D.Device in
    let old = c.args.device.now in
    let mid = c.write_at.new.self in
    let at = c.args.at in
    let bytes = c.args.bytes.now in
    let h' : IsTrue (d.honest mid) = subst (λ (b : Bool). IsTrue b) (sym c.in_ok-write_at.ensures.honest) h in
    let partly : IsPartly (d.content old) (overwritten at bytes (d.content old)) (d.content mid) = done_is_partly _ _ _ (c.in_ok-write_at.ensures.content h) in
    let P : List ℕ → Type 0 = IsImage (overwritten at bytes (d.content old)) (written at (length bytes) (d.unsynced old)) in
    while_syncing d.moment d.left_since d.content d.unsynced old mid c.sync.new.self P
    (while_writing d.moment d.left_since d.content d.unsynced old mid at bytes
    (c.requires h) (laws.remains old h) (λ image left. laws.only_now old image h left)
    partly (inr (c.in_ok-write_at.ensures.unsynced h)) (c.in_ok-write_at.ensures.time h))
    (write-images at bytes (d.content old) (d.content mid) (d.unsynced old) (d.unsynced mid) (c.requires h) (laws.remains old h) partly (inr (c.in_ok-write_at.ensures.unsynced h)))
    (laws.remains mid h') (c.sync.ensures.content h') (IsSynced-any _ _ _ _ (c.sync.ensures.unsynced h') (c.sync.ensures.unsynced_err h')) (c.sync.ensures.time h')
