use Rattle.std.proofs.Common.{Bool, IsTrue, List, ap, inl, inr, subst, sym, take, ◌+◌, ◌∙◌, ◌≡◌, ℕ}
use Rattle.definitions.proofs.CallRuns.{started, while_syncing}
use Rattle.index_file.specs.Kept.{IsOldOrOf}
use Rattle.layouts.specs.RecordFiles.{IsAtRest}
use Rattle.layouts.proofs.FilesOfRecords.{cut_at_rest}
use Rattle.index_file.proofs.Results.{OnOk-map}
use Rattle.index_file.proofs.CallByCall.{settling}
use Rattle.index_file.proofs.append_steps.settle_file.Goals as goal

pub returns-clause-at_rest : goal.returns-clause-at_rest
returns-clause-at_rest g c bodies h ends =
    let d = g.D.Device in
    let old = c.args.device.now in
    let mid = c.sync.new.self in
    let new = c.cut_synced.new.device in
    let gate = c.args.gate in
    let h' : IsTrue (d.honest mid) = subst (λ (b : Bool). IsTrue b) (sym c.in_ok-sync.ensures.honest) h in
    OnOk-map c.cut_synced.result (d.content new ≡ take (gate + 1) (d.content mid)) (IsAtRest (d.content new) gate bodies)
    (λ is. subst (λ (l : List ℕ). IsAtRest l gate bodies) (sym (is ∙ ap (λ (l : List ℕ). take (gate + 1) l) (c.in_ok-sync.ensures.content h))) (cut_at_rest bodies (d.content old) gate ends))
    (c.cut_synced.ensures.content h')

pub returns-clause-any_moment : goal.returns-clause-any_moment
returns-clause-any_moment g c bodies h ends =
    let d = g.D.Device in
    let laws = g.met.D.Device in
    let old = c.args.device.now in
    let mid = c.sync.new.self in
    let h' : IsTrue (d.honest mid) = subst (λ (b : Bool). IsTrue b) (sym c.in_ok-sync.ensures.honest) h in
    settling d.moment d.left_since d.content d.unsynced old mid c.cut_synced.new.device c.args.gate bodies (IsOldOrOf d.content d.unsynced old bodies) ends
    (laws.remains old h) (λ image left. laws.only_now old image h left) (λ image is. inl is)
    (c.in_ok-sync.ensures.content h) (c.in_ok-sync.ensures.unsynced h) (c.in_ok-sync.ensures.time h) (c.cut_synced.ensures.any_moment h')
    (λ image file. inr file)

pub returns-in_err-sync-clause-any_moment : goal.returns-in_err-sync-clause-any_moment
returns-in_err-sync-clause-any_moment g c bodies h ends =
    let d = g.D.Device in
    let laws = g.met.D.Device in
    let old = c.args.device.now in
    let P : List ℕ → Type 0 = IsOldOrOf d.content d.unsynced old bodies in
    while_syncing d.moment d.left_since d.content d.unsynced old old c.sync.new.self P
    (started d.moment d.left_since old P (λ image left. inl (laws.only_now old image h left))) (λ image is. inl is)
    (laws.remains old h) (c.in_err-sync.ensures.content h) (inl (c.in_err-sync.ensures.unsynced_err h)) (c.in_err-sync.ensures.time h)
