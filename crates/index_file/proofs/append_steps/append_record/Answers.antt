use Rattle.std.proofs.Common.{[], Bool, IsTrue, List, ap, length, subst, sym, ◌++◌, ◌+◌, ◌∙◌, ◌∷◌, ◌≡◌, ℕ}
use Rattle.definitions.specs.Disk.{overwritten}
use Rattle.layouts.specs.RecordFiles.{IsAtRest}
use Rattle.index_file.proofs.Images.{framed_content, gate_opened, short_body}
use Rattle.index_file.proofs.Results.{OnOk-map}
use Rattle.index_file.proofs.CallByCall.{framing, gating}
use Rattle.index_file.proofs.append_steps.append_record.Goals as goal

pub returns-in_err-write_synced-clause-any_moment : goal.returns-in_err-write_synced-clause-any_moment
returns-in_err-write_synced-clause-any_moment g c bodies body h framed rest synced =
    let d = g.D.Device in
    framing d.moment d.left_since d.content d.unsynced c.args.device.now c.write_synced.new.device c.args.gate c.args.frame.now body bodies rest synced (c.in_err-write_synced.ensures.any_moment h)

pub returns-clause-appended : goal.returns-clause-appended
returns-clause-appended g c bodies body h framed rest =
    let d = g.D.Device in
    let old = c.args.device.now in
    let mid = c.write_synced.new.device in
    let new = c.write_synced-2.new.device in
    let gate = c.args.gate in
    let frame = c.args.frame.now in
    let h' : IsTrue (d.honest mid) = subst (λ (b : Bool). IsTrue b) (sym c.in_ok-write_synced.ensures.honest) h in
    let is_at : d.content mid ≡ d.content old ++ frame = c.in_ok-write_synced.ensures.content h ∙ framed_content (d.content old) frame (gate + 1) rest.length_is in
    OnOk-map c.write_synced-2.result (d.content new ≡ overwritten gate (165 ∷ []) (d.content mid)) (IsAtRest (d.content new) (gate + length frame) (bodies ++ body ∷ []))
    (λ is. subst (λ (l : List ℕ). IsAtRest l (gate + length frame) (bodies ++ body ∷ [])) (sym (is ∙ ap (λ (l : List ℕ). overwritten gate (165 ∷ []) l) is_at))
    (gate_opened bodies body (d.content old) frame gate rest (short_body gate frame body c.requires.room framed) framed))
    (c.write_synced-2.ensures.content h')

pub returns-clause-any_moment : goal.returns-clause-any_moment
returns-clause-any_moment g c bodies body h framed rest synced =
    let d = g.D.Device in
    let old = c.args.device.now in
    let mid = c.write_synced.new.device in
    let h' : IsTrue (d.honest mid) = subst (λ (b : Bool). IsTrue b) (sym c.in_ok-write_synced.ensures.honest) h in
    gating d.moment d.left_since d.content d.unsynced old mid c.write_synced-2.new.device c.args.gate c.args.frame.now body bodies rest c.requires.room framed
    (c.in_ok-write_synced.ensures.content h) (c.in_ok-write_synced.ensures.unsynced h)
    (framing d.moment d.left_since d.content d.unsynced old mid c.args.gate c.args.frame.now body bodies rest synced (c.in_ok-write_synced.ensures.any_moment h))
    (c.write_synced-2.ensures.any_moment h')
