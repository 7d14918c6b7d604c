use Rattle.std.proofs.Common.{[], List, ap, inl, inr, is_some, subst, sym, ◌∙◌, ◌∷◌, ℕ}
use Rattle.definitions.proofs.CallRuns.{started}
use Rattle.definitions.specs.Disk.{IsImage, Unsynced}
use Rattle.engine.proofs.ListsLeft.{begins, first_gives_none}
use Rattle.engine.specs.Files.{BodiesLeave, LeavesNone, is_first}
use Rattle.index_file.proofs.Images.{rest_images}
use Rattle.layouts.specs.RecordBodies.{first_body}
use Rattle.layouts.specs.RecordFiles.{IsFile, IsFresh}
use Rattle.segment_definitions.specs.IndexFiles.{LeavesGroups}
use Rattle.index_file.proofs.Openings.{same_device}
use Rattle.index_state.specs.Standing.{members_of}
use Rattle.engine.proofs.FileSayings.{leave_first, leave_same}
use Rattle.engine.proofs.index.Index.create.Goals as goal

pub returns-in-Err-clause-kept : goal.returns-in-Err-clause-kept
returns-in-Err-clause-kept g c h other =
    let d = g.D.Device in
    same_device d.moment d.left_since d.content d.unsynced c.args.device (λ image left. g.met.D.Device.only_now c.args.device image h left)

pub returns-in-Err-clause-stays : goal.returns-in-Err-clause-stays
returns-in-Err-clause-stays g c h some =
    let d = g.D.Device in
    same_device d.moment d.left_since d.content d.unsynced c.args.device (λ image left. g.met.D.Device.only_now c.args.device image h left)

pub returns-in-Err-clause-any_moment : goal.returns-in-Err-clause-any_moment
returns-in-Err-clause-any_moment g c h images =
    let d = g.D.Device in
    started d.moment d.left_since c.args.device (IsFresh is_first) (λ image left. images image (g.met.D.Device.only_now c.args.device image h left))

pub returns-in-Ok-create-clause-any_moment : goal.returns-in-Ok-create-clause-any_moment
returns-in-Ok-create-clause-any_moment g c h images =
    let d = g.D.Device in
    let body = first_body c.args.schema c.args.settings in
    begins d.moment d.left_since d.content d.unsynced c.args.device c.in-Ok-create.file.device body (IsFresh is_first) (c.in-Ok-create.ensures.any_moment body h (c.deref.ensures.value ∙ c.in-Ok.ensures.ok)) images
    (λ image none. inl none) (λ image file. inr (body, ap is_some c.in-Ok.ensures.read_back, file))

pub returns-in-Ok-create-clause-lists : goal.returns-in-Ok-create-clause-lists
returns-in-Ok-create-clause-lists g c cut h images =
    let d = g.D.Device in
    let body = first_body c.args.schema c.args.settings in
    begins d.moment d.left_since d.content d.unsynced c.args.device c.in-Ok-create.file.device body (LeavesNone cut) (c.in-Ok-create.ensures.any_moment body h (c.deref.ensures.value ∙ c.in-Ok.ensures.ok)) images
    (λ image none. inl none) (λ image file. inr (c.args.schema, c.args.settings, first_gives_none c.args.schema c.args.settings cut body image c.in-Ok.ensures.read_back file))

pub returns-in-Err-create-clause-kept : goal.returns-in-Err-create-clause-kept
returns-in-Err-create-clause-kept g c h other = elim c.in-Err-create.ensures.fault [
  | inl device ↦ absurd (other device)
  | inr (inl memory) ↦ c.in-Err-create.ensures.kept h (inr memory)
  | inr (inr held) ↦ c.in-Err-create.ensures.kept h (inl (c.in-Err-create.ensures.not_empty h held))
]

pub returns-in-Err-create-clause-stays : goal.returns-in-Err-create-clause-stays
returns-in-Err-create-clause-stays g c h some = c.in-Err-create.ensures.kept h (inl some)

pub returns-in-Err-create-clause-any_moment : goal.returns-in-Err-create-clause-any_moment
returns-in-Err-create-clause-any_moment g c h images =
    let d = g.D.Device in
    let body = first_body c.args.schema c.args.settings in
    begins d.moment d.left_since d.content d.unsynced c.args.device c.in-Err-create.device body (IsFresh is_first) (c.in-Err-create.ensures.any_moment body h (c.deref.ensures.value ∙ c.in-Ok.ensures.ok)) images
    (λ image none. inl none) (λ image file. inr (body, ap is_some c.in-Ok.ensures.read_back, file))

pub returns-in-Err-create-clause-lists : goal.returns-in-Err-create-clause-lists
returns-in-Err-create-clause-lists g c cut h images =
    let d = g.D.Device in
    let body = first_body c.args.schema c.args.settings in
    begins d.moment d.left_since d.content d.unsynced c.args.device c.in-Err-create.device body (LeavesNone cut) (c.in-Err-create.ensures.any_moment body h (c.deref.ensures.value ∙ c.in-Ok.ensures.ok)) images
    (λ image none. inl none) (λ image file. inr (c.args.schema, c.args.settings, first_gives_none c.args.schema c.args.settings cut body image c.in-Ok.ensures.read_back file))

pub returns-in-Err-clause-lists : goal.returns-in-Err-clause-lists
returns-in-Err-clause-lists g c cut h images =
    let d = g.D.Device in
    started d.moment d.left_since c.args.device (LeavesNone cut) (λ image left. images image (g.met.D.Device.only_now c.args.device image h left))

pub returns-in-Ok-create-clause-installed : goal.returns-in-Ok-create-clause-installed
returns-in-Ok-create-clause-installed g c h image is =
    let d = g.D.Device in
    let body = first_body c.args.schema c.args.settings in
    let new = c.new-index_state.result in
    let file = c.in-Ok-create.file in
    let now : List ℕ = d.content file.device in
    let one : IsFile (body ∷ []) image = rest_images (body ∷ []) now image file.gate (c.in-Ok-create.ensures.at_rest body h (c.deref.ensures.value ∙ c.in-Ok.ensures.ok)) (subst (λ (u : Unsynced). IsImage now u image) (c.in-Ok-create.ensures.unsynced h) is) in
    let cut = g.A.Analyzer.analyze new.analyzer in
    subst (λ s. LeavesGroups s new.settings cut image []) (sym c.new-index_state.ensures.made.0)
    (subst (λ u. LeavesGroups c.args.schema u cut image []) (sym c.new-index_state.ensures.made.1) (first_gives_none c.args.schema c.args.settings cut body image c.in-Ok.ensures.read_back one))

pub returns-in-Ok-create-clause-rests : goal.returns-in-Ok-create-clause-rests
returns-in-Ok-create-clause-rests g c h =
    let body = first_body c.args.schema c.args.settings in
    let new = c.new-index_state.result in
    let leave : BodiesLeave c.args.schema c.args.settings (body ∷ []) [] = leave_first c.args.schema c.args.settings body c.in-Ok.ensures.read_back in
    record {
      bodies = body ∷ [];
      at_rest = c.in-Ok-create.ensures.at_rest body h (c.deref.ensures.value ∙ c.in-Ok.ensures.ok);
      leave = leave_same c.args.schema new.schema c.args.settings new.settings (body ∷ []) [] (members_of new) c.new-index_state.ensures.made.0 c.new-index_state.ensures.made.1 c.new-index_state.ensures.none leave;
      synced = c.in-Ok-create.ensures.unsynced h;
    }
