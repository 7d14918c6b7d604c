use Rattle.std.proofs.Common.{[], Bool, IsTrue, List, ap, arith, length, subst, sym, ◌+◌, ◌∙◌, ◌∷◌, ◌≡◌, ℕ}
use Rattle.definitions.specs.Disk.{settled}
use Rattle.layouts.specs.RecordFiles.{IsAtRest}
use Rattle.index_file.proofs.Images.{gate_at_rest}
use Rattle.index_file.proofs.Results.{OnOk-map}
use Rattle.index_file.proofs.CallByCall.{creating}
use Rattle.index_file.proofs.append_steps.create_file.Goals as goal

pub returns-clause-at_rest : goal.returns-clause-at_rest
returns-clause-at_rest g c body h framed =
    let d = g.D.Device in
    let mid = c.lay_gate.new.device in
    let new = c.append_record.new.device in
    let h' : IsTrue (d.honest mid) = subst (λ (b : Bool). IsTrue b) (sym c.in_ok-lay_gate.ensures.honest) h in
    let rest : IsAtRest (d.content mid) 0 [] = subst (λ (l : List ℕ). IsAtRest l 0 []) (sym (c.in_ok-lay_gate.ensures.content h)) gate_at_rest in
    let zero_more : 0 + length c.args.frame.now ≡ length c.args.frame.now = omega arith in
    OnOk-map c.append_record.result (IsAtRest (d.content new) (0 + length c.args.frame.now) (body ∷ [])) (IsAtRest (d.content new) (length c.args.frame.now) (body ∷ []))
    (λ is. subst (λ (n : ℕ). IsAtRest (d.content new) n (body ∷ [])) zero_more is)
    (c.append_record.ensures.appended [] body h' framed rest)

pub returns-clause-any_moment : goal.returns-clause-any_moment
returns-clause-any_moment g c body h framed =
    let d = g.D.Device in
    let mid = c.lay_gate.new.device in
    let h' : IsTrue (d.honest mid) = subst (λ (b : Bool). IsTrue b) (sym c.in_ok-lay_gate.ensures.honest) h in
    let is_at : d.content mid ≡ 0 ∷ [] = c.in_ok-lay_gate.ensures.content h in
    let rest : IsAtRest (d.content mid) 0 [] = subst (λ (l : List ℕ). IsAtRest l 0 []) (sym is_at) gate_at_rest in
    let synced : d.unsynced mid ≡ settled (length (d.content mid)) = c.in_ok-lay_gate.ensures.unsynced h ∙ ap (λ (l : List ℕ). settled (length l)) (sym is_at) in
    creating d.moment d.left_since d.content d.unsynced c.args.device.now mid c.append_record.new.device body (c.in_ok-lay_gate.ensures.any_moment h)
    (c.append_record.ensures.any_moment [] body h' framed rest synced)
