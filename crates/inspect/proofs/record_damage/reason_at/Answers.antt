use Rattle.std.proofs.Common.{[], List, ap, arith, drop, length, map, subst, take, ◌++◌, ◌∙◌, ◌∷◌, ◌≡◌, ℕ}
use Rattle.std.proofs.lemmas.List.{length-map}
use Rattle.index_file.specs.Lists.{LeavesList, member_of}
use Rattle.inspect.proofs.Damages.{gate_within, no_making, rest_behind, unfit_reason}
use Rattle.inspect.proofs.Framed.{has_body}
use Rattle.inspect.proofs.record_damage.reason_at.Goals as goal

pub from-rest-requires : goal.from-rest-requires
from-rest-requires c =
    let within = gate_within c.args.bytes.now c.args.gate c.requires in
    omega (arith, within, ap length c.as_slice-all.ensures)

pub returns-in_default : goal.returns-in_default
returns-in_default c = λ d.
    (d, λ body. c.in_default.ensures.err 165 d.rest body (c.from-rest.ensures ∙ ap (drop c.args.gate) c.as_slice-all.ensures ∙ rest_behind c.args.bytes.now c.args.gate d))

pub returns-then-gate-eq0 : goal.returns-then-gate-eq0
returns-then-gate-eq0 c = λ d.
    let (gate, is, few, some) = c.in-Ok.ensures.ok in
    let has = has_body c.from-rest.result.now d.rest c.in-Ok.body.now c.in-Ok._next.now 165 gate (c.from-rest.ensures ∙ ap (drop c.args.gate) c.as_slice-all.ensures ∙ rest_behind c.args.bytes.now c.args.gate d) is few some in
    (d, no_making c.args.bytes.now c.args.gate d c.in-Ok.body.now c.if-gate-eq0.true has)

pub returns : goal.returns
returns c = λ d.
    let (gate, is, few, some) = c.in-Ok.ensures.ok in
    let has = has_body c.from-rest.result.now d.rest c.in-Ok.body.now c.in-Ok._next.now 165 gate (c.from-rest.ensures ∙ ap (drop c.args.gate) c.as_slice-all.ensures ∙ rest_behind c.args.bytes.now c.args.gate d) is few some in
    let before = c.in_ok-before.before in
    let front : c.in_ok-front.front ≡ take c.args.gate c.args.bytes.now ++ 0 ∷ [] = c.in_ok-front.ensures ∙ c.in_ok-closed_at.ensures ∙ ap (λ (l : List ℕ). take c.args.gate l ++ 0 ∷ []) c.as_slice-all.ensures in
    let left = subst (λ (bs : List ℕ). LeavesList before.schema before.settings bs before.gate (map member_of before.members.items)) front c.in_ok-before.ensures.ok in
    let counted : c.len.result ≡ length (map member_of before.members.items) = omega (arith, c.len.ensures, before.members.ok, length-map before.members.items member_of) in
    unfit_reason before.schema before.settings c.args.bytes.now c.args.gate before.gate c.len.result (map member_of before.members.items) d c.in-Ok.body.now c.in_ok-reason.reason left counted has c.in_ok-reason.ensures
