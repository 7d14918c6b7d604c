use Rattle.std.proofs.Common.{List, ap, length, map, ◌∙◌, ◌≡◌, ℕ}
use Rattle.std.proofs.Math.Logic.{∥∥₁_elim}
use Rattle.std.proofs.Props.{props}
use Rattle.std.proofs.lemmas.Result.{IfOk-weaker}
use Rattle.std.specs.List.{AllByRecursion-prop}
use Rattle.merging.specs.MergedNorms.{IsFlagged, merged_norms}
use Rattle.merging.specs.declared.member_norms.MemberNorms.{MemberNorms}
use Rattle.segment.proofs.MergedNorms.{norms_flagged, norms_standing, norms_written}
use Rattle.segment.specs.Members.{member_of}
use Rattle.segment.proofs.merged_norms.merge_lengths.Goals as goal

flagged-prop : (n : MemberNorms) → IsProp (IsFlagged n)
flagged-prop n = AllByRecursion-prop (λ (p : ℕ × List ℕ). length p.1 ≡ length n.alive.now) (λ p. hlevel props) n.norms

pub merge_norms-requires : goal.merge_norms-requires
merge_norms-requires c = ∥∥₁_elim c.requires (AllByRecursion-prop IsFlagged flagged-prop c.deref.result.now) (λ o. norms_flagged o.0 c.deref.result.now (map member_of c.args.members.now) (ap (map (λ (n : MemberNorms). (n.norms, n.alive.now))) c.deref.ensures.value ∙ c.in_ok-lengths.ensures) o.1)

pub returns-clause-opened : goal.returns-clause-opened
returns-clause-opened c schema named opened =
    let ns = c.deref.result.now in
    let same = ap (map (λ (n : MemberNorms). (n.norms, n.alive.now))) c.deref.ensures.value ∙ c.in_ok-lengths.ensures in
    IfOk-weaker c.merge_norms.result _ _ (λ bytes is. (merged_norms c.args.fields.now ns, norms_written schema c.args.fields.now bytes.items ns (map member_of c.args.members.now) named same opened is)) c.merge_norms.ensures

pub returns-clause-stands : goal.returns-clause-stands
returns-clause-stands c schema analyze segments named stand =
    let ns = c.deref.result.now in
    let same = ap (map (λ (n : MemberNorms). (n.norms, n.alive.now))) c.deref.ensures.value ∙ c.in_ok-lengths.ensures in
    IfOk-weaker c.merge_norms.result _ _ (λ bytes is. norms_standing schema analyze c.args.fields.now bytes.items ns (map member_of c.args.members.now) segments named same stand is) c.merge_norms.ensures
