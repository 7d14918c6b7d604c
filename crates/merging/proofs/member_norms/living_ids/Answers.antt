use Rattle.std.proofs.Common.{ap, arith, sym, ◌++◌, ◌∙◌}
use Rattle.std.specs.List.{items_where_true}
use Rattle.merging.proofs.LivingIds.{flagged_at, flagged_ids, merged_none, merged_some}
use Rattle.merging.proofs.member_norms.living_ids.Goals as goal
use Rattle.merging.proofs.member_norms.living_ids.Goals.{in-Some+in_ok-push_living, in_default}

pub push_living-requires : goal.push_living-requires
push_living-requires c =
    let i = c.loop-member.member-index in
    let m = c.member-item.result in
    let inside = c.loop-member-test.true in
    flagged_ids m c.args.field c.in-Some.reader (flagged_at c.args.members.now i m c.requires (omega (arith, inside)) c.member-item.is) (sym c.get_field.ensures ∙ c.in-Some.is)

pub loop-member-preserved : goal.loop-member-preserved
loop-member-preserved c =
    let i = c.loop-member.member-index in
    let m = c.member-item.result in
    let ms = c.args.members.now in
    let field = c.args.field in
    let inside = c.loop-member-test.true in
    elim c.match-get_field.branch [
      | in-Some+in_ok-push_living w ↦
          ap (λ v. v.items) w.ids-is ∙ w.in_ok-push_living.ensures
          ∙ ap (λ xs. xs ++ items_where_true m.alive.now w.in-Some.reader) c.loop-member.invariant
          ∙ sym (merged_some field i ms m w.in-Some.reader c.member-item.is (omega (arith, inside)) (sym c.get_field.ensures ∙ w.in-Some.is))
      | in_default w ↦
          ap (λ v. v.items) w.ids-is ∙ c.loop-member.invariant
          ∙ sym (merged_none field i ms m c.member-item.is (omega (arith, inside)) (sym c.get_field.ensures ∙ w.in_default.is))
    ]
