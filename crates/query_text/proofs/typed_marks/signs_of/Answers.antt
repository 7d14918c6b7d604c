-- One more byte is read, or belongs to one before.
use Rattle.std.proofs.Common.{◌<◌, ◌∙◌, ap, arith, length}
use Rattle.query_text.proofs.Signs.{no_sign, one_more}
use Rattle.query_text.proofs.typed_marks.signs_of.Goals as goal
use Rattle.query_text.proofs.typed_marks.signs_of.Goals.{else-next-offset, then-next-offset+in_ok-push}

pub loop-offset-preserved : goal.loop-offset-preserved
loop-offset-preserved c =
    let text = c.args.text.now in
    let offset = c.loop-offset.offset in
    let next = c.loop-offset.next in
    let inside : offset < length text = omega (arith, c.loop-offset-test.true) in
    elim c.if-next-offset.branch [
      | then-next-offset+in_ok-push w ↦
          one_more text c.loop-offset.signs.items w.push.new.self.items c.if-next-offset.signs.items offset next c.if-next-offset.next w.sign_of-byte.result inside w.if-next-offset.true w.sign_of-byte.ensures.sign w.in_ok-push.ensures.items (ap (λ v. v.items) w.signs-is) w.next-is
          ∙ c.loop-offset.invariant
      | else-next-offset w ↦
          let step = no_sign text offset next inside (omega (arith, w.if-next-offset.false)) in
          cc
    ]
