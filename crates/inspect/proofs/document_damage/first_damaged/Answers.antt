use Rattle.std.proofs.Common.{IfNone, IfSome, drop, subst, sym, ◌∙◌, ◌∷◌, ◌≡◌}
use Rattle.inspect.proofs.Members.{all_step, at_front, drop_more}
use Rattle.inspect.specs.Documents.{IsUnread, IsWhole}
use Rattle.inspect.proofs.document_damage.first_damaged.Goals as goal

pub returns-in-Some-found-clause-some : goal.returns-in-Some-found-clause-some
returns-in-Some-found-clause-some c =
    let all = c.args.members.items in
    let member = c.in-Some.member in
    let front : drop c.loop-number.number all ≡ member ∷ c.pop_front.new.self.items = sym c.loop-number.invariant.left ∙ c.in-Some.ensures.items in
    record {
      member = member;
      stands = at_front all c.loop-number.number member c.pop_front.new.self.items front;
      bytes_are = c.in_ok-segment.ensures.ok ∙ c.in_ok-found.ensures.same;
      why = subst (λ o. IfSome o (λ p. IsUnread c.args.schema.now member.segment p.0 p.1)) c.in-Some-found.is c.in_ok-found.ensures.some;
    }

pub loop-number-preserved : goal.loop-number-preserved
loop-number-preserved c =
    let all = c.args.members.items in
    let n = c.loop-number.number in
    let member = c.in-Some.member in
    let front : drop n all ≡ member ∷ c.pop_front.new.self.items = sym c.loop-number.invariant.left ∙ c.in-Some.ensures.items in
    let whole = subst (λ o. IfNone o (IsWhole c.args.schema.now member)) c.in_default-found.is c.in_ok-found.ensures.none in
    record {
      left = sym (drop_more all n member c.pop_front.new.self.items front);
      read = all_step (IsWhole c.args.schema.now) all n member (at_front all n member c.pop_front.new.self.items front) c.loop-number.invariant.read whole;
    }
