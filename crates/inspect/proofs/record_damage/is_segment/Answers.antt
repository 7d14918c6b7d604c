use Rattle.std.proofs.Common.{IfOk, List, false, rules, subst, true, ◌≡◌, ℕ}
use Rattle.segment_definitions.specs.Segments.{IsSegment}
use Rattle.inspect.proofs.record_damage.is_segment.Goals as goal

pub returns-clause-yes : goal.returns-clause-yes
returns-clause-yes c =
    let same : c.in_ok-shared.shared ≡ c.args.bytes.now = search rules in
    subst (λ (bs : List ℕ). IfOk c.opens.result (λ is. is ≡ true → (n : ℕ) × IsSegment c.args.schema.now n bs)) same c.opens.ensures.yes

pub returns-clause-no : goal.returns-clause-no
returns-clause-no c =
    let same : c.in_ok-shared.shared ≡ c.args.bytes.now = search rules in
    subst (λ (bs : List ℕ). IfOk c.opens.result (λ is. is ≡ false → (n : ℕ) → ¬ IsSegment c.args.schema.now n bs)) same c.opens.ensures.no
