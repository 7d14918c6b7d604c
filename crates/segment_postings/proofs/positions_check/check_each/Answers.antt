use Rattle.std.proofs.Common.{ap, arith, length, refl, rules, subst, sum, sym}
use Rattle.std.proofs.Math.Logic.{∥∥₁_elim, ∥∥₁_map}
use Rattle.std.proofs.Props.{props}
use Rattle.std.specs.Coded.{Coded-set, coded_ℕ}
use Rattle.segment_postings.specs.Placed.{LastPositionsFit}
use Rattle.segment_postings.specs.Cursors.{counts_left}
use Rattle.segment_postings.proofs.positions_check.check_each.Goals as goal

pub new-blocks-requires-clause-known : goal.new-blocks-requires-clause-known
new-blocks-requires-clause-known c = ∥∥₁_map c.requires.known (λ k. (k.0, k.1, k.2))

pub are_bounded-requires-clause-same : goal.are_bounded-requires-clause-same
are_bounded-requires-clause-same c = ∥∥₁_elim c.requires.known (Coded-set coded_ℕ _ _) (λ k.
    (let docs = ap length (c.new-blocks.ensures.docs k.0 k.1 k.2) in
    let counts = ap length (c.new-blocks.ensures.counts k.0 k.1 k.2) in
    let same = k.2.postings.posted.same in
    omega (arith, docs, counts, same)))

pub are_bounded-requires-clause-many : goal.are_bounded-requires-clause-many
are_bounded-requires-clause-many c = ∥∥₁_elim c.requires.known (Coded-set coded_ℕ _ _) (λ k.
    (let counts = ap sum (c.new-blocks.ensures.counts k.0 k.1 k.2) in
    let total = k.3 in
    omega (arith, counts, total)))

pub are_bounded-requires-clause-few : goal.are_bounded-requires-clause-few
are_bounded-requires-clause-few c = ∥∥₁_elim c.requires.known (hlevel props) (λ k.
    (let counts = ap sum (c.new-blocks.ensures.counts k.0 k.1 k.2) in
    let total = k.3 in
    let few = c.requires.few in
    omega (arith, counts, total, few)))

pub returns-then-not-are_bounded-clause-err : goal.returns-then-not-are_bounded-clause-err
returns-then-not-are_bounded-clause-err c =
    let other : LastPositionsFit (counts_left c.new-blocks.result) c.args.reader.now → ⊥ = search rules in
    (refl, λ docs counts known b. other (subst (λ ns. LastPositionsFit ns c.args.reader.now) (sym (c.new-blocks.ensures.counts docs counts known)) b))

pub returns-clause-ok : goal.returns-clause-ok
returns-clause-ok c = λ docs counts known.
    (let bounded : LastPositionsFit (counts_left c.new-blocks.result) c.args.reader.now = search rules in
    subst (λ ns. LastPositionsFit ns c.args.reader.now) (c.new-blocks.ensures.counts docs counts known) bounded)
