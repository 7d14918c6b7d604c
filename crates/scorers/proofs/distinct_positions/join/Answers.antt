use Rattle.std.proofs.Common.{ap, length, subst, sym, vec_capacity, ◌++◌, ◌<◌, ◌∙◌}
use Rattle.definitions.proofs.Lists.{on_err}
use Rattle.docsets.specs.Distinct.{Ascends, distinct}
use Rattle.docsets.proofs.DistinctLaws.{Ascends-distinct, distinct-right}
use Rattle.scorers.proofs.distinct_positions.join.Goals as goal

pub make_room-requires : goal.make_room-requires
make_room-requires c = subst (Ascends 0) (sym c.sort_once.ensures.items) (Ascends-distinct c.args.numbers.now.items)

pub returns-in_err-make_room-clause-full : goal.returns-in_err-make_room-clause-full
returns-in_err-make_room-clause-full c =
    on_err c.from_residual.result (subst (λ xs. vec_capacity c.args.output.now < length xs) (ap (λ xs. distinct (c.args.output.now.items ++ xs)) c.sort_once.ensures.items ∙ distinct-right c.args.output.now.items c.args.numbers.now.items) c.in_err-make_room.ensures.full)

pub returns-clause-ok : goal.returns-clause-ok
returns-clause-ok c =
    c.sort_once-2.ensures.items
    ∙ (ap distinct c.in_ok-extend_from_slice.ensures.items
    ∙ (ap (λ xs. distinct (c.make_room.new.output.items ++ xs)) c.deref.ensures.value
    ∙ (c.in_ok-make_room.ensures.same
    ∙ (ap (λ xs. distinct (c.args.output.now.items ++ xs)) c.sort_once.ensures.items ∙ distinct-right c.args.output.now.items c.args.numbers.now.items))))
