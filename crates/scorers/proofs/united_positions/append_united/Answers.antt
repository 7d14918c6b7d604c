use Rattle.std.proofs.Common.{ap, arith, is_some, length, map, subst, true, vec_capacity, ◌++◌, ◌<◌, ◌∙◌, ◌≡◌}
use Rattle.definitions.proofs.Lists.{on_err}
use Rattle.docsets.specs.Distinct.{distinct}
use Rattle.docsets.specs.Members.{entries_at}
use Rattle.scorers.proofs.UnitingLaws.{highest-told, told-put}
use Rattle.scorers.proofs.united_positions.append_united.Goals as goal

pub gather_positions-requires-clause-fits : goal.gather_positions-requires-clause-fits
gather_positions-requires-clause-fits g c =
    let told : is_some c.args.room.now ≡ true = ap is_some c.in-Some.is in
    let same = highest-told (is_some c.args.room.now) told (entries_at c.args.doc (map g.P.DocSet.entries c.args.docsets.now.items)) in
    let fits = c.requires.fits in
    omega (arith, same, fits)

pub returns-in_err-join-clause-full : goal.returns-in_err-join-clause-full
returns-in_err-join-clause-full g c =
    let es = entries_at c.args.doc (map g.P.DocSet.entries c.args.docsets.now.items) in
    let told : is_some c.args.room.now ≡ true = ap is_some c.in-Some.is in
    on_err c.from_residual.result (subst (λ xs. vec_capacity c.args.output.now < length xs) (ap (λ xs. distinct (c.args.output.now.items ++ xs)) c.gather_positions.ensures.taken ∙ told-put (is_some c.args.room.now) told c.args.output.now.items c.args.offset es) c.in_err-join.ensures.full)

pub returns-clause-ok : goal.returns-clause-ok
returns-clause-ok g c =
    let es = entries_at c.args.doc (map g.P.DocSet.entries c.args.docsets.now.items) in
    let told : is_some c.args.room.now ≡ true = ap is_some c.in-Some.is in
    c.in_ok-join.ensures.ok ∙ (ap (λ xs. distinct (c.args.output.now.items ++ xs)) c.gather_positions.ensures.taken ∙ told-put (is_some c.args.room.now) told c.args.output.now.items c.args.offset es)
