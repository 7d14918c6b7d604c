use Rattle.std.proofs.Common.{ap, append-nil, arith, length, map, sym, vec_capacity, ◌++◌, ◌+◌, ◌∙◌, ◌≡◌, ◌≢◌, if◌then◌else◌}
use Rattle.std.proofs.lemmas.List.{length-map}
use Rattle.docsets.specs.Entries.{first, first_positions, highest, single}
use Rattle.docsets.proofs.MemberLaws.{entries-off}
use Rattle.docsets.specs.Members.{entries_of}
use Rattle.scorers.specs.Uniting.{positions_in}
use Rattle.scorers.proofs.UnitingLaws.{positions-on}
use Rattle.scorers.proofs.Calls.{must_answer, must_be_ok}
use Rattle.scorers.proofs.united_positions.take_positions.Goals as goal

pub returns-then-doc-clause-taken : goal.returns-then-doc-clause-taken
returns-then-doc-clause-taken g c =
    let es = g.P.DocSet.entries c.args.docset.now in
    let at = c.doc.ensures in
    let isnt = c.if-doc.true in
    let apart : first es ≢ c.args.doc = λ e. isnt (omega (arith, at, e)) in
    let none = entries-off c.args.doc es (g.met.P.DocSet.rising c.args.docset.now) c.requires.leads apart in
    sym (ap (λ xs. c.args.all.now.items ++ map (λ p. p + c.args.offset) (positions_in xs)) none ∙ append-nil c.args.all.now.items)

pub positions_with_offset-requires-clause-fits : goal.positions_with_offset-requires-clause-fits
positions_with_offset-requires-clause-fits g c =
    let es = g.P.DocSet.entries c.args.docset.now in
    let at = c.doc.ensures in
    let here = ap highest (positions-on c.args.doc es (g.met.P.DocSet.rising c.args.docset.now) (omega (arith, at)) c.requires.on) in
    let fits = c.requires.fits in
    omega (arith, here, fits)

pub returns-clause-taken : goal.returns-clause-taken
returns-clause-taken g c =
    let es = g.P.DocSet.entries c.args.docset.now in
    let at = c.doc.ensures in
    let on = positions-on c.args.doc es (g.met.P.DocSet.rising c.args.docset.now) (omega (arith, at)) c.requires.on in
    let many = ap length on in
    let room = c.requires.room in
    let room_for_all = c.requires.room_for_all in
    let call = c.positions_with_offset.ensures in
    let one : c.positions_with_offset.new.output.items ≡ map (λ p. p + c.args.offset) (single (first_positions es)) =
    must_answer c.positions_with_offset.result (vec_capacity c.args.one.now) (length (single (first_positions es))) call.full (omega (arith, many, room)) call.ok in
    let given = c.deref.ensures.value ∙ (one ∙ ap (map (λ p. p + c.args.offset)) (sym on)) in
    let long = ap length given ∙ length-map (positions_in (entries_of c.args.doc es)) (λ p. p + c.args.offset) in
    let ok = must_be_ok c.extend_from_slice.result _ _ c.extend_from_slice.ensures.full (omega (arith, long, room_for_all)) in
    c.extend_from_slice.ensures.items ∙ (ap (λ b. if b then c.args.all.now.items ++ c.deref.result.now else c.args.all.now.items) ok ∙ ap (λ xs. c.args.all.now.items ++ xs) given)
