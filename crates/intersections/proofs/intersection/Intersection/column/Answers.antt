use Rattle.std.proofs.Common.{ap, arith, length, rules, subst, sym, ◌∙◌, ◌≡◌}
use Rattle.std.proofs.Math.Seq.{map-set_same}
use Rattle.std.proofs.lemmas.List.{length-set}
use Rattle.docsets.specs.Entries.{first}
use Rattle.intersections.proofs.ColumnLaws.{all-have, column-is, column-within, stands-at}
use Rattle.intersections.specs.Meetings.{IsMeeting, meeting}
use Rattle.intersections.proofs.intersection.Intersection.column.Goals as goal

pub index_mut-requires : goal.index_mut-requires
index_mut-requires g c =
    let s = c.args.self.now in
    let leading = s.leading in
    let within = column-within g.S.DocSet.entries g.met.S.DocSet.rising g.met.S.Positioned.one_column s.doc c.args.index s.docsets.items s.meets (omega (arith, leading)) c.requires.on c.requires.within in
    search (rules, within)

pub positions-requires-clause-on : goal.positions-requires-clause-on
positions-requires-clause-on g c =
    let s = c.args.self.now in
    let leading = s.leading in
    let within = column-within g.S.DocSet.entries g.met.S.DocSet.rising g.met.S.Positioned.one_column s.doc c.args.index s.docsets.items s.meets (omega (arith, leading)) c.requires.on c.requires.within in
    let at = s.meets.at in
    let on = c.requires.on in
    let x = c.index_mut.result.now in
    let all = all-have g.S.DocSet.entries g.met.S.DocSet.rising s.doc s.docsets.items s.meets (omega (arith, leading)) (omega (arith, at, on)) in
    let there = stands-at g.S.DocSet.entries g.met.S.DocSet.rising s.doc c.args.index s.docsets.items x (s.meets.leads (omega (arith, at, on))) all within in
    let here : first (g.S.DocSet.entries x) ≡ s.doc = ap (λ y. first (g.S.DocSet.entries y)) c.index_mut.ensures.value ∙ there in
    omega (arith, here, at, on)

pub positions-requires-clause-room : goal.positions-requires-clause-room
positions-requires-clause-room g c =
    let s = c.args.self.now in
    let leading = s.leading in
    let within = column-within g.S.DocSet.entries g.met.S.DocSet.rising g.met.S.Positioned.one_column s.doc c.args.index s.docsets.items s.meets (omega (arith, leading)) c.requires.on c.requires.within in
    let at = s.meets.at in
    let on = c.requires.on in
    let room = c.requires.room in
    let x = c.index_mut.result.now in
    let is = ap length (column-is g.S.DocSet.entries g.met.S.DocSet.rising g.met.S.Positioned.one_column s.doc c.args.index s.docsets.items x s.meets (omega (arith, leading)) (omega (arith, at, on)) within c.index_mut.ensures.value) in
    omega (arith, is, room)

pub invariant_of-self : goal.invariant_of-self
invariant_of-self g c =
    let s = c.args.self.now in
    let new = c.positions.new.self in
    let x = c.index_mut.result.now in
    let leading = s.leading in
    let within = column-within g.S.DocSet.entries g.met.S.DocSet.rising g.met.S.Positioned.one_column s.doc c.args.index s.docsets.items s.meets (omega (arith, leading)) c.requires.on c.requires.within in
    let long = length-set s.docsets.items c.args.index new in
    record {
      leading = omega (arith, long, leading);
      meets = subst (λ ess. IsMeeting ess s.doc) (sym (map-set_same g.S.DocSet.entries s.docsets.items c.args.index new x (c.positions.ensures.same ∙ ap g.S.DocSet.entries c.index_mut.ensures.value))) s.meets;
    }

pub returns-clause-same : goal.returns-clause-same
returns-clause-same g c =
    let s = c.args.self.now in
    let leading = s.leading in
    let within = column-within g.S.DocSet.entries g.met.S.DocSet.rising g.met.S.Positioned.one_column s.doc c.args.index s.docsets.items s.meets (omega (arith, leading)) c.requires.on c.requires.within in
    ap meeting (map-set_same g.S.DocSet.entries s.docsets.items c.args.index c.positions.new.self c.index_mut.result.now (c.positions.ensures.same ∙ ap g.S.DocSet.entries c.index_mut.ensures.value))

pub returns-clause-items : goal.returns-clause-items
returns-clause-items g c =
    let s = c.args.self.now in
    let leading = s.leading in
    let within = column-within g.S.DocSet.entries g.met.S.DocSet.rising g.met.S.Positioned.one_column s.doc c.args.index s.docsets.items s.meets (omega (arith, leading)) c.requires.on c.requires.within in
    let at = s.meets.at in
    let on = c.requires.on in
    c.positions.ensures.items
    ∙ sym (column-is g.S.DocSet.entries g.met.S.DocSet.rising g.met.S.Positioned.one_column s.doc c.args.index s.docsets.items c.index_mut.result.now s.meets (omega (arith, leading)) (omega (arith, at, on)) within c.index_mut.ensures.value)
