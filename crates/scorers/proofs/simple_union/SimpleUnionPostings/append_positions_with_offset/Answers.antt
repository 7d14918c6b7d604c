use Rattle.std.proofs.Common.{ap, arith, is_some, length, map, subst, sym, vec_capacity, ◌++◌, ◌+◌, ◌<◌, ◌∙◌}
use Rattle.definitions.proofs.Lists.{on_err}
use Rattle.docsets.specs.Entries.{highest}
use Rattle.docsets.specs.Distinct.{distinct}
use Rattle.scorers.proofs.Together.{together-on_document, together-positions}
use Rattle.scorers.proofs.simple_union.SimpleUnionPostings.append_positions_with_offset.Goals as goal

pub append_united-requires-clause-on : goal.append_united-requires-clause-on
append_united-requires-clause-on g c = (let s = c.args.self.now in together-on_document g.S.DocSet.entries g.met.S.DocSet.rising (is_some s.positions) s.docsets.items s.doc s.together c.requires.on)

pub append_united-requires-clause-fits : goal.append_united-requires-clause-fits
append_united-requires-clause-fits g c =
    let s = c.args.self.now in
    let entries = g.S.DocSet.entries in
    let rising = g.met.S.DocSet.rising in
    let on = together-on_document entries rising (is_some s.positions) s.docsets.items s.doc s.together c.requires.on in
    let same = ap highest (together-positions entries rising (is_some s.positions) s.docsets.items s.doc s.together on) in
    let fits = c.requires.fits in
    omega (arith, same, fits)

pub returns-in_err-append_united-clause-full : goal.returns-in_err-append_united-clause-full
returns-in_err-append_united-clause-full g c =
    let s = c.args.self.now in
    let entries = g.S.DocSet.entries in
    let rising = g.met.S.DocSet.rising in
    let on = together-on_document entries rising (is_some s.positions) s.docsets.items s.doc s.together c.requires.on in
    on_err c.from_residual.result (subst (λ ps. vec_capacity c.args.output.now < length (distinct (c.args.output.now.items ++ map (λ p. p + c.args.offset) ps))) (sym (together-positions entries rising (is_some s.positions) s.docsets.items s.doc s.together on)) c.in_err-append_united.ensures.full)

pub returns-clause-ok : goal.returns-clause-ok
returns-clause-ok g c =
    let s = c.args.self.now in
    let entries = g.S.DocSet.entries in
    let rising = g.met.S.DocSet.rising in
    let on = together-on_document entries rising (is_some s.positions) s.docsets.items s.doc s.together c.requires.on in
    c.in_ok-append_united.ensures.ok ∙ ap (λ ps. distinct (c.args.output.now.items ++ map (λ p. p + c.args.offset) ps)) (sym (together-positions entries rising (is_some s.positions) s.docsets.items s.doc s.together on))
