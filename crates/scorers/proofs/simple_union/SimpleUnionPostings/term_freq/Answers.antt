use Rattle.std.proofs.Common.{ap, false, if◌then◌else◌, is_some, map, sum, sym, true, ◌∙◌, ◌≡◌}
use Rattle.docsets.specs.Members.{entries_at}
use Rattle.scorers.proofs.Together.{together-count, together-on_document}
use Rattle.scorers.specs.Uniting.{counts_in}
use Rattle.scorers.proofs.simple_union.SimpleUnionPostings.term_freq.Goals as goal

pub returns-then-is_none : goal.returns-then-is_none
returns-then-is_none g c =
    let s = c.args.self.now in
    let entries = g.S.DocSet.entries in
    let rising = g.met.S.DocSet.rising in
    let on = together-on_document entries rising (is_some s.positions) s.docsets.items s.doc s.together c.requires in
    let untold : is_some s.positions ≡ false = c.if-is_none.ensures in
    sym (together-count entries rising (is_some s.positions) s.docsets.items s.doc s.together on ∙ ap (λ b. if b then sum (counts_in (entries_at s.doc (map entries s.docsets.items))) else 0) untold)

pub freq_at-requires-clause-on : goal.freq_at-requires-clause-on
freq_at-requires-clause-on g c = (let s = c.args.self.now in together-on_document g.S.DocSet.entries g.met.S.DocSet.rising (is_some s.positions) s.docsets.items s.doc s.together c.requires)

pub returns : goal.returns
returns g c =
    let s = c.args.self.now in
    let entries = g.S.DocSet.entries in
    let rising = g.met.S.DocSet.rising in
    let on = together-on_document entries rising (is_some s.positions) s.docsets.items s.doc s.together c.requires in
    let told : is_some s.positions ≡ true = c.if-is_none.ensures in
    c.freq_at.ensures ∙ sym (together-count entries rising (is_some s.positions) s.docsets.items s.doc s.together on ∙ ap (λ b. if b then sum (counts_in (entries_at s.doc (map entries s.docsets.items))) else 0) told)
