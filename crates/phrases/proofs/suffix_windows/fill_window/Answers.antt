use Rattle.std.proofs.Common.{ap, arith, filter, map, nat_lt, ◌++◌, ◌∙◌}
use Rattle.phrases.specs.PrefixEntries.{prefixed}
use Rattle.phrases.proofs.PrefixEntryLaws.{most_suffix-cut}
use Rattle.phrases.specs.PrefixEntries.{most_suffix_positions}
use Rattle.phrases.specs.Rows.{added, docs_of, end_of, row_entries}
use Rattle.phrases.proofs.WindowLaws.{IsTaken, taken-later, taken-rises, window-same}
use Rattle.phrases.proofs.suffix_windows.fill_window.Given.{Over}
use Rattle.phrases.proofs.suffix_windows.fill_window.Goals.{After-take_rows}
use Rattle.phrases.proofs.suffix_windows.fill_window.Goals as goal

-- what was taken of the phrase
took : (g : Over) (c : After-take_rows g) → IsTaken c.take_rows.new.places.items c.take_rows.new.rows.items (g.W.DocSet.entries c.args.phrase.now) (g.W.DocSet.entries c.take_rows.new.phrase)
took g c = record {
  taken = c.take_rows.ensures.taken;
  rising = g.met.W.DocSet.rising c.args.phrase.now;
  rest_rising = g.met.W.DocSet.rising c.take_rows.new.phrase;
}

pub add_suffixes-requires-clause-rises : goal.add_suffixes-requires-clause-rises
add_suffixes-requires-clause-rises g c = taken-rises c.take_rows.new.places.items c.take_rows.new.rows.items (g.W.DocSet.entries c.args.phrase.now) (g.W.DocSet.entries c.take_rows.new.phrase) (took g (goal.at.add_suffixes-requires-clause-rises g c).After-take_rows)

pub returns-clause-same : goal.returns-clause-same
returns-clause-same g c =
    let moved = c.args.moved in
    let places = c.take_rows.new.places.items in
    let rows = c.take_rows.new.rows.items in
    let ess = map g.P.DocSet.entries c.args.suffixes.now.items in
    let es = g.W.DocSet.entries c.args.phrase.now in
    let rest = g.W.DocSet.entries c.take_rows.new.phrase in
    let a = c.add_suffixes.ensures in
    let left = prefixed moved (map g.P.DocSet.entries c.add_suffixes.new.suffixes.items) rest in
    let kept = c.keep_followed.ensures.items in
    let added_is = a.added ∙ ap (λ ps. map (added moved ps ess) rows) c.deref-4.ensures.value in
    ap (λ rs. row_entries places rs ++ left) (kept ∙ ap (filter (λ r. nat_lt 0 r.count)) added_is)
    ∙ (ap (λ fss. row_entries places (filter (λ r. nat_lt 0 r.count) (map (added moved places ess) rows)) ++ prefixed moved fss rest) a.rest
    ∙ window-same moved places rows ess es rest (took g (goal.at.returns-clause-same g c).After-take_rows) c.take_rows.ensures.fresh)

pub returns-clause-later : goal.returns-clause-later
returns-clause-later g c = taken-later c.take_rows.new.places.items c.take_rows.new.rows.items (g.W.DocSet.entries c.args.phrase.now) (g.W.DocSet.entries c.take_rows.new.phrase) (took g (goal.at.returns-clause-later g c).After-take_rows) (c.take_rows.ensures.some c.requires.on)

pub returns-clause-most : goal.returns-clause-most
returns-clause-most g c =
    let fewer = most_suffix-cut (end_of (docs_of c.take_rows.new.rows.items)) (map g.P.DocSet.entries c.args.suffixes.now.items) in
    let is = ap most_suffix_positions c.add_suffixes.ensures.rest in
    omega (arith, fewer, is)
