use Rattle.std.proofs.Common.{ap, arith, get_or, length, subst, sym, ◌+◌, ◌-◌, ◌<◌, ◌∙◌, ◌≡◌, ◌≢◌, ℕ}
use Rattle.std.proofs.Math.Seq.{map-set_same}
use Rattle.std.proofs.lemmas.List.{get_or-map, length-map}
use Rattle.docsets.specs.Entries.{first, from}
use Rattle.definitions.proofs.Lists.{by_order}
use Rattle.phrases.specs.Places.{Rises}
use Rattle.phrases.specs.Rows.{IsRow, docs_of, end_of, most_count}
use Rattle.phrases.proofs.RowLaws.{added-behind, added-visited, count-fits, end-behind, from-later, kept-by, rest-behind, rises-apart, rises-before, rows-get, rows-set}
use Rattle.phrases.proofs.suffixes.add_suffix.Given.{Over}
use Rattle.phrases.proofs.suffixes.add_suffix.Goals.{After-index_mut, Then-doc_at-doc}
use Rattle.phrases.proofs.suffixes.add_suffix.Goals as goal

-- the row that is visited
within : (g : Over) (c : After-index_mut g) → c.loop-index.index < length c.loop-index.rows.items
within g c = (let len = c.len.ensures in let test = c.loop-index-test.true in omega (arith, len, test))

here : (g : Over) (c : After-index_mut g) → get_or (docs_of c.loop-index.rows.items) c.loop-index.index 0 ≡ c.index_mut.result.now.doc
here g c = get_or-map (λ r. r.doc) c.loop-index.rows.items c.loop-index.index c.index_mut.result.now 0 (within g c) ∙ ap (λ r. r.doc) (sym c.index_mut.ensures.value)

inside : (g : Over) (c : After-index_mut g) → c.loop-index.index < length (docs_of c.loop-index.rows.items)
inside g c = (let long = length-map c.loop-index.rows.items (λ r. r.doc) in let l = within g c in omega (arith, long, l))

-- other rows that aren't behind it were passed
before : (g : Over) (c : After-index_mut g) (k : ℕ) → k < length c.loop-index.rows.items → k ≢ c.loop-index.index → get_or (docs_of c.loop-index.rows.items) k 0 < c.index_mut.result.now.doc + 1 → get_or (docs_of c.loop-index.rows.items) k 0 < c.loop-index.doc
before g c k l apart m =
    let ds = docs_of c.loop-index.rows.items in
    let index = c.loop-index.index in
    let rises : Rises 0 ds = subst (Rises 0) (sym c.loop-index.invariant.docs) c.requires.rises in
    let long = length-map c.loop-index.rows.items (λ r. r.doc) in
    let at = here g c in
    by_order index k (get_or ds k 0 < c.loop-index.doc)
    (λ b. (let less = rises-apart 0 ds index k rises (omega (arith, apart, b)) (omega (arith, long, l)) in absurd (omega (arith, less, at, m))))
    (λ o. c.loop-index.invariant.passed k o)

pub visit_row-doc-requires-clause-ahead : goal.visit_row-doc-requires-clause-ahead
visit_row-doc-requires-clause-ahead g c =
    let after = (goal.at.visit_row-doc-requires-clause-ahead g c).After-index_mut in
    let found = c.loop-index.invariant.found (within g after) in
    let at = here g after in
    omega (arith, found, at)

pub visit_row-doc-requires-clause-row : goal.visit_row-doc-requires-clause-row
visit_row-doc-requires-clause-row g c =
    let after = (goal.at.visit_row-doc-requires-clause-row g c).After-index_mut in
    subst (IsRow c.args.places.now) (sym c.index_mut.ensures.value) (rows-get c.args.places.now c.loop-index.rows.items c.loop-index.index c.index_mut.result.now c.loop-index.invariant.rows (within g after))

pub visit_row-doc-requires-clause-fits : goal.visit_row-doc-requires-clause-fits
visit_row-doc-requires-clause-fits g c =
    let after = (goal.at.visit_row-doc-requires-clause-fits g c).After-index_mut in
    let fits = count-fits c.args.moved (most_count c.args.rows.now.items) c.args.places.now (g.P.DocSet.entries c.args.suffix.now) (g.P.DocSet.entries c.loop-index.suffix) c.loop-index.rows.items c.args.rows.now.items c.loop-index.index c.index_mut.result.now c.loop-index.invariant.added c.requires.rows (g.met.P.DocSet.rising c.args.suffix.now) (omega arith) (within g after) c.index_mut.ensures.value in
    let counts = c.requires.counts in
    omega (arith, fits, counts)

pub loop-index-smaller : goal.loop-index-smaller
loop-index-smaller g c =
    let after = (goal.at.loop-index-smaller g c).After-index_mut in
    let row = rows-get c.args.places.now c.loop-index.rows.items c.loop-index.index c.index_mut.result.now c.loop-index.invariant.rows (within g after) in
    let small = row.small in
    let doc = ap (λ r. r.doc) c.index_mut.ensures.value in
    let found = c.loop-index.invariant.found (within g after) in
    let at = here g after in
    let later = c.visit_row-doc.ensures.later in
    omega (arith, small, doc, found, at, later)

pub loop-index-preserved : goal.loop-index-preserved
loop-index-preserved g c =
    let after = (goal.at.loop-index-preserved g c).After-index_mut in
    let entries = g.P.DocSet.entries in
    let inv = c.loop-index.invariant in
    let items = c.loop-index.rows.items in
    let index = c.loop-index.index in
    let row = c.index_mut.result.now in
    let is = c.index_mut.ensures.value in
    let v = c.visit_row-doc.ensures in
    let next = c.visit_row-doc.new.row in
    let es = entries c.loop-index.suffix in
    let fs = entries c.visit_row-doc.new.suffix in
    let f = c.find_row-index-in-loop-index.ensures in
    let value = c.deref-in-loop-index.ensures.value in
    let l = within g after in
    let at = inv.at in
    let later = v.later in
    let stands = v.at in
    let ends = end-behind (docs_of items) index (inside g after) in
    let all_docs = ap end_of inv.docs in
    let doc = here g after in
    let most = inv.most in
    let fewer = v.most in
    let room = inv.room in
    let grown = v.room in
    record {
      at = v.at;
      added = added-visited c.args.moved c.args.places.now es fs items index row next l is v.added (λ k m apart. kept-by (get_or (docs_of items) k 0) (row.doc + 1) es fs (g.met.P.DocSet.rising c.loop-index.suffix) (g.met.P.DocSet.rising c.visit_row-doc.new.suffix) v.rest
          (λ b. (let passed = before g after k m apart b in omega (arith, passed, at)))
          (λ b. (let passed = before g after k m apart b in omega (arith, passed, later, stands))))
          ∙ inv.added;
      docs = map-set_same (λ r. r.doc) items index next row (v.doc ∙ ap (λ r. r.doc) is) ∙ inv.docs;
      rows = rows-set c.args.places.now items index next inv.rows v.row;
      rest = from-later (row.doc + 1) (end_of (docs_of c.args.rows.now.items)) es fs v.rest (omega (arith, ends, all_docs, doc)) ∙ inv.rest;
      most = omega (arith, most, fewer);
      within = (let to = f.to in let long = ap length value in omega (arith, to, long));
      passed = λ k m. (let passed = f.passed k m in let same = ap (λ rows. get_or (docs_of rows) k 0) value in omega (arith, passed, same));
      found = λ m. (let long = ap length value in let found = f.found (omega (arith, m, long)) in let same = ap (λ rows. get_or (docs_of rows) c.find_row-index-in-loop-index.result 0) value in omega (arith, found, same));
      room = omega (arith, room, grown);
      rows_room = inv.rows_room;
    }

pub find_row-index-requires-in-loop-index-clause-rises : goal.find_row-index-requires-in-loop-index-clause-rises
find_row-index-requires-in-loop-index-clause-rises g c =
    let items = c.loop-index.rows.items in
    let same = map-set_same (λ r. r.doc) items c.loop-index.index c.visit_row-doc.new.row c.index_mut.result.now (c.visit_row-doc.ensures.doc ∙ ap (λ r. r.doc) c.index_mut.ensures.value) in
    subst (Rises 0) (sym (ap docs_of c.deref-in-loop-index.ensures.value ∙ (same ∙ c.loop-index.invariant.docs))) c.requires.rises

-- where the last row comes before the suffix all do
past : (g : Over) (c : Then-doc_at-doc g) (k : ℕ) → k < length c.args.rows.now.items → get_or (docs_of c.args.rows.now.items) k 0 < first (g.P.DocSet.entries c.args.suffix.now)
past g c k l =
    let rows = c.args.rows.now.items in
    let len = c.len.ensures in
    let test = c.if-doc_at-doc.true in
    let at = c.doc-doc.ensures in
    let some = c.requires.some in
    let long = length-map rows (λ r. r.doc) in
    let last = c.doc_at.ensures ∙ ap (λ rs. get_or (docs_of rs) (c.len.result - 1) 0) c.deref.ensures.value in
    let before = rises-before (docs_of rows) (length rows) (c.len.result - 1) k c.doc-doc.result c.requires.rises (omega (arith, some, len)) (omega (arith, long)) (omega (arith, last, test)) l in
    omega (arith, before, at)

pub returns-then-doc_at-doc-clause-added : goal.returns-then-doc_at-doc-clause-added
returns-then-doc_at-doc-clause-added g c = added-behind c.args.moved c.args.places.now (g.P.DocSet.entries c.args.suffix.now) c.args.rows.now.items (g.met.P.DocSet.rising c.args.suffix.now) (past g c)

pub returns-then-doc_at-doc-clause-rest : goal.returns-then-doc_at-doc-clause-rest
returns-then-doc_at-doc-clause-rest g c = rest-behind (g.P.DocSet.entries c.args.suffix.now) c.args.rows.now.items (g.met.P.DocSet.rising c.args.suffix.now) (past g c)

pub returns-clause-added : goal.returns-clause-added
returns-clause-added g c =
    let es = g.P.DocSet.entries c.loop-index.suffix in
    let inv = c.loop-index.invariant in
    added-behind c.args.moved c.args.places.now es c.loop-index.rows.items (g.met.P.DocSet.rising c.loop-index.suffix) (λ k l. (let len = c.len-in-loop-index.ensures in let test = c.loop-index-test.false in let at = inv.at in let passed = inv.passed k (omega (arith, l, len, test)) in omega (arith, passed, at)))
    ∙ inv.added

pub returns-clause-rest : goal.returns-clause-rest
returns-clause-rest g c =
    let es = g.P.DocSet.entries c.loop-index.suffix in
    let inv = c.loop-index.invariant in
    rest-behind es c.loop-index.rows.items (g.met.P.DocSet.rising c.loop-index.suffix) (λ k l. (let len = c.len-in-loop-index.ensures in let test = c.loop-index-test.false in let at = inv.at in let passed = inv.passed k (omega (arith, l, len, test)) in omega (arith, passed, at)))
    ∙ (ap (λ ds. from (end_of ds) es) inv.docs ∙ inv.rest)
