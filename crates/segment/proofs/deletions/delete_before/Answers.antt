use Rattle.std.proofs.Common.{[], List, ap, length, map, subst, sym, ◌<◌, ◌≡◌, ◌∙◌}
use Rattle.std.proofs.Math.Logic.{∥∥₁_elim}
use Rattle.std.specs.List.{AllByRecursion}
use Rattle.definitions.specs.Postings.{Posting}
use Rattle.segment_reader.specs.Readers.{Contents, Reader, postings_held}
use Rattle.segment.specs.Killed.{before, killed}
use Rattle.segment.proofs.KilledFlags.{all_below, length-killed}
use Rattle.segment.proofs.Reading.{documents_contents, documents_held, documents_many, opened_contents}
use Rattle.segment.proofs.StruckRows.{killed_rows}
use Rattle.segment_definitions.specs.Rows.{flagged}
use Rattle.segment_postings.specs.Cursors.{docs_left}
use Rattle.segment.proofs.deletions.delete_before.Goals as goal

pub kill_postings-requires : goal.kill_postings-requires
kill_postings-requires c =
    let flags = c.args.alive.now in
    let docs = docs_left c.in-Some.postings in
    ∥∥₁_elim c.args.segment.now.opened (all_below (length flags) docs) (λ o.
    (let within = subst (λ (r : Reader). (contents : Contents r) → AllByRecursion (λ doc. doc < contents.num_docs) docs) c.inverted_index-index.ensures (λ contents. (c.in-Some.ensures.some contents).within) in
    subst (λ n. AllByRecursion (λ doc. doc < n) docs) (sym c.requires.flagged) (within (opened_contents o.0 c.args.segment.now o.1))))

pub returns-in-Some-clause-dead : goal.returns-in-Some-clause-dead
returns-in-Some-clause-dead c schema analyze i docs stands =
    let s = c.args.segment.now in
    let t = c.args.term.now in
    let flags = c.args.alive.now in
    let left = docs_left c.in-Some.postings in
    let told = subst (λ (r : Reader). (contents : Contents r) → left ≡ map (λ (x : Posting). x.doc) (postings_held contents.schema contents.fields t)) c.inverted_index-index.ensures (λ contents. (c.in-Some.ensures.some contents).docs) in
    let found = told (documents_contents schema analyze docs s stands) ∙ ap (λ (ps : List Posting). map (λ (x : Posting). x.doc) ps) (documents_held schema analyze docs s stands t) in
    let end = c.args.end in
    ap (flagged docs) (c.kill_postings.ensures ∙ ap (λ ds. killed (before end ds) flags) found) ∙ killed_rows schema analyze t end i docs flags (c.requires.flagged ∙ documents_many schema analyze docs s stands)

pub returns-in-Some-clause-long : goal.returns-in-Some-clause-long
returns-in-Some-clause-long c = ap length c.kill_postings.ensures ∙ length-killed (before c.args.end (docs_left c.in-Some.postings)) c.args.alive.now

pub returns-in_default-clause-dead : goal.returns-in_default-clause-dead
returns-in_default-clause-dead c schema analyze i docs stands =
    let s = c.args.segment.now in
    let t = c.args.term.now in
    let flags = c.args.alive.now in
    let told = subst (λ (r : Reader). (contents : Contents r) → postings_held contents.schema contents.fields t ≡ []) c.inverted_index-index.ensures c.in_default.ensures.none in
    let none = ap (λ (ps : List Posting). map (λ (x : Posting). x.doc) ps) (sym (told (documents_contents schema analyze docs s stands)) ∙ documents_held schema analyze docs s stands t) in
    ap (λ ds. flagged docs (killed (before c.args.end ds) flags)) none ∙ killed_rows schema analyze t c.args.end i docs flags (c.requires.flagged ∙ documents_many schema analyze docs s stands)
