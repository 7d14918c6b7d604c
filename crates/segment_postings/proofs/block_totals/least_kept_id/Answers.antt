use Rattle.std.proofs.Common.{ap, arith, get_or, length, map, ◌<◌, ◌∙◌, ◌≡◌}
use Rattle.segment_postings.proofs.NumberFolds.{all_at, first_id, lowest, lowest_begins}
use Rattle.layouts.specs.TermPostings.{id_of}
use Rattle.std.proofs.lemmas.List.{length-map}
use Rattle.segment_postings.proofs.block_totals.least_kept_id.Goals as goal

pub loop-doc-init : goal.loop-doc-init
loop-doc-init c =
    let docs = c.args.docs.now in
    let ids = c.args.reader.now in
    let kept : get_or docs 0 0 < length ids = all_at (λ doc. doc < length ids) docs c.requires.kept 0 c.requires.some in
    let long = length-map docs (id_of ids) in
    let some = c.requires.some in
    let first : c.fieldnorm_id-least.result ≡ get_or (map (id_of ids) docs) 0 0 = c.fieldnorm_id-least.ensures ∙ first_id ids docs c.requires.some kept in
    ap (λ k. lowest k (map (id_of ids) docs)) first ∙ lowest_begins (map (id_of ids) docs) (omega (arith, long, some))
