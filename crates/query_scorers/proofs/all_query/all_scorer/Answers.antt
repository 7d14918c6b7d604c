use Rattle.std.proofs.Common.{ap, of_z, rules, to_z, ◌≡◌, ◌∙◌}
use Rattle.std.proofs.lemmas.Int.{to_z-of_z}
use mir.Syntax.{w64}
use mir.Val.{SFits}
use Rattle.definitions.specs.Scoring.{natural}
use Rattle.docsets.specs.ScoredEntries.{all_from}
use Rattle.query_scorers.proofs.AllDocuments.{all_fit, boosted_all}
use Rattle.query_scorers.proofs.all_query.all_scorer.Goals as goal

pub new-requires-2-clause-fits : goal.new-requires-2-clause-fits
new-requires-2-clause-fits c =
    let fits : SFits w64 c.args.boost = search rules in
    let boost : natural (to_z w64 (of_z w64 c.args.boost)) ≡ natural c.args.boost = ap natural (to_z-of_z w64 c.args.boost fits) in
    all_fit _ (natural c.args.boost) _ _ boost c.requires.fits

pub returns : goal.returns
returns c =
    let fits : SFits w64 c.args.boost = search rules in
    let boost : natural (to_z w64 (of_z w64 c.args.boost)) ≡ natural c.args.boost = ap natural (to_z-of_z w64 c.args.boost fits) in
    λ sim. boosted_all sim (natural c.args.boost) _ c.args.reader.now _ _ boost (c.new-2.ensures) (c.new.ensures ∙ ap (all_from 0) c.max_doc.ensures.value)
