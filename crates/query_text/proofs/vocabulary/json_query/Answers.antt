-- The value that was found, and then the words.
use Rattle.std.proofs.Common.{ap, pos, subst, ◌∙◌}
use Rattle.query_text.specs.Answers as definitions
use Rattle.query_text.specs.Clauses.{phrase_of}
use Rattle.query_text.specs.JsonPaths.{json_path_of}
use Rattle.query_text.specs.Refusals.{Gives}
use Rattle.query_trees.specs.Queries.{query_of}
use Rattle.query_text.proofs.vocabulary.json_query.Goals as goal

pub returns : goal.returns
returns g c =
    let json_path = json_path_of c.args.json_path.now in
    let value = definitions.json_value_query json_path c.args.phrase.text.now c.args.phrase.is_prefix in
    let words = definitions.json_text_query (g.A.Analyzer.analyze c.args.analyzer.now) c.args.entry.now json_path (phrase_of c.args.phrase) in
    let given = subst (λ text. Gives query_of c.json_value_query-value.result (definitions.json_value_query json_path text c.args.phrase.is_prefix)) c.requires c.json_value_query-value.ensures in
    let first = c.in_ok-found.ensures.ok value given ∙ ap (λ f. definitions.found_more f value) c.nothing_found-nothing.ensures in
    let second = c.in_ok-all.ensures.ok words c.json_text_query-words.ensures ∙ ap (λ f. definitions.found_more f words) first in
    subst (λ f. Gives query_of c.one_of.result (definitions.one_of (pos 0) f)) second c.one_of.ensures
