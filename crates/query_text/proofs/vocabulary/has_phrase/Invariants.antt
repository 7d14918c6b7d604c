-- The queries that are left decide.
use Rattle.std.proofs.Common.{drop, map, ◌≡◌}
use Rattle.std.specs.List.{list_any}
use Rattle.query_text.specs.Answers.{is_phrase}
use Rattle.query_trees.specs.Queries.{query_of}
use Rattle.query_text.proofs.vocabulary.has_phrase.Given as goal

abbrev pub invariant-loop-query : goal.invariant-loop-query
invariant-loop-query l = list_any is_phrase (map query_of (drop l.query-index l.queries)) ≡ list_any is_phrase (map query_of l.queries)
