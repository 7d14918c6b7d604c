-- What was found so far by the code, as the definitions have it.
use Rattle.std.specs.Prelude.{map}
use Rattle.query_text.specs.Answers as answers
use Rattle.query_text.specs.declared.vocabulary.Found.{Found}
use Rattle.query_trees.specs.Queries.{query_of}

-- the queries of the fields so far, and why one has none
abbrev pub found_of : Found → answers.Found
found_of f = record { queries = map query_of f.queries.items; reason = f.reason }
