-- The value goes behind the start.
use Rattle.definitions.specs.Terms.{leaf_bytes}
use Rattle.query_text.specs.JsonPaths.{json_path_of}
use Rattle.query_text.proofs.JsonTerms.{any_appended}
use Rattle.query_text.proofs.json_terms.fast_term.Goals as goal

pub returns : goal.returns
returns g c = any_appended (json_path_of c.args.json_path.now) c.in_ok-term.term c.append_type_and_fast_value.new.self (leaf_bytes (g.T.FastValue.value c.args.value)) c.in_ok-term.ensures c.in_ok-append_type_and_fast_value.ensures.ok
