-- Paths in JSON objects of the code, as the definitions have them.
use Rattle.query_text.specs.Answers as answers
use Rattle.query_text.specs.declared.json_terms.JsonPath.{JsonPath}

-- a path
abbrev pub json_path_of : JsonPath → answers.JsonPath
json_path_of p = record { field = p.field; path = p.path.now; expand_dots = p.expand_dots }
