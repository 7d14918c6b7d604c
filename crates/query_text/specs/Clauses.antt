-- Clauses of the code, as the definitions have them.
use Rattle.std.specs.Prelude.{option_map}
use Rattle.definitions.specs.Query as queries
use Rattle.query_text.specs.Heads as heads
use Rattle.query_text.specs.Reading as reading
use Rattle.query_text.specs.declared.heads.Head.{Head}
use Rattle.query_text.specs.declared.phrase.Phrase.{Phrase}
use Rattle.query_trees.specs.Queries.{occur_of, query_of}
use Rattle.query_trees.specs.declared.any_query.AnyQuery.{AnyQuery}
use Rattle.query_trees.specs.declared.occur.Occur.{Occur}

-- the head of a run of bytes
abbrev pub head_view : Head → heads.Head
head_view h = record { mark = occur_of h.occur; field = option_map (λ f. f.now) h.field; rest = h.rest.now }

-- words
abbrev pub phrase_of : Phrase → reading.Phrase
phrase_of p = record { field = option_map (λ f. f.now) p.field; text = p.text.now; slop = p.slop; is_prefix = p.is_prefix; is_excluded = p.is_excluded }

-- a clause
abbrev pub clause_of : Occur × AnyQuery → queries.Occur × queries.Query
clause_of c = (occur_of c.0, query_of c.1)
