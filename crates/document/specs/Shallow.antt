-- Documents that nest no deeper than documents are read.
use Rattle.std.specs.Prelude.{◌≤◌}
use Rattle.std.specs.List.{AllByRecursion}
use Rattle.definitions.specs.Indexable.{max_nesting}
use Rattle.definitions.specs.Values.{Document, nesting}

-- no value nests deeper than one can be read
abbrev pub IsShallow : Document → Type 0
IsShallow doc = AllByRecursion (λ p. nesting p.1 ≤ max_nesting) doc
