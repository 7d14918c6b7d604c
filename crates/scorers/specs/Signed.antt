-- Documents with scores as a scorer gives them.
use Rattle.std.specs.Prelude.{List, map, pos, ℕ, ℤ}
use Rattle.docsets.specs.Entries.{Entry}

-- each document with its score
abbrev pub signed : List Entry → List (ℕ × ℤ)
signed es = map (λ e. (e.doc, pos e.score)) es
