-- The documents of entries.
use Rattle.std.specs.Prelude.{List, map, ℕ}
use Rattle.docsets.specs.Entries.{Entry}

-- the documents alone
abbrev pub documents : List Entry → List ℕ
documents es = map (λ e. e.doc) es
