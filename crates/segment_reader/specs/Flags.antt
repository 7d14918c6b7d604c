-- Flags of documents.
use Rattle.std.specs.Prelude.{⊤, ◌≡◌, Bool, List, None, Option, Some, length, ℕ}

-- there is a flag for each of `num_docs` documents, if there are flags
abbrev pub HasFlags : ℕ → Option (List Bool) → Type 0
HasFlags num_docs None = ⊤
HasFlags num_docs (Some flags) = length flags ≡ num_docs
