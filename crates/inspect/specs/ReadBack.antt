-- Documents that are read back from the lines that add them.
use Rattle.std.specs.Prelude.{◌≡◌, ◌≤◌, List, Ok, ℕ}
use Rattle.definitions.specs.Printed.{printed_named}
use Rattle.definitions.specs.Reading.{read_json}
use Rattle.definitions.specs.Schema.{AreDistinct, Schema}
use Rattle.definitions.specs.Stored.{stored_values}
use Rattle.definitions.specs.Values.{Document, IsDocument}
use Rattle.inspect.specs.Lines.{document_text, line_with}
use Rattle.serde_json.specs.Data.{depth}
use Rattle.serde_json.specs.Read.{max_depth}

-- a text gave the document, and what is printed of it nests no deeper than a text may
pub record WasRead (schema : Schema) (doc : Document) : Type 0 where
  pub distinct : AreDistinct schema
  pub values : IsDocument doc
  pub text : List ℕ
  pub read : read_json schema text ≡ Ok doc
  pub shallow : depth (printed_named (stored_values schema doc)) ≤ max_depth

-- what is read of the text of its stored values has these stored values
abbrev pub ReadsBack : Schema → Document → Type 0
ReadsBack schema doc = (back : Document) × (read_json schema (document_text (stored_values schema doc)) ≡ Ok back) × (stored_values schema back ≡ stored_values schema doc)

-- the line adds a document with its stored values
abbrev pub AddsBack : Schema → Document → List ℕ → Type 0
AddsBack schema doc line = (text : List ℕ) × (back : Document) × (line ≡ line_with text) × (read_json schema text ≡ Ok back) × (stored_values schema back ≡ stored_values schema doc)
