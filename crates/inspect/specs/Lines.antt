-- Lines that add documents.
use Rattle.std.specs.Prelude.{◌++◌, List, codes, ℕ}
use Rattle.definitions.specs.Printed.{printed_named}
use Rattle.definitions.specs.Stored.{Named}
use Rattle.serde_json.specs.Written.{compact_text}

-- the text of a document with these values
abbrev pub document_text : Named → List ℕ
document_text named = compact_text (printed_named named)

-- the line that adds the document of a text
abbrev pub line_with : List ℕ → List ℕ
line_with text = (codes "{\"op\":\"add\",\"doc\":" ++ text) ++ codes "}"

-- the line that adds these values
abbrev pub add_line : Named → List ℕ
add_line named = line_with (document_text named)
