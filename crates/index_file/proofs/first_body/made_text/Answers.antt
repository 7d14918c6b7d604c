-- What is written reads back as a text too.
use Rattle.std.proofs.Common.{string_bytes}
use Rattle.serde_json.specs.View.{view}
use Rattle.index_file.proofs.MadeTexts.{string_utf8, text_back}
use Rattle.index_file.proofs.first_body.made_text.Goals as goal

pub returns-clause-read_back : goal.returns-clause-read_back
returns-clause-read_back c = λ makes. text_back c.args.schema.now c.args.settings.now (view c.in_ok-json.json) (string_bytes c.in_ok-text.text) (string_utf8 c.in_ok-text.text) c.in_ok-json.ensures.value c.in_ok-text.ensures.reads_back (c.in_ok-json.ensures.read_back makes)
