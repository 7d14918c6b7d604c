use Rattle.definitions.proofs.ReplyTexts.{error_text, ok_text}
use Rattle.definitions.proofs.grammar_laws.replies_are_compact_json.Goals as goal

pub returns-clause-refused : goal.returns-clause-refused
returns-clause-refused c = error_text

pub returns-clause-succeeds : goal.returns-clause-succeeds
returns-clause-succeeds c = ok_text
