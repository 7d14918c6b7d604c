-- A text that isn't read has the value that is read next.
use Rattle.std.proofs.Common.{IfOk, Option, subst, sym, ◌≡◌}
use Rattle.std.specs.Option.{option_or}
use Rattle.definitions.specs.Reading.{u64_text}
use Rattle.definitions.specs.Values.{Value}
use Rattle.query_text.specs.Answers.{signed_in, json_value_term}
use Rattle.query_text.specs.JsonPaths.{json_path_of}
use Rattle.query_text.proofs.ReadValues.{none_read}
use Rattle.query_text.proofs.json_terms.json_value_term.Goals as goal

pub returns-in-Err : goal.returns-in-Err
returns-in-Err c = subst (λ (o : Option Value). IfOk c.signed_term.result (λ found. found ≡ json_value_term (json_path_of c.args.json_path.now) (option_or o (signed_in c.args.text.now)))) (sym (none_read (u64_text c.args.text.now) _ c.in-Err.ensures)) c.signed_term.ensures
