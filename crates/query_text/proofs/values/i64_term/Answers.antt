-- A text that isn't read has no term.
use Rattle.std.proofs.Common.{Option, ap, option_and_then, option_map, sym}
use Rattle.definitions.specs.Reading.{i64_text}
use Rattle.definitions.specs.Schema.{i64_kind}
use Rattle.definitions.specs.Terms.{term_bytes, value_bytes}
use Rattle.definitions.specs.Values.{Value}
use Rattle.query_text.proofs.ReadValues.{none_read}
use Rattle.query_text.proofs.values.i64_term.Goals as goal

pub returns-in-Err : goal.returns-in-Err
returns-in-Err c = sym (ap (λ (o : Option Value). option_map (term_bytes c.args.field i64_kind) (option_and_then (value_bytes i64_kind) o)) (none_read (i64_text c.args.text.now) _ c.in-Err.ensures))
