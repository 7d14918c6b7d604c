-- Each side computes.
use Rattle.std.proofs.Common.{refl}
use Rattle.std.specs.Str.{chars, is_utf8}
use lib.Utf8.{encode}
use Rattle.query_text.proofs.grammar_examples.phrases_need_positions.Goals as goal

pub returns-clause-any : goal.returns-clause-any
unfolding is_utf8 chars encode
returns-clause-any c = refl

pub returns-clause-named : goal.returns-clause-named
unfolding is_utf8 chars encode
returns-clause-named c = refl

pub returns-clause-none : goal.returns-clause-none
unfolding is_utf8 chars encode
returns-clause-none c = refl
