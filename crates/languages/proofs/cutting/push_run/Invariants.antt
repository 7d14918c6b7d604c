use Rattle.std.proofs.Common.{◌++◌, ◌+◌, ◌≡◌, ◌≤◌, length, map}
use Rattle.common.specs.Token.{token_of}
use Rattle.languages.specs.Tokens.{run_tokens}
use Rattle.languages.specs.Words.{run_words}
use Rattle.languages.proofs.cutting.push_run.Given as goal

-- the tokens so far and those of the rest are all
abbrev pub invariant-loop-rest : goal.invariant-loop-rest
invariant-loop-rest l = record {
  whole : map token_of l.tokens.items ++ run_tokens l.form l.position (run_words l.rest) ≡ map token_of l.initial.tokens.items ++ run_tokens l.form l.fn.position (run_words l.run);
  count : l.position + length (run_words l.rest) ≡ l.fn.position + length (run_words l.run);
  room : l.position + length l.rest ≤ l.fn.position + length l.run;
}

abbrev pub decreases-loop-rest : goal.decreases-loop-rest
decreases-loop-rest l = length l.rest
