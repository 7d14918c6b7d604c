use Rattle.std.proofs.Common.{◌++◌, ◌≡◌, ◌≤◌, drop, map, true}
use Rattle.std.specs.List.{AllWithin}
use Rattle.common.specs.Token.{token_of}
use Rattle.languages.specs.Characters.{is_word_char}
use Rattle.languages.specs.Tokens.{runs_tokens}
use Rattle.languages.specs.Words.{runs}
use Rattle.languages.proofs.cutting.cut.Given as goal

-- the tokens so far and those from `start` on are all, and only characters of words stand from there to here
abbrev pub invariant-loop-i : goal.invariant-loop-i
invariant-loop-i l = record {
  whole : map token_of l.tokens.items ++ runs_tokens l.form l.position (runs (drop l.start l.chars)) ≡ runs_tokens l.form 0 (runs l.chars);
  run : AllWithin (λ c. is_word_char c ≡ true) l.chars l.start l.i;
  begun : l.start ≤ l.i;
  few : l.position ≤ l.start;
}
