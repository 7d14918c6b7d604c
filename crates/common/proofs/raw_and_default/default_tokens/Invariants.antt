use Rattle.std.proofs.Common.{◌++◌, ◌≡◌, ◌≤◌, IsCharBoundary, drop, map, true}
use Rattle.std.specs.List.{AllWithin}
use Rattle.definitions.specs.Analyzers.{default_tokens, is_word_byte}
use Rattle.common.specs.Token.{token_of}
use Rattle.common.proofs.Words.{tokens_from}
use Rattle.common.proofs.raw_and_default.default_tokens.Given as goal

-- the tokens so far and those from `start` on are all, and only a word stands from there to here
abbrev pub invariant-loop-i : goal.invariant-loop-i
invariant-loop-i l = record {
  whole : map token_of l.tokens.items ++ tokens_from l.position (drop l.start l.text) ≡ default_tokens l.text;
  word : AllWithin (λ b. is_word_byte b ≡ true) l.text l.start l.i;
  begun : l.start ≤ l.i;
  few : l.position ≤ l.start;
  boundary : IsCharBoundary l.text l.start;
}
