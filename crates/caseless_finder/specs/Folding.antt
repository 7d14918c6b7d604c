-- Texts whose case is folded, and their tokens.
use Rattle.std.specs.Prelude.{List, chars, encode_utf8_all, ℕ}
use Rattle.caseless.specs.Caseless.{default_case_fold}
use Rattle.definitions.specs.Analyzers.{Analyzer, raw_and_default}

-- a text with the case of all its letters folded
abbrev pub folded : List ℕ → List ℕ
folded s = encode_utf8_all (default_case_fold (chars s))

-- the tokens of the folded text
abbrev pub case_folding : Analyzer
case_folding name s = raw_and_default name (folded s)
