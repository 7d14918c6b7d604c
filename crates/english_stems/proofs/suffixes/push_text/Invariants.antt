use Rattle.std.proofs.Common.{◌++◌, ◌≡◌, drop}
use Rattle.english_stems.proofs.suffixes.push_text.Given as goal

-- the word with what is left of the text
abbrev pub invariant-loop-b : goal.invariant-loop-b
invariant-loop-b l = l.word.items ++ drop l.b-index l.text ≡ l.fn.word.items ++ l.text
