use Rattle.std.proofs.Common.{◌≡◌, bytes_eq, drop}
use Rattle.english_stems.proofs.suffixes.is_text.Given as goal

-- the word is the text where it is from here on
abbrev pub invariant-loop-i : goal.invariant-loop-i
invariant-loop-i l = bytes_eq (drop l.i l.word) (drop l.i l.text) ≡ bytes_eq l.word l.text
