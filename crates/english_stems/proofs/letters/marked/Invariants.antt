use Rattle.std.proofs.Common.{◌++◌, ◌≡◌, drop, true}
use Rattle.english_stems.specs.Letters.{marked}
use Rattle.english_stems.proofs.letters.marked.Given as goal

-- the letters so far, and the others
abbrev pub invariant-loop-c : goal.invariant-loop-c
invariant-loop-c l = l.letters.items ++ marked l.behind (drop l.c-index l.word) ≡ marked true l.word
