use Rattle.std.proofs.Common.{◌+◌, ◌≡◌, drop, false}
use Rattle.english_stems.specs.Regions.{region}
use Rattle.english_stems.proofs.regions.region.Given as goal

-- the letters so far and those up to where the region begins
abbrev pub invariant-loop-i : goal.invariant-loop-i
invariant-loop-i l = l.i + region l.behind_vowel (drop l.i l.word) ≡ region false l.word
