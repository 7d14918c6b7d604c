use Rattle.std.proofs.Common.{◌++◌, ◌≡◌, drop, false}
use Rattle.languages.specs.Plain.{without_accents}
use Rattle.languages.proofs.plain.without_accents.Given as goal

-- what is left of the characters so far, and of the others
abbrev pub invariant-loop-c : goal.invariant-loop-c
invariant-loop-c l = l.kept.items ++ without_accents l.loses (drop l.c-index l.chars) ≡ without_accents false l.chars
