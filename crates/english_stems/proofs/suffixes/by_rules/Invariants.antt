use Rattle.std.proofs.Common.{◌≡◌, drop}
use Rattle.english_stems.specs.Suffixes.{by_rules, rules_of}
use Rattle.english_stems.proofs.suffixes.by_rules.Given as goal

-- the word is that by the rules that are left
abbrev pub invariant-loop-rule : goal.invariant-loop-rule
invariant-loop-rule l = by_rules l.start (rules_of (drop l.rule-index l.rules)) l.word.items ≡ by_rules l.start (rules_of l.rules) l.fn.word.items
