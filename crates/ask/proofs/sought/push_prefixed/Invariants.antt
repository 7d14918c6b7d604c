-- Those so far and those of the terms that are left are all.
use Rattle.std.proofs.Common.{drop, map, ◌++◌, ◌≡◌}
use Rattle.ask.specs.Sought.{words_in_prefixed}
use Rattle.snippets.specs.Views.{word_of}
use Rattle.ask.proofs.sought.push_prefixed.Given as goal

abbrev pub invariant-loop-number : goal.invariant-loop-number
invariant-loop-number l = map word_of l.words.items ++ words_in_prefixed l.field (drop l.number l.terms) ≡ map word_of l.fn.words.items ++ words_in_prefixed l.field l.terms
