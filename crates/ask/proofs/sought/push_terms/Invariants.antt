-- Those so far and those of the terms that are left are all.
use Rattle.std.proofs.Common.{drop, map, ◌++◌, ◌≡◌}
use Rattle.ask.specs.Sought.{words_in_terms}
use Rattle.snippets.specs.Views.{word_of}
use Rattle.ask.proofs.sought.push_terms.Given as goal

abbrev pub invariant-loop-offset : goal.invariant-loop-offset
invariant-loop-offset l = map word_of l.words.items ++ words_in_terms l.field (drop l._offset-index l.terms) ≡ map word_of l.fn.words.items ++ words_in_terms l.field l.terms
