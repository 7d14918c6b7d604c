-- The characters so far are shown.
use Rattle.std.proofs.Common.{string_bytes, ◌++◌, ◌≡◌}
use Rattle.snippets.specs.ShownTexts.{shown_chars}
use Rattle.snippets.proofs.shown_texts.push_text.Given as goal

abbrev pub invariant-loop-c : goal.invariant-loop-c
invariant-loop-c l = string_bytes l.out ≡ string_bytes l.fn.out ++ shown_chars l.yielded
