-- What is shown so far, and what there is still room for, are the beginning.
use Rattle.std.proofs.Common.{IsUtf8, chars, string_bytes, ◌++◌, ◌≡◌}
use Rattle.std.specs.Str.Iter.{chars_rest}
use Rattle.snippets.specs.Passages.{max_passage_len}
use Rattle.snippets.specs.ShownTexts.{begun, shown_chars}
use Rattle.snippets.proofs.shown_texts.push_begun.Given as goal

abbrev pub invariant-loop-c : goal.invariant-loop-c
invariant-loop-c l = IsUtf8 (chars_rest l.c-iterator) × (string_bytes l.out ++ shown_chars (begun l.room (chars (chars_rest l.c-iterator))) ≡ string_bytes l.fn.out ++ shown_chars (begun max_passage_len (chars l.text)))
