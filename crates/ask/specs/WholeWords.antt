-- Words and phrases that every text field has to be looked into for.
use Rattle.std.specs.Prelude.{true}
use Rattle.query_text.specs.Reading.{Vocabulary}

-- each as one that is left out
abbrev pub whole_words : Vocabulary → Vocabulary
whole_words words phrase = words (record phrase { is_excluded = true })
