-- The forms of words.
use Rattle.std.specs.Prelude.{List, ℕ}
use Rattle.english_stems.specs.Stems.{stem}
use Rattle.languages.specs.declared.word_form.WordForm.{WordForm}
use Rattle.languages.specs.declared.word_form.WordForm.TheVariants.{English, Folded, Plain}
use Rattle.languages.specs.Plain.{plain}

-- a word in its form: as it is in the folded text, without accents, or the English stem of that
abbrev pub formed : WordForm → List ℕ → List ℕ
formed Folded word = word
formed Plain word = plain word
formed English word = stem (plain word)
