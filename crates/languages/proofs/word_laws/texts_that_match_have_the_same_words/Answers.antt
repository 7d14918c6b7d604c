-- Texts that match.
use Rattle.languages.proofs.Meetings.{same_words}
use Rattle.languages.specs.declared.word_form.WordForm.TheVariants.{English, Folded, Plain}
use Rattle.languages.proofs.word_laws.texts_that_match_have_the_same_words.Goals as goal

pub returns-clause-words : goal.returns-clause-words
returns-clause-words c = same_words Folded

pub returns-clause-plain : goal.returns-clause-plain
returns-clause-plain c = same_words Plain

pub returns-clause-english : goal.returns-clause-english
returns-clause-english c = same_words English
