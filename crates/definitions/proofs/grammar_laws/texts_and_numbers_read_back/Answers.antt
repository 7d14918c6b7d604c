use Rattle.definitions.proofs.TermsReadBack.{number_term_back, text_term_back}
use Rattle.definitions.proofs.grammar_laws.texts_and_numbers_read_back.Goals as goal

pub returns-clause-text : goal.returns-clause-text
returns-clause-text c = text_term_back

pub returns-clause-number : goal.returns-clause-number
returns-clause-number c = number_term_back
