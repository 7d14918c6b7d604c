use Rattle.definitions.proofs.Runs.{runs_are_words, runs_joined}
use Rattle.definitions.proofs.word_laws.runs_are_the_words.Goals as goal

pub returns-clause-joined : goal.returns-clause-joined
returns-clause-joined c s = runs_joined s

pub returns-clause-words : goal.returns-clause-words
returns-clause-words c s = runs_are_words s
