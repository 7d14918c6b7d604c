use Rattle.definitions.proofs.ScannedAnswers.{answers_count, answers_hits, answers_places, answers_scores}
use Rattle.definitions.proofs.answer_laws.answers_are_those_of_the_scan.Goals as goal

pub returns-clause-count : goal.returns-clause-count
returns-clause-count c = answers_count

pub returns-clause-scores : goal.returns-clause-scores
returns-clause-scores c = answers_scores

pub returns-clause-places : goal.returns-clause-places
returns-clause-places c = answers_places

pub returns-clause-found : goal.returns-clause-found
returns-clause-found c = answers_hits
