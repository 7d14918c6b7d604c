use Rattle.scorer_answers.proofs.AnswerLaws.{few_documents, scores_match}
use Rattle.scorer_answers.proofs.answer_laws.a_scorer_that_answers_matches.Goals as goal

-- src/answer_laws.rt:14:1
pub returns-clause-matches : goal.returns-clause-matches
returns-clause-matches c sim b q r es scores = scores_match sim b q r es scores

-- src/answer_laws.rt:14:1
pub returns-clause-few : goal.returns-clause-few
returns-clause-few c sim b q r es rises scores = few_documents sim b q r es rises scores
