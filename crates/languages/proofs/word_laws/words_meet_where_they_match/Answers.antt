-- Words that meet.
use Rattle.languages.proofs.Meetings.{met}
use Rattle.languages.proofs.word_laws.words_meet_where_they_match.Goals as goal

pub returns : goal.returns
returns c = met
