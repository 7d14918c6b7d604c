use Rattle.definitions.proofs.Steps.{answered_call, refused_call, unread_call}
use Rattle.definitions.proofs.grammar_laws.a_request_is_its_call.Goals as goal

pub returns-clause-refused : goal.returns-clause-refused
returns-clause-refused g = refused_call

pub returns-clause-answered : goal.returns-clause-answered
returns-clause-answered g = answered_call

pub returns-clause-unread : goal.returns-clause-unread
returns-clause-unread g = unread_call
