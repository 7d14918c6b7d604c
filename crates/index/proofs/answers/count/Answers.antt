use Rattle.definitions.specs.Requests as requests
use Rattle.index.proofs.Answering.{refusal_answered}
use Rattle.serde_json.specs.View.{view}
use Rattle.index.proofs.Causes.{stop_is_memory}
use Rattle.std.proofs.Common.{Err, Ok, refl}
use Rattle.definitions.specs.Replies.{count_reply}
use Rattle.index.proofs.Endings.{memory_tells, refusal_tells}
use Rattle.index.proofs.answers.count.Goals as goal

pub returns-in-Err-clause-answered : goal.returns-in-Err-clause-answered
returns-in-Err-clause-answered g c k x s = refusal_answered g.A.Analyzer.analyze c.args.index.now k x (requests.count_docs (view c.args.query.now)) c.in-Err.fault c.refusal.result s (c.in-Err.ensures.err k x s) c.refusal.ensures.text c.refusal.ensures.on

pub returns-in-Err-clause-err : goal.returns-in-Err-clause-err
returns-in-Err-clause-err g c k x s = stop_is_memory c.in-Err.fault c.refusal.result (c.in-Err.ensures.goes_on k x s) c.refusal.ensures.same c.refusal.ensures.err

-- ---- an index of whatever documents

pub returns-in_ok-count_text-in-Ok-clause-comes : goal.returns-in_ok-count_text-in-Ok-clause-comes
returns-in_ok-count_text-in-Ok-clause-comes g c = record {
  made = record { analyzer = refl; schema = refl; settings = refl };
  outcome = Ok (count_reply c.in-Ok.count);
  tells = c.in_ok-count_text-in-Ok.ensures;
  ends = c.in-Ok.ensures.ends;
}

pub returns-in_err-count_text-in-Ok-clause-comes : goal.returns-in_err-count_text-in-Ok-clause-comes
returns-in_err-count_text-in-Ok-clause-comes g c = record {
  made = record { analyzer = refl; schema = refl; settings = refl };
  outcome = Ok (count_reply c.in-Ok.count);
  tells = memory_tells (count_reply c.in-Ok.count) c.from_residual.result c.from_residual.ensures.1;
  ends = c.in-Ok.ensures.ends;
}

pub returns-in-Err-clause-comes : goal.returns-in-Err-clause-comes
returns-in-Err-clause-comes g c = record {
  made = record { analyzer = refl; schema = refl; settings = refl };
  outcome = Err c.in-Err.fault;
  tells = refusal_tells c.in-Err.fault c.refusal.result c.refusal.ensures.text c.refusal.ensures.on c.refusal.ensures.err c.refusal.ensures.same;
  ends = c.in-Err.ensures.ends;
}
