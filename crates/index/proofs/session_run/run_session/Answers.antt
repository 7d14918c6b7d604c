use Rattle.index.proofs.RunReplies.{is_failed_run, is_run}
use Rattle.index.proofs.session_run.run_session.Goals as goal

pub returns-clause-served : goal.returns-clause-served
returns-clause-served g c = is_run c.run.result _ c.args.session.now c.run.new.service _ _ c.run.ensures.served

pub returns-clause-left : goal.returns-clause-left
returns-clause-left g c = is_failed_run c.run.result _ c.args.session.now c.run.new.service _ _ c.run.ensures.left
