use Rattle.index.proofs.RunReplies.{is_run_over}
use Rattle.index.proofs.session_run.run.Goals as goal

pub returns : goal.returns
returns g c =
    is_run_over c.run_session.result _ c.args.device c.args.analyzer c.new-session.result c.run_session.new.session _ _
    c.new-session.ensures.parts c.new-session.ensures.index c.new-session.ensures.stands c.run_session.ensures.served
    c.run_session.ensures.left
