use Rattle.index.proofs.session.SessionService.reply.Goals as goal

pub returns : goal.returns
returns g c = record {
  replies = c.answer_line.ensures.answered;
  stops = c.answer_line.ensures.err;
  honest = c.answer_line.ensures.honest;
  later = c.answer_line.ensures.later;
  kept = c.answer_line.ensures.kept;
  asks = c.answer_line.ensures.asks;
  comes = c.answer_line.ensures.comes;
}
