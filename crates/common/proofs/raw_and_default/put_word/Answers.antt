use Rattle.std.proofs.Common.{◌++◌, ap, ◌∙◌}
use Rattle.common.proofs.TokenParts.{run_of_part}
use Rattle.common.proofs.raw_and_default.put_word.Goals as goal

pub returns-in_ok-push_part-clause-tokens : goal.returns-in_ok-push_part-clause-tokens
returns-in_ok-push_part-clause-tokens c = λ s lowered.
    c.in_ok-push_part.ensures.tokens ∙ ap (λ ts. c.args.buffer.now.1 ++ ts) (run_of_part s c.args.buffer.now.0 c.args.position c.args.start c.args.end lowered c.requires.rise c.requires.end.0 c.if-end-start-le-MAX_WORD_LEN.true)
