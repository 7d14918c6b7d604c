use Rattle.std.proofs.Common.{IfOk, ◌∙◌, ◌≡◌, subst, sym}
use Rattle.languages.proofs.AsciiWords.{plain-ascii}
use Rattle.languages.proofs.plain.plain.Goals as goal

pub returns-then-are_ascii : goal.returns-then-are_ascii
returns-then-are_ascii c =
    subst (λ xs. IfOk c.from_slice.result (λ cs. cs.items ≡ xs)) (plain-ascii c.args.word.now (sym c.are_ascii.ensures ∙ c.if-are_ascii.true)) c.from_slice.ensures.items
