use Rattle.std.proofs.Common.{IfOk, ◌∙◌, ◌≡◌, ap, map, subst}
use Rattle.std.specs.Char.{to_ascii_lowercase}
use Rattle.languages.proofs.AsciiWords.{folded-ascii}
use Rattle.languages.proofs.folding.fold.Goals as goal

pub returns-then-is_ascii : goal.returns-then-is_ascii
returns-then-is_ascii c =
    let read = ap (map to_ascii_lowercase) c.as_bytes.ensures.value ∙ folded-ascii c.args.text.now c.if-is_ascii.ensures.cases in
    subst (λ xs. IfOk c.lower.result (λ cs. cs.items ≡ xs)) read c.lower.ensures
