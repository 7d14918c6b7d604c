use Rattle.std.proofs.Common.{IfOk, ◌∙◌, ◌≡◌, ap, chars, subst}
use Rattle.std.proofs.lemmas.Str.{chars-encodes, scalars-chars}
use Rattle.languages.specs.Folding.{folded}
use Rattle.languages.specs.ScalarLaws.{folding_scalars}
use Rattle.languages.proofs.folding.fold_any.Goals as goal

pub returns : goal.returns
returns c =
    let s = c.args.text.now in
    let steps = folding_scalars (chars s) (scalars-chars s c.utf8.text) in
    let read = ap chars (c.deref.ensures ∙ c.in_ok-folded.ensures) ∙ chars-encodes (folded (chars s)) steps.all in
    subst (λ xs. IfOk c.chars_of.result (λ cs. cs.items ≡ xs)) read c.chars_of.ensures
