use Rattle.std.proofs.Common.{IfOk, ◌∙◌, ◌≡◌, ap, chars, encode_utf8_all, string_bytes, subst}
use Rattle.std.proofs.lemmas.Str.{chars-encodes, scalars-chars}
use Rattle.caseless.specs.Caseless.{default_case_fold}
use Rattle.unicode_normalization.specs.Forms.{nfd, nfkc, nfkd}
use Rattle.languages.specs.ScalarLaws.{folding_scalars}
use Rattle.languages.proofs.folding.fold_text.Goals as goal

pub returns : goal.returns
returns c =
    let s = c.args.text.now in
    let steps = folding_scalars (chars s) (scalars-chars s c.utf8.text) in
    let first = ap chars (c.deref.ensures ∙ c.in_ok-decomposed.ensures) ∙ chars-encodes (nfd (chars s)) steps.decomposed in
    let second =
    ap chars (c.deref-2.ensures ∙ c.in_ok-once.ensures)
    ∙ ap (λ xs. chars (encode_utf8_all (default_case_fold xs))) first
    ∙ chars-encodes (default_case_fold (nfd (chars s))) steps.once in
    let third =
    ap chars (c.deref-3.ensures ∙ c.in_ok-compatible.ensures)
    ∙ ap (λ xs. chars (encode_utf8_all (nfkd xs))) second
    ∙ chars-encodes (nfkd (default_case_fold (nfd (chars s)))) steps.compatible in
    let fourth =
    ap chars (c.deref-4.ensures ∙ c.in_ok-twice.ensures)
    ∙ ap (λ xs. chars (encode_utf8_all (default_case_fold xs))) third
    ∙ chars-encodes (default_case_fold (nfkd (default_case_fold (nfd (chars s))))) steps.twice in
    subst (λ xs. IfOk c.to_nfkc.result (λ t. string_bytes t ≡ encode_utf8_all (nfkc xs))) fourth c.to_nfkc.ensures
