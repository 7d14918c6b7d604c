-- Bytes are a text where they pass the test of it.
use Rattle.std.proofs.Common.{Some, ap, refl, ◌==◌, ◌∙◌}
use Rattle.std.specs.List.{slice_split}
use Rattle.std.proofs.lemmas.Bool.{false_from_ne_true}
use Rattle.std.proofs.lemmas.Str.{IsUtf8-from_is_utf8, is_utf8-from_IsUtf8}
use Rattle.settings.proofs.TermPaths.{parts_at}
use Rattle.settings.proofs.term_values.facet_of_bytes.Goals as goal

pub returns-in_ok-from_separated-in-Ok : goal.returns-in_ok-from_separated-in-Ok
returns-in_ok-from_separated-in-Ok c = rw (is_utf8-from_IsUtf8 c.args.bytes.now c.in-Ok.ensures.cases.1) (ap Some (c.in_ok-from_separated-in-Ok.ensures ∙ parts_at 0 c.in-Ok.steps.now ∙ ap (slice_split (◌==◌ 0)) c.in-Ok.ensures.cases.0))

pub returns-in-Err : goal.returns-in-Err
returns-in-Err c = rw (false_from_ne_true _ (λ e. c.in-Err.ensures.cases.0 (IsUtf8-from_is_utf8 c.args.bytes.now e))) refl
