use Rattle.std.proofs.Common.{◌≡◌, drop}
use Rattle.english_stems.specs.Stems.{exceptional, forms_of}
use Rattle.english_stems.proofs.stems.form_of.Given as goal

-- the stem is that by the forms that are left
abbrev pub invariant-loop-form : goal.invariant-loop-form
invariant-loop-form l = exceptional (forms_of (drop l.form-index l.forms)) l.word ≡ exceptional (forms_of l.forms) l.word
