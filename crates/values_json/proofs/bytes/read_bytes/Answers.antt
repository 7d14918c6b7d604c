-- What the library decodes is what the definition reads.
use Rattle.std.proofs.Common.{ap, refl, sym, ◌∙◌}
use Rattle.base64.specs.Engines.{standard}
use Rattle.base64.specs.GeneralPurpose.{decoded_of}
use Rattle.values_json.proofs.LibraryTexts.{bytes_read, bytes_refused}
use Rattle.values_json.proofs.bytes.read_bytes.Goals as goal

pub returns-in-Ok-clause-ok : goal.returns-in-Ok-clause-ok
returns-in-Ok-clause-ok c = ap (decoded_of standard) (sym c.as_bytes.ensures.value) ∙ bytes_read c.as_bytes.result.now c.in-Ok.bytes.items c.in-Ok.ensures.ok

pub returns-in-Err-DecodeError-clause-err : goal.returns-in-Err-DecodeError-clause-err
returns-in-Err-DecodeError-clause-err c =
    let e = c.in-Err-DecodeError in
    λ other. (refl, ap (decoded_of standard) (sym c.as_bytes.ensures.value) ∙ bytes_refused c.as_bytes.result.now e.field-0-0 (rw e.field-0-is at e.ensures.err))
