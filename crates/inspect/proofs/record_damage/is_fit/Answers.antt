use Rattle.std.proofs.Common.{ap}
use Rattle.std.proofs.lemmas.Result.{IfOk-weaker}
use Rattle.index_file.specs.Parts.{part_of}
use Rattle.inspect.proofs.record_damage.is_fit.Goals as goal

pub returns-in-Fresh-clause-no : goal.returns-in-Fresh-clause-no
returns-in-Fresh-clause-no c = IfOk-weaker c.is_segment.result _ _ (λ is none told. (c.in-Fresh.bytes.now, ap part_of c.in-Fresh.is, none told)) c.is_segment.ensures.no
