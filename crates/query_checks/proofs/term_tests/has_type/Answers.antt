use Rattle.std.proofs.Common.{sym}
use Rattle.terms.specs.Kinds.{kind_of}
use Rattle.query_checks.proofs.TermKinds.{has_kind_by_code}
use Rattle.query_checks.proofs.term_tests.has_type.Goals as goal

pub returns : goal.returns
returns c = sym (has_kind_by_code c.args.term.now (kind_of c.typ.result) (kind_of c.args.value_type) c.to_code.result c.to_code-2.result c.typ.ensures.kind c.to_code.ensures c.to_code-2.ensures)
