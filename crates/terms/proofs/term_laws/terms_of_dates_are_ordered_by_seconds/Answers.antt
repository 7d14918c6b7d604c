use Rattle.std.proofs.Common.{◌∙◌}
use Rattle.definitions.specs.Schema.{date_kind}
use Rattle.definitions.specs.Terms.{signed_bytes, whole_seconds}
use Rattle.terms.proofs.TermOrder.{date_order, same_kind}
use Rattle.terms.proofs.term_laws.terms_of_dates_are_ordered_by_seconds.Goals as goal

pub returns : goal.returns
returns c f y z first second = same_kind f date_kind (signed_bytes (whole_seconds y)) (signed_bytes (whole_seconds z)) ∙ date_order y z first second
