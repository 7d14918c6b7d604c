-- What was pushed, before the text of what follows, is the text of the whole.
use Rattle.std.proofs.Common.{◌≡◌, drop, false}
use Rattle.definitions.proofs.Lists.{all_behind as before}
use Rattle.terms.proofs.FacetTexts.{text_from}
use Rattle.terms.proofs.facet.step_bytes.Given as goal

abbrev pub invariant-loop-byte : goal.invariant-loop-byte
invariant-loop-byte l = before l.bytes.items (text_from l.escaped (drop l.byte-index l.byte-items)) ≡ text_from false l.path
