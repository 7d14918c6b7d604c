use Rattle.std.proofs.Common.{ap, sum_by, sym, ◌-◌}
use Rattle.definitions.specs.Phrases.{phrase_places}
use Rattle.phrases.specs.PrefixEntries.{continued}
use Rattle.phrases.proofs.PhrasePlaces.{last-offset}
use Rattle.phrases.proofs.phrase_laws.suffixes_are_those_of_definitions.Goals as goal

pub returns : goal.returns
returns c = record {
  offsets = λ terms. sym (last-offset terms);
  counts = λ positions suffixes last whole. ap (λ g. sum_by (λ t. continued (last.0 - g) (phrase_places positions whole 0) (positions t)) suffixes) (sym (last-offset whole));
}
