use Rattle.std.proofs.Common.{refl}
use Rattle.std.proofs.lemmas.Grind.{merely}
use Rattle.segment_reader.proofs.KeptFound.{none_kept}
use Rattle.segment_reader.proofs.term_dictionary.TermDictionary.without_terms.Goals as goal

pub new-requires : goal.new-requires
new-requires c = merely (none_kept _ _ refl refl)
