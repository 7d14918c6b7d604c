use Rattle.phrases.proofs.PhrasePlaces.{phrase-places}
use Rattle.phrases.proofs.phrase_laws.places_are_those_of_definitions.Goals as goal

pub returns : goal.returns
returns c = phrase-places
