use Rattle.std.proofs.Common.{IfSome, Option, subst}
use Rattle.front_coding.specs.Lengths.{located_at}
use Rattle.front_coding.specs.declared.look_ups.TermPlace.{TermPlace}
use Rattle.segment_reader.specs.Dictionaries.{InfoFits, info_of_located}
use Rattle.segment_reader.proofs.term_dictionary.TermDictionary.get.Goals as goal

pub info_of-requires : goal.info_of-requires
info_of-requires c = subst (λ (o : Option TermPlace). IfSome o (λ found. InfoFits (info_of_located (located_at found)))) c.in-Some.is c.search.ensures.fits
