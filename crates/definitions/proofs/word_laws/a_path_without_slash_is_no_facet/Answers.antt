use Rattle.definitions.proofs.FacetPaths.{no_slash_no_facet}
use Rattle.definitions.proofs.word_laws.a_path_without_slash_is_no_facet.Goals as goal

pub returns-clause-another : goal.returns-clause-another
returns-clause-another x c path h = no_slash_no_facet c path h
