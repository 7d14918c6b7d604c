use Rattle.definitions.proofs.FacetPaths.{facet_reads_back}
use Rattle.definitions.proofs.word_laws.a_facets_path_reads_back.Goals as goal

pub returns : goal.returns
returns c steps h = facet_reads_back steps h
