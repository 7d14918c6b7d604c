-- The sections of a segment, as they are written.
use Rattle.segment_definitions.specs.Segments as layout
use Rattle.segment.specs.declared.section_list.Sections.{Sections}

-- their bytes
abbrev pub sections_of : Sections → layout.Sections
sections_of s = record { terms = s.terms.items; postings = s.postings.items; positions = s.positions.items; norms = s.norms.items; store = s.store.items }
