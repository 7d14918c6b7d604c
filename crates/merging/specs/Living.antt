-- The postings of a member's living documents, under their new numbers.
use Rattle.std.specs.Prelude.{[], ◌∷◌, Bool, List, false, map, true}
use Rattle.docsets.specs.Entries.{Entry, single}
use Rattle.definitions.specs.Merging.{renumbered}
use Rattle.definitions.specs.Postings.{Posting}
use Rattle.merging.specs.Mappings.{Mapping}

-- the posting of an entry that one term has
abbrev pub posting_in : Entry → Posting
posting_in e = record { doc = e.doc; count = e.count; positions = single e.positions }

-- those of entries whose documents are alive, under their new numbers
abbrev pub living_in : Mapping → List Entry → List Posting
living_in m es = renumbered m.base m.flags (map posting_in es)

-- whether there is a posting
abbrev pub has_some : List Posting → Bool
has_some [] = false
has_some (p ∷ ps) = true
