-- Hits of an index.
use Rattle.std.specs.Prelude.{ℤ}
use Rattle.definitions.specs.Stored.{Named}
use Rattle.engine.specs.declared.hits.Hit.{Hit}

-- a hit: its score, and the stored values of its document by the names of their fields
abbrev pub hit_of : Hit → ℤ × Named
hit_of h = (h.score, h.doc)
