-- Flags of documents: laws.
use Rattle.std.specs.Prelude.{Bool, List, None, Option, Some, ℕ}
use Rattle.std.specs.Coded.{Unit-prop}
use Rattle.std.proofs.Props.{props}
use Rattle.segment_reader.specs.Flags.{HasFlags}

pub HasFlags-prop : (num_docs : ℕ) (flags : Option (List Bool)) → IsProp (HasFlags num_docs flags)
HasFlags-prop num_docs None = Unit-prop
HasFlags-prop num_docs (Some flags) = hlevel props
