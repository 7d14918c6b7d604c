-- The document on which a union stands that looks no further: laws.
use Rattle.std.proofs.Common.{Bool, List, ℕ}
use Rattle.std.proofs.Props.{props}
use Rattle.docsets.specs.Entries.{Entry}
use Rattle.docsets.specs.EntryLaws.{Rising-prop}
use Rattle.scorers.specs.Uniting.{uniting}
use Rattle.docsets.specs.Members.{at_least}
use Rattle.scorers.specs.Together.{IsTogether}

pub IsTogether-prop : (told : Bool) (ess : List (List Entry)) (doc : ℕ) → IsProp (IsTogether told ess doc)
IsTogether-prop told ess doc = let rises = Rising-prop 0 (at_least 1 (uniting told) ess) in hlevel (props, rises)
