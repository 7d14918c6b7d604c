-- Laws of finders over the documents that all terms of a phrase have.
use Rattle.std.proofs.Common.{[], ◌∷◌, List, ℕ}
use Rattle.std.specs.Coded.{Unit-prop}
use Rattle.std.proofs.Props.{props}
use Rattle.docsets.specs.Entries.{Entry}
use Rattle.phrases.specs.PhraseEntries.{AreColumns, HaveColumns}
use Rattle.phrases.specs.Places.{Ascends}
use Rattle.phrases.specs.Standings.{IsStanding}
use Rattle.phrases.specs.declared.place_finder.PlaceFinder.{PlaceFinder}

Ascends-prop : (low : ℕ) (ps : List ℕ) → IsProp (Ascends low ps)
Ascends-prop low [] = Unit-prop
Ascends-prop low (p ∷ ps) = let rest : IsProp (Ascends p ps) = Ascends-prop p ps in hlevel (props, rest)

AreColumns-prop : (columns : List (List ℕ)) → IsProp (AreColumns columns)
AreColumns-prop [] = Unit-prop
AreColumns-prop (ps ∷ columns) = let here : IsProp (Ascends 0 ps) = Ascends-prop 0 ps in let rest : IsProp (AreColumns columns) = AreColumns-prop columns in hlevel (props, here, rest)

HaveColumns-prop : (es : List Entry) → IsProp (HaveColumns es)
HaveColumns-prop [] = Unit-prop
HaveColumns-prop (e ∷ es) = let here : IsProp (AreColumns e.positions) = AreColumns-prop e.positions in let rest : IsProp (HaveColumns es) = HaveColumns-prop es in hlevel (props, here, rest)

pub IsStanding-prop : (f : PlaceFinder) (num_docs : ℕ) (es : List Entry) → IsProp (IsStanding f num_docs es)
IsStanding-prop f num_docs es = let columns = HaveColumns-prop es in hlevel (props, columns)
