-- That bounds hold is known in one way.
use Rattle.std.proofs.Common.{[], ◌∷◌, List, drop, take, ℕ}
use Rattle.std.specs.Coded.{Unit-prop, ×_prop}
use Rattle.std.proofs.Props.{props}
use Rattle.layouts.specs.SkipEntries.{SkipEntry}
use Rattle.segment_postings.specs.BoundedBlocks.{AreBounded, IsBounded}

pub IsBounded-prop : (ids : List ℕ) (e : SkipEntry) (docs counts : List ℕ) → IsProp (IsBounded ids e docs counts)
IsBounded-prop ids e docs counts = hlevel props

pub AreBounded-prop : (ids : List ℕ) (es : List SkipEntry) (docs counts : List ℕ) → IsProp (AreBounded ids es docs counts)
AreBounded-prop ids [] docs counts = Unit-prop
AreBounded-prop ids (e ∷ es) docs counts = ×_prop (IsBounded-prop ids e (take 128 docs) (take 128 counts)) (AreBounded-prop ids es (drop 128 docs) (drop 128 counts))
