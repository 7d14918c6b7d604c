-- Alive sets of segments: one for each of the first segments.
use Rattle.segment.specs.declared.segment.Segment as code
use Rattle.std.specs.Prelude.{[], ◌∷◌, Bool, List}
use Rattle.std.specs.Coded.{×_prop, Unit-prop}
use Rattle.std.proofs.Props.{props}
use Rattle.definitions.specs.Alive.{Segment}
use Rattle.segment_search.specs.Flags.{AreFlagged}

pub AreFlagged-prop : (segments : List code.Segment) (sets : List (List Bool)) → IsProp (AreFlagged segments sets)
AreFlagged-prop segments [] = Unit-prop
AreFlagged-prop [] (flags ∷ sets) = hlevel props
AreFlagged-prop (s ∷ segments) (flags ∷ sets) = ×_prop (hlevel props) (AreFlagged-prop segments sets)
