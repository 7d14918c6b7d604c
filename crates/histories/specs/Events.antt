-- What may happen to an index, one event after another, and what the definitions let stand then.
use Rattle.std.specs.Prelude.{[], ⊤, ◌∷◌, ◌≡◌, ◌≢◌, ◌⊎◌, Err, List, Ok, Result, map}
use Rattle.definitions.specs.Calls as calls
use Rattle.definitions.specs.State.{State}
use Rattle.definitions.specs.Step.{reopened}
use Rattle.definitions.specs.Values.{Document}
use Rattle.definitions.specs.declared.fault.Fault.{Fault}
use Rattle.definitions.specs.declared.fault.Fault.TheVariants as faults
use Rattle.histories.specs.Calls.{Answer, IsTold, ending, unless_refused}

-- how a call ended
abbrev pub Outcome : Type 0
Outcome = Result Answer Fault

-- A call ended so; a crash cut a call off, and the index was opened from what it left; or the index was let go, and
-- opened again.
pub data Event : Type 0 where
  called : calls.Call → Outcome → Event
  cut_off : calls.Call → Event
  opened : Event

-- What stands: an index, and the groups that its file may have in place of those committed. They are others only after
-- a commit or a merge in which the device failed.
pub record Standing : Type 0 where
  pub index : calls.Index
  pub other : List (List Document)

-- an index in whose file these groups are committed, and nothing waits
abbrev pub standing_of : List (List Document) → Standing
standing_of groups = record { index = reopened groups; other = groups }

-- what the file may have in place of what is committed, after a call that ended so
abbrev pub other_after : calls.Configuration → Standing → calls.Call → Outcome → List (List Document)
other_after c s call (Ok answer) = (calls.after c s.index.state call).groups
other_after c s call (Err faults.Device) = (calls.after c s.index.state call).groups
other_after c s call (Err fault) = s.other

-- and during a call
abbrev pub other_within : calls.Configuration → Standing → calls.Call → List (List Document)
other_within c s call =
    unless_refused (calls.call_fault c s.index call) (calls.after c s.index.state call).groups s.other

-- From one standing the events may lead to another. A call answers or refuses as the definitions do. An opening
-- finds what is committed, or what the file may have in its place.
abbrev pub MayLead : calls.Configuration → Standing → List Event → Standing → Type 0
MayLead c s [] t = t ≡ s
MayLead c s (called call outcome ∷ events) t =
    (y : calls.Index) × calls.Leaves c s.index call (ending outcome) y
    × IsTold c s.index call outcome
    × MayLead c (record { index = y; other = other_after c s call outcome }) events t
MayLead c s (cut_off call ∷ events) t =
    MayLead c (standing_of s.index.state.groups) events t ⊎ MayLead c (standing_of (other_within c s call)) events t
MayLead c s (opened ∷ events) t =
    MayLead c (standing_of s.index.state.groups) events t ⊎ MayLead c (standing_of s.other) events t

-- ---- without crashes

-- calls, each with how it ended, as events
abbrev pub all_called : List (calls.Call × Outcome) → List Event
all_called cs = map (λ p. called p.0 p.1) cs

-- no crash cut a call off, and in no call the device failed
abbrev pub IsSmooth : Event → Type 0
IsSmooth (called call outcome) = outcome ≢ Err faults.Device
IsSmooth (cut_off call) = ⊥
IsSmooth opened = ⊤

-- The state after events: calls that are Ok change it, in their order, and no other call does; an opening, and a call
-- that is cut off, loses what waits.
abbrev pub state_after : calls.Configuration → State → List Event → State
state_after c s [] = s
state_after c s (called call (Ok answer) ∷ events) = state_after c (calls.after c s call) events
state_after c s (called call (Err fault) ∷ events) = state_after c s events
state_after c s (cut_off call ∷ events) = state_after c (reopened s.groups).state events
state_after c s (opened ∷ events) = state_after c (reopened s.groups).state events
