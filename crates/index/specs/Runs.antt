-- What a run over lines says of the states for which its sessions stand.
use Rattle.std.specs.Prelude.{[], ⊤, ◌++◌, ◌∷◌, ◌≡◌, ◌≢◌, ◌⊎◌, IsTrue, List, None, OnErr, OnOk, Option, Result, Some, true, ℕ}
use Rattle.std.specs.Io.KnownBytes.{Appends}
use Rattle.common.specs.declared.analyzer.Analyzer as analyzers
use Rattle.common.specs.declared.device.Device as devices
use Rattle.definitions.specs.Disk.{Rose}
use Rattle.definitions.specs.FaultNames.{reply_text}
use Rattle.definitions.specs.Replying.{AreReplies, HasReason, output_line, reply_to, state_after}
use Rattle.definitions.specs.Step as steps
use Rattle.definitions.specs.declared.fault.Fault.{Fault}
use Rattle.definitions.specs.declared.fault.Fault.TheVariants as faults
use Rattle.index.specs.Outcomes.{index_in}
use Rattle.index.specs.Replied.{IsReplied}
use Rattle.index.specs.Sessions.{HasHeld, IsLeft, MeetsLimitAt, StandsFor, analysis_of, closed_session, failures_of, honest_of, parts_of, session_on}
use Rattle.index.specs.declared.session.Session.{Session}
use Rattle.serve_lines.specs.Serving.{AnswersAll, ComesTo, ServesFirst}

-- of a run over these lines, from the first session to the last, that has written out
module _ {D A : Type 0} {d : devices.Ghosts D} {a : analyzers.Ghosts A} (first last : Session D A d a)
    (lines : List (List ℕ)) (out : List ℕ) where
  -- it comes to a line with a session that stands for this, and that meets a limit by the line
  abbrev pub MeetsLimitOnWay : steps.Session → List ℕ → Type 0
  MeetsLimitOnWay s line =
      (session : Session D A d a) × ComesTo IsReplied first last lines out session line × StandsFor session s
      × MeetsLimitAt session s line

  -- part of out is the replies to what is left of the lines, and the last session stands for the state after them: past
  -- a fault that stops, over an honest device, for one that follows what it leaves, which after `Device` to a ready
  -- index is a closed one, over a file of what was committed before or after; what follows another `Device` is free
  abbrev pub EndsAfter : steps.Session → List (List ℕ) → List ℕ → Type 0
  EndsAfter s [] part = (part ≡ []) × StandsFor last s
  EndsAfter s (line ∷ left) part =
      ((rest : List ℕ) × (part ≡ output_line (reply_to steps.answer_of steps.after_line s line) ++ rest)
      × EndsAfter (state_after steps.answer_of steps.after_line s line) left rest)
      ⊎ ((fault : Fault) × HasReason MeetsLimitOnWay (Rose (failures_of first) (failures_of last)) s line fault
      × (rest : List ℕ) × (part ≡ output_line (reply_text fault) ++ rest)
      × (IsTrue (honest_of first) → fault ≢ faults.Device
      → (t : steps.Session) × IsLeft s (steps.line_request line) fault t × EndsAfter t left rest)
      × (IsTrue (honest_of first) → fault ≡ faults.Device → steps.is_ready s.stage ≡ true
      → EndsAfter (closed_session s) left rest ⊎ EndsAfter (closed_session (steps.after_line s line)) left rest))

module _ {D A : Type 0} {d : devices.Ghosts D} {a : analyzers.Ghosts A} where
  -- what a run that ends well has done
  pub record IsRun (first last : Session D A d a) (lines : List (List ℕ)) (old new : Option (List ℕ)) : Type 0 where
    pub out : List ℕ
    pub written : Appends old new out
    -- each line was replied to by the session that the lines before left, as `reply` does, or wasn't asked
    pub answers : AnswersAll IsReplied first last lines out
    -- for a state for which the first session stands: out is the definitions' replies, up to a fault that stops
    pub replies :
        (s : steps.Session) → StandsFor first s
        → AreReplies steps.answer_of steps.after_line (MeetsLimitOnWay first last lines out)
        (Rose (failures_of first) (failures_of last)) s lines out
    -- and the last session stands for a state after all lines, unless a device failed where no index was ready
    pub ends : (s : steps.Session) → StandsFor first s → EndsAfter first last lines out s lines out

  -- what a run has done that ends where a read or a write fails
  pub record IsFailedRun (first last : Session D A d a) (lines : List (List ℕ)) (old new : Option (List ℕ)) : Type 0 where
    -- the first of the lines were replied to so, each once, and the replies written, but for an end of the last one
    pub served : ServesFirst IsReplied first last lines old new
    -- these replies, and what the last session stands for, are those of a run over these lines that ends well
    pub replies :
        (s : steps.Session) → StandsFor first s
        → AreReplies steps.answer_of steps.after_line (MeetsLimitOnWay first last served.done served.out)
        (Rose (failures_of first) (failures_of last)) s served.done served.out
    pub ends :
        (s : steps.Session) → StandsFor first s → EndsAfter first last served.done served.out s served.done served.out

-- what a run with this result has done over a device and an analyzer, from a first session, in which no index is created
-- or opened yet
pub record IsRunOver {D A E : Type 0} (d : devices.Ghosts D) (a : analyzers.Ghosts A) (device : D) (analyzer : A)
    (lines : List (List ℕ)) (old new : Option (List ℕ)) (result : Result ⊤ E) : Type 0 where
  pub first : Session D A d a
  pub last : Session D A d a
  pub parts : parts_of first ≡ Some (device, analyzer)
  pub index : index_in first ≡ None
  pub stands :
      (held : steps.Held) → HasHeld d.honest d.content (a.analyze analyzer) device held
      → StandsFor first (session_on (analysis_of a.knows_name a.analyze analyzer) held)
  pub run : OnOk result (IsRun first last lines old new)
  pub failed : OnErr result (IsFailedRun first last lines old new)
