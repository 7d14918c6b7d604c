-- The lines of an input, and the replies to them.
use Rattle.std.specs.Prelude.{◌≡◌, ℕ, Bool, true, false, IsTrue, nat_lt, is_none, if◌then◌else◌, ◌⊎◌, Option, None, Some, List, [], ◌∷◌, ◌++◌, length}
use Rattle.std.specs.Option.{option_map_or}
use Rattle.std.specs.Str.{is_utf8}
use Rattle.std.specs.Io.KnownBytes.{Appends}
use Rattle.definitions.specs.FaultNames.{reply_text}
use Rattle.definitions.specs.Lines.{max_line_len}
use Rattle.definitions.specs.Step.{Session, after_line, answer_of}
use Rattle.definitions.specs.declared.fault.Fault.{Fault}
use Rattle.definitions.specs.declared.fault.Fault.TheVariants as faults

-- the faults after which nothing more is owed
abbrev pub stops : Fault → Bool
stops faults.OutOfMemory = true
stops faults.Limit = true
stops faults.Device = true
stops _ = false

-- a reply as it is written
abbrev pub output_line : List ℕ → List ℕ
output_line reply = reply ++ 10 ∷ []

-- why a line is refused whatever is asked, if it is
abbrev pub line_refusal : List ℕ → Option Fault
line_refusal line =
    if nat_lt max_line_len (length line) then Some faults.LineTooLong
    else (if is_utf8 line then None else Some faults.BadRequest)

module _ {State : Type 0} (answer : State → List ℕ → List ℕ) (after : State → List ℕ → State) where
  -- the reply to a line
  abbrev pub reply_to : State → List ℕ → List ℕ
  reply_to s line = option_map_or reply_text (line_refusal line) (answer s line)

  -- the state after a line
  abbrev pub state_after : State → List ℕ → State
  state_after s line = if is_none (line_refusal line) then after s line else s

-- whether a line meets a limit in a state, and whether a failure was counted while the lines were answered
module _ {State : Type 0} (meets : State → List ℕ → Type 0) (Failed : Type 0) where
  -- why a line may be replied by a fault that stops: memory may be wanting at any line, but a limit is met by what a text
  -- asks, and a text's call meets a failure
  pub record HasReason (s : State) (line : List ℕ) (fault : Fault) : Type 0 where
    pub stops : IsTrue (stops fault)
    pub limit : fault ≡ faults.Limit → (line_refusal line ≡ None) × meets s line
    pub device : fault ≡ faults.Device → (line_refusal line ≡ None) × Failed

module _ {State : Type 0} (answer : State → List ℕ → List ℕ) (after : State → List ℕ → State)
    (meets : State → List ℕ → Type 0) (Failed : Type 0) where
  -- out is the replies to the lines in turn, up to the first fault that stops, which has its reason; what follows that is
  -- free
  abbrev pub AreReplies : State → List (List ℕ) → List ℕ → Type 0
  AreReplies s [] out = out ≡ []
  AreReplies s (line ∷ lines) out =
      ((rest : List ℕ) × (out ≡ output_line (reply_to answer after s line) ++ rest)
      × AreReplies (state_after answer after s line) lines rest)
      ⊎ ((fault : Fault) × HasReason meets Failed s line fault × (rest : List ℕ) × (out ≡ output_line (reply_text fault) ++ rest))

  -- the writer's bytes grow by such replies
  abbrev pub Writes : State → List (List ℕ) → Option (List ℕ) → Option (List ℕ) → Type 0
  Writes s lines old new = (out : List ℕ) × Appends old new out × AreReplies s lines out

-- the replies of a session to lines in a row, where no fault stops
abbrev pub answers_to : Session → List (List ℕ) → List (List ℕ)
answers_to session [] = []
answers_to session (line ∷ lines) = reply_to answer_of after_line session line ∷ answers_to (state_after answer_of after_line session line) lines
