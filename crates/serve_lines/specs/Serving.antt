-- What serving one line does, and what serving all lines does.
use Rattle.std.specs.Prelude.{◌≡◌, ℕ, Bool, true, false, ◌⊎◌, Option, None, Some, Result, Ok, Err, List, [], ◌++◌, ◌∷◌}
use Rattle.std.specs.Cow.{cow_str_bytes}
use Rattle.std.specs.Io.KnownBytes.{Appends, Keeps}
use Rattle.std.specs.declared.alloc.Global.{Global}
use Rattle.std.specs.declared.borrow.CowStr.{CowStr}
use Rattle.definitions.specs.FaultNames.{reply_text}
use Rattle.definitions.specs.Lines.{lines_of}
use Rattle.definitions.specs.declared.fault.Fault.{Fault}
use Rattle.definitions.specs.declared.fault.Fault.TheVariants as faults
use Rattle.definitions.specs.Replying.{line_refusal, output_line}

-- a reply, or a fault, as it is told
abbrev pub told : Result (CowStr Global) Fault → List ℕ
told (Ok text) = cow_str_bytes text
told (Err fault) = reply_text fault

-- a line may be answered by this fault unasked: there is no memory for it, or it is refused whatever it asks
abbrev pub IsUnasked : List ℕ → Fault → Type 0
IsUnasked line fault = (fault ≡ faults.OutOfMemory) ⊎ (line_refusal line ≡ Some fault)

-- the writer's bytes grow by a front of these
abbrev pub AppendsPart : Option (List ℕ) → Option (List ℕ) → List ℕ → Type 0
AppendsPart old new bytes = (part : List ℕ) × (rest : List ℕ) × (bytes ≡ part ++ rest) × Appends old new part

-- by what a reply does: from a service to the next one, to a text, and with what result
module _ {Service : Type 0} (replies : Service → Service → List ℕ → Result (CowStr Global) Fault → Type 0) where
  -- a line is answered: the service replies to it, which leaves the next one; or it isn't asked, and stays
  abbrev pub Answers : Service → Service → List ℕ → List ℕ → Type 0
  Answers service next line answer =
      ((line_refusal line ≡ None)
      × ((result : Result (CowStr Global) Fault) × replies service next line result × (answer ≡ told result)))
      ⊎ ((next ≡ service) × ((fault : Fault) × IsUnasked line fault × (answer ≡ reply_text fault)))

  -- out is the answers to the lines in turn, each by the service that the lines before left
  abbrev pub AnswersAll : Service → Service → List (List ℕ) → List ℕ → Type 0
  AnswersAll service last [] out = (last ≡ service) × (out ≡ [])
  AnswersAll service last (line ∷ lines) out =
      (next : Service) × (answer : List ℕ) × (rest : List ℕ) × (out ≡ output_line answer ++ rest)
      × Answers service next line answer × AnswersAll next last lines rest

  -- the writer's bytes grow by such answers
  abbrev pub ServesAll : Service → Service → List (List ℕ) → Option (List ℕ) → Option (List ℕ) → Type 0
  ServesAll service last lines old new = (out : List ℕ) × Appends old new out × AnswersAll service last lines out

  -- answers to lines come to one of them with this service: the lines before left it, and it answers that line
  pub record ComesTo (first last : Service) (lines : List (List ℕ)) (out : List ℕ) (service : Service) (line : List ℕ)
      : Type 0 where
    pub before : List (List ℕ)
    pub after : List (List ℕ)
    pub lines_are : lines ≡ before ++ line ∷ after
    pub sent : List ℕ
    pub rest : List ℕ
    pub out_is : out ≡ sent ++ rest
    pub left : AnswersAll first service before sent
    pub answers : AnswersAll service last (line ∷ after) rest

  -- the writer's bytes grow by the answer to one line
  abbrev pub WritesAnswer : Service → Service → List ℕ → Option (List ℕ) → Option (List ℕ) → Type 0
  WritesAnswer service next line old new =
      (answer : List ℕ) × Appends old new (output_line answer) × Answers service next line answer

  -- the first line was taken and answered, or there was none
  abbrev pub ServesLine :
      Service → Service → Bool → Option (List ℕ) → Option (List ℕ) → Option (List ℕ) → Option (List ℕ) → Type 0
  ServesLine service next more None rest old new = Unit {0}
  ServesLine service next more (Some input) None old new = ⊥
  ServesLine service next true (Some input) (Some rest) old new =
      (line : List ℕ) × (lines_of input ≡ line ∷ lines_of rest) × WritesAnswer service next line old new
  ServesLine service next false (Some input) (Some rest) old new =
      (lines_of input ≡ []) × Keeps old new × (next ≡ service)

  -- a line is answered, and the writer's bytes grow by the answer, or by a front of it
  abbrev pub WritesPart : Service → Service → List ℕ → Option (List ℕ) → Option (List ℕ) → Type 0
  WritesPart service next line old new =
      (answer : List ℕ) × AppendsPart old new (output_line answer) × Answers service next line answer

  -- the first line was taken and answered, and a part of the answer written, or none was
  abbrev pub ServesAtMost : Service → Service → List (List ℕ) → Option (List ℕ) → Option (List ℕ) → Type 0
  ServesAtMost service next lines old new =
      ((next ≡ service) × Keeps old new)
      ⊎ ((line : List ℕ) × (more : List (List ℕ)) × (lines ≡ line ∷ more) × WritesPart service next line old new)

  -- of out, the answers to lines, this is all, or all but the last one and a front of that
  abbrev pub IsSent : Service → Service → List (List ℕ) → List ℕ → List ℕ → Type 0
  IsSent first last lines out sent =
      (sent ≡ out)
      ⊎ ((service : Service) × (line : List ℕ) × (comes : ComesTo first last lines out service line)
      × (comes.after ≡ []) × (part : List ℕ) × (rest : List ℕ) × (comes.rest ≡ part ++ rest)
      × (sent ≡ comes.sent ++ part))

  -- the first of the lines were answered in turn, each once, and the writer's bytes grow by the answers, of which an end
  -- of the last one may be missing
  pub record ServesFirst (first last : Service) (lines : List (List ℕ)) (old new : Option (List ℕ)) : Type 0 where
    pub done : List (List ℕ)
    pub left : List (List ℕ)
    pub lines_are : lines ≡ done ++ left
    pub out : List ℕ
    pub answers : AnswersAll first last done out
    pub sent : List ℕ
    pub is_sent : IsSent first last done out sent
    pub written : Appends old new sent
