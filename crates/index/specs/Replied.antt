-- What a reply to a line says.
use Rattle.std.specs.Prelude.{[], ⊤, ◌≤◌, ◌≡◌, IfErr, IsTrue, List, Result, ℕ}
use Rattle.std.specs.declared.alloc.Global.{Global}
use Rattle.std.specs.declared.borrow.CowStr.{CowStr}
use Rattle.common.specs.declared.analyzer.Analyzer as analyzers
use Rattle.common.specs.declared.device.Device as devices
use Rattle.definitions.specs.Analyzers.{Analyzer}
use Rattle.definitions.specs.Replying.{stops}
use Rattle.definitions.specs.Step as steps
use Rattle.definitions.specs.declared.fault.Fault.{Fault}
use Rattle.definitions.specs.declared.fault.Fault.TheVariants as faults
use Rattle.engine.specs.Files.{IsFileOf}
use Rattle.index.specs.Asking.{AsksOf, LeavesOn, LeftOn}
use Rattle.index.specs.Outcomes.{ComesTo}
use Rattle.index.specs.Replying.{IsUnwritten}
use Rattle.index.specs.Sessions.{KeepsDeviceOf, Replies, StandsFor, failures_of, honest_of}
use Rattle.index.specs.declared.session.Session.{Session}
use Rattle.segment_definitions.specs.IndexFiles.{LeavesGroups}

-- what a reply to a line says: by each state for which the session before stood, and whatever it stood for
pub record IsReplied {D A : Type 0} {d : devices.Ghosts D} {a : analyzers.Ghosts A} (old new : Session D A d a)
    (line : List ℕ) (result : Result (CowStr Global) Fault) : Type 0 where
  pub replies : (s : steps.Session) → StandsFor old s → Replies old new s (steps.line_request line) result
  pub stops : IfErr result (λ fault. IsTrue (stops fault))
  pub honest : honest_of new ≡ honest_of old
  pub later : failures_of old ≤ failures_of new
  -- whatever an honest device holds, no reply changes it but `Device`, and that an index was made, opened, committed or
  -- merged
  pub kept : IsTrue (honest_of old) → IsUnwritten (steps.line_request line) result → KeepsDeviceOf old new
  -- over an honest device it asked at most one thing of what stands that may write
  pub asks : IsTrue (honest_of old) → AsksOf a.knows_name a.analyze old.stage new.stage (steps.line_request line)
  -- and whatever documents the segments of an index are of, what was asked of what stands came to an outcome, of which
  -- the reply tells
  pub comes : ComesTo a.knows_name a.analyze old.stage new.stage (steps.line_request line) result

-- a crash at some moment from one session to another leaves this
abbrev pub CrashLeaves :
    {D A : Type 0} {d : devices.Ghosts D} {a : analyzers.Ghosts A} → Session D A d a → Session D A d a → List ℕ → Type 0
CrashLeaves old new image = LeftOn old.stage new.stage image

-- these bytes are of what a device holds
abbrev pub AreHeld : Analyzer → steps.Held → List ℕ → Type 0
AreHeld analyze steps.no_file bytes = bytes ≡ []
AreHeld analyze (steps.file_of schema settings groups) bytes = IsFileOf schema settings analyze groups bytes
AreHeld analyze (steps.other_bytes others fault) bytes = bytes ≡ others

-- these bytes are of what a device holds; of a file every record gives its list
abbrev pub AreGiven : Analyzer → steps.Held → List ℕ → Type 0
AreGiven analyze steps.no_file bytes = bytes ≡ []
AreGiven analyze (steps.file_of schema settings groups) bytes = LeavesGroups schema settings analyze bytes groups
AreGiven analyze (steps.other_bytes others fault) bytes = bytes ≡ others

-- what a device holds is no index, or has the empty list
abbrev pub HasNoDocuments : steps.Held → Type 0
HasNoDocuments steps.no_file = ⊤
HasNoDocuments (steps.file_of schema settings groups) = groups ≡ []
HasNoDocuments (steps.other_bytes bytes fault) = fault ≡ faults.NoIndex

-- a crash of a session leaves only this now
abbrev pub LeavesOf :
    {D A : Type 0} {d : devices.Ghosts D} {a : analyzers.Ghosts A} → Session D A d a → (List ℕ → Type 0) → Type 0
LeavesOf session P = LeavesOn session.stage P
