-- What a service of lines and texts replies.
use Rattle.std.specs.Prelude.{◌≡◌, ◌||◌, Bool, IfSome, List, Result, codes, false, is_some, ℕ}
use Rattle.std.specs.declared.alloc.Global.{Global}
use Rattle.std.specs.declared.borrow.CowStr.{CowStr}
use Rattle.memchr.specs.Find.{first_of, matches}
use Rattle.common.specs.declared.analyzer.Analyzer as analyzers
use Rattle.common.specs.declared.device.Device as devices
use Rattle.definitions.specs.declared.fault.Fault.{Fault}
use Rattle.index.specs.Replied.{IsReplied}
use Rattle.ask.specs.declared.text_service.TextService.{TextService}

-- whether a text stands in a line
abbrev pub has_text : List ℕ → List ℕ → Bool
has_text line text = is_some (first_of (matches line text 0))

-- whether a line may ask for something beside what an index is asked: it has the name of such a request
abbrev pub may_be_further : List ℕ → Bool
may_be_further line = has_text line (codes "\"ask\"") || has_text line (codes "\"segments\"")

-- the session of the service answers a line
abbrev pub IsAnswered :
    {D A : Type 0} {d : devices.Ghosts D} {a : analyzers.Ghosts A} → TextService D A d a → TextService D A d a
    → List ℕ → Result (CowStr Global) Fault → Type 0
IsAnswered old new line result = IfSome old.session (λ s. IfSome new.session (λ t. IsReplied s t line result))

-- a line that has no such name is answered by the session
abbrev pub IsServed :
    {D A : Type 0} {d : devices.Ghosts D} {a : analyzers.Ghosts A} → TextService D A d a → TextService D A d a
    → List ℕ → Result (CowStr Global) Fault → Type 0
IsServed old new line result = may_be_further line ≡ false → IsAnswered old new line result
