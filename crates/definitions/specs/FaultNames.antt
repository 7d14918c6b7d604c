-- The names of refusals, and the replies that give them.
use Rattle.std.specs.Prelude.{◌++◌, List, codes, ℕ}
use Rattle.definitions.specs.declared.fault.Fault.{Fault}
use Rattle.definitions.specs.declared.fault.Fault.TheVariants as faults

-- the variant's name, numbers left away
abbrev pub name_of : Fault → List ℕ
name_of faults.Closed = codes "Closed"
name_of faults.WriterClosed = codes "WriterClosed"
name_of faults.OutOfMemory = codes "OutOfMemory"
name_of faults.Device = codes "Device"
name_of faults.Limit = codes "Limit"
name_of (faults.Damaged gate) = codes "Damaged"
name_of faults.NoIndex = codes "NoIndex"
name_of faults.NotEmpty = codes "NotEmpty"
name_of faults.TooManyFields = codes "TooManyFields"
name_of faults.UnknownTokenizer = codes "UnknownTokenizer"
name_of faults.NotAnObject = codes "NotAnObject"
name_of faults.TypeError = codes "TypeError"
name_of faults.OverflowError = codes "OverflowError"
name_of faults.ParseError = codes "ParseError"
name_of faults.InvalidBase64 = codes "InvalidBase64"
name_of faults.FloatValue = codes "FloatValue"
name_of faults.NotIndexable = codes "NotIndexable"
name_of faults.BadRange = codes "BadRange"
name_of faults.TooDeep = codes "TooDeep"
name_of faults.UnknownField = codes "UnknownField"
name_of faults.NotIndexed = codes "NotIndexed"
name_of faults.TypeMismatch = codes "TypeMismatch"
name_of faults.NoPositions = codes "NoPositions"
name_of faults.NotText = codes "NotText"
name_of faults.OffsetTooLarge = codes "OffsetTooLarge"
name_of faults.NoWholeTerm = codes "NoWholeTerm"
name_of faults.PartialExpansion = codes "PartialExpansion"
name_of faults.BadTieBreaker = codes "BadTieBreaker"
name_of faults.ScoreTooLarge = codes "ScoreTooLarge"
name_of faults.DuplicateName = codes "DuplicateName"
name_of faults.BadName = codes "BadName"
name_of faults.BadSchema = codes "BadSchema"
name_of faults.BadSettings = codes "BadSettings"
name_of faults.BadTerm = codes "BadTerm"
name_of faults.BadQuery = codes "BadQuery"
name_of faults.BadRequest = codes "BadRequest"
name_of faults.LineTooLong = codes "LineTooLong"
name_of faults.NotOpen = codes "NotOpen"
name_of faults.AlreadyOpen = codes "AlreadyOpen"
name_of faults.ReadFault = codes "ReadFault"
name_of faults.WriteFault = codes "WriteFault"
name_of faults.FacetParseError = codes "FacetParseError"
name_of faults.BadTokens = codes "BadTokens"
name_of faults.InvalidArgument = codes "InvalidArgument"
name_of faults.FieldNotFound = codes "FieldNotFound"

-- the reply to a request that is refused
abbrev pub reply_text : Fault → List ℕ
reply_text fault = codes "{\"error\":\"" ++ (name_of fault ++ codes "\"}")
