-- Want of memory is told from every other fault.
use Rattle.definitions.specs.Calls as calls
use Rattle.std.proofs.Common.{Bool, ap, false, refl, sym, true, true≢false, ◌≡◌, ◌≢◌, ◌⊎◌, inl, inr}
use Rattle.definitions.specs.declared.fault.Fault.{Fault}
use Rattle.definitions.specs.declared.fault.Fault.TheVariants as faults

abbrev is_out_of_memory : Fault → Bool
is_out_of_memory faults.OutOfMemory = true
is_out_of_memory _ = false

-- a failure of the device is no want of memory
pub device_failed : faults.Device ≢ faults.OutOfMemory
device_failed h = true≢false (sym (ap is_out_of_memory h))

-- a fault is want of memory, or another
pub memory_or_other : (fault : Fault) → (fault ≡ faults.OutOfMemory) ⊎ (fault ≢ faults.OutOfMemory)
memory_or_other faults.Closed = inr (λ h. true≢false (sym (ap is_out_of_memory h)))
memory_or_other faults.WriterClosed = inr (λ h. true≢false (sym (ap is_out_of_memory h)))
memory_or_other faults.OutOfMemory = inl refl
memory_or_other faults.Device = inr (λ h. true≢false (sym (ap is_out_of_memory h)))
memory_or_other faults.Limit = inr (λ h. true≢false (sym (ap is_out_of_memory h)))
memory_or_other (faults.Damaged gate) = inr (λ h. true≢false (sym (ap is_out_of_memory h)))
memory_or_other faults.NoIndex = inr (λ h. true≢false (sym (ap is_out_of_memory h)))
memory_or_other faults.NotEmpty = inr (λ h. true≢false (sym (ap is_out_of_memory h)))
memory_or_other faults.TooManyFields = inr (λ h. true≢false (sym (ap is_out_of_memory h)))
memory_or_other faults.UnknownTokenizer = inr (λ h. true≢false (sym (ap is_out_of_memory h)))
memory_or_other faults.NotAnObject = inr (λ h. true≢false (sym (ap is_out_of_memory h)))
memory_or_other faults.TypeError = inr (λ h. true≢false (sym (ap is_out_of_memory h)))
memory_or_other faults.OverflowError = inr (λ h. true≢false (sym (ap is_out_of_memory h)))
memory_or_other faults.ParseError = inr (λ h. true≢false (sym (ap is_out_of_memory h)))
memory_or_other faults.InvalidBase64 = inr (λ h. true≢false (sym (ap is_out_of_memory h)))
memory_or_other faults.FloatValue = inr (λ h. true≢false (sym (ap is_out_of_memory h)))
memory_or_other faults.NotIndexable = inr (λ h. true≢false (sym (ap is_out_of_memory h)))
memory_or_other faults.BadRange = inr (λ h. true≢false (sym (ap is_out_of_memory h)))
memory_or_other faults.TooDeep = inr (λ h. true≢false (sym (ap is_out_of_memory h)))
memory_or_other faults.UnknownField = inr (λ h. true≢false (sym (ap is_out_of_memory h)))
memory_or_other faults.NotIndexed = inr (λ h. true≢false (sym (ap is_out_of_memory h)))
memory_or_other faults.TypeMismatch = inr (λ h. true≢false (sym (ap is_out_of_memory h)))
memory_or_other faults.NoPositions = inr (λ h. true≢false (sym (ap is_out_of_memory h)))
memory_or_other faults.NotText = inr (λ h. true≢false (sym (ap is_out_of_memory h)))
memory_or_other faults.OffsetTooLarge = inr (λ h. true≢false (sym (ap is_out_of_memory h)))
memory_or_other faults.NoWholeTerm = inr (λ h. true≢false (sym (ap is_out_of_memory h)))
memory_or_other faults.PartialExpansion = inr (λ h. true≢false (sym (ap is_out_of_memory h)))
memory_or_other faults.BadTieBreaker = inr (λ h. true≢false (sym (ap is_out_of_memory h)))
memory_or_other faults.ScoreTooLarge = inr (λ h. true≢false (sym (ap is_out_of_memory h)))
memory_or_other faults.DuplicateName = inr (λ h. true≢false (sym (ap is_out_of_memory h)))
memory_or_other faults.BadName = inr (λ h. true≢false (sym (ap is_out_of_memory h)))
memory_or_other faults.BadSchema = inr (λ h. true≢false (sym (ap is_out_of_memory h)))
memory_or_other faults.BadSettings = inr (λ h. true≢false (sym (ap is_out_of_memory h)))
memory_or_other faults.BadTerm = inr (λ h. true≢false (sym (ap is_out_of_memory h)))
memory_or_other faults.BadQuery = inr (λ h. true≢false (sym (ap is_out_of_memory h)))
memory_or_other faults.BadRequest = inr (λ h. true≢false (sym (ap is_out_of_memory h)))
memory_or_other faults.LineTooLong = inr (λ h. true≢false (sym (ap is_out_of_memory h)))
memory_or_other faults.NotOpen = inr (λ h. true≢false (sym (ap is_out_of_memory h)))
memory_or_other faults.AlreadyOpen = inr (λ h. true≢false (sym (ap is_out_of_memory h)))
memory_or_other faults.ReadFault = inr (λ h. true≢false (sym (ap is_out_of_memory h)))
memory_or_other faults.WriteFault = inr (λ h. true≢false (sym (ap is_out_of_memory h)))
memory_or_other faults.FacetParseError = inr (λ h. true≢false (sym (ap is_out_of_memory h)))
memory_or_other faults.BadTokens = inr (λ h. true≢false (sym (ap is_out_of_memory h)))
memory_or_other faults.InvalidArgument = inr (λ h. true≢false (sym (ap is_out_of_memory h)))
memory_or_other faults.FieldNotFound = inr (λ h. true≢false (sym (ap is_out_of_memory h)))

-- what may still be done after a commit that failed so
abbrev pub status_left : Fault → calls.Status
status_left faults.Device = calls.closed
status_left _ = calls.writer_closed

abbrev pub is_limit : Fault → Bool
is_limit faults.Limit = true
is_limit _ = false
