-- What the file may have after a call that ended with a fault.
use Rattle.std.proofs.Common.{Err, refl, ◌≡◌, ◌≢◌}
use Rattle.definitions.specs.Calls as calls
use Rattle.definitions.specs.declared.fault.Fault.{Fault}
use Rattle.definitions.specs.declared.fault.Fault.TheVariants as faults
use Rattle.histories.specs.Events.{Standing, other_after}

-- only a failed device leaves anything else in it
pub other_kept : (c : calls.Configuration) (s : Standing) (call : calls.Call) (fault : Fault) → fault ≢ faults.Device → other_after c s call (Err fault) ≡ s.other
other_kept c s call faults.Closed h = refl
other_kept c s call faults.WriterClosed h = refl
other_kept c s call faults.OutOfMemory h = refl
other_kept c s call faults.Device h = absurd (h refl)
other_kept c s call faults.Limit h = refl
other_kept c s call (faults.Damaged gate) h = refl
other_kept c s call faults.NoIndex h = refl
other_kept c s call faults.NotEmpty h = refl
other_kept c s call faults.TooManyFields h = refl
other_kept c s call faults.UnknownTokenizer h = refl
other_kept c s call faults.NotAnObject h = refl
other_kept c s call faults.TypeError h = refl
other_kept c s call faults.OverflowError h = refl
other_kept c s call faults.ParseError h = refl
other_kept c s call faults.InvalidBase64 h = refl
other_kept c s call faults.FloatValue h = refl
other_kept c s call faults.NotIndexable h = refl
other_kept c s call faults.BadRange h = refl
other_kept c s call faults.TooDeep h = refl
other_kept c s call faults.UnknownField h = refl
other_kept c s call faults.NotIndexed h = refl
other_kept c s call faults.TypeMismatch h = refl
other_kept c s call faults.NoPositions h = refl
other_kept c s call faults.NotText h = refl
other_kept c s call faults.OffsetTooLarge h = refl
other_kept c s call faults.NoWholeTerm h = refl
other_kept c s call faults.PartialExpansion h = refl
other_kept c s call faults.BadTieBreaker h = refl
other_kept c s call faults.ScoreTooLarge h = refl
other_kept c s call faults.DuplicateName h = refl
other_kept c s call faults.BadName h = refl
other_kept c s call faults.BadSchema h = refl
other_kept c s call faults.BadSettings h = refl
other_kept c s call faults.BadTerm h = refl
other_kept c s call faults.BadQuery h = refl
other_kept c s call faults.BadRequest h = refl
other_kept c s call faults.LineTooLong h = refl
other_kept c s call faults.NotOpen h = refl
other_kept c s call faults.AlreadyOpen h = refl
other_kept c s call faults.ReadFault h = refl
other_kept c s call faults.WriteFault h = refl
other_kept c s call faults.FacetParseError h = refl
other_kept c s call faults.BadTokens h = refl
other_kept c s call faults.InvalidArgument h = refl
other_kept c s call faults.FieldNotFound h = refl
