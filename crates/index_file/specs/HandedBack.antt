-- What a call hands back that makes a file of a device, or refuses to.
use Rattle.std.specs.Prelude.{⊤, Err, Ok, Result}
use Rattle.common.specs.declared.device.Device as devices
use Rattle.definitions.specs.declared.fault.Fault.{Fault}
use Rattle.index_file.specs.declared.record_file.RecordFile.{RecordFile}

module _ {D : Type 0} {d : devices.Ghosts D} where
  -- the device: that of the file, or the one that is handed back
  abbrev pub device_after : Result (RecordFile D d) (Fault × D) → D
  device_after (Ok file) = file.device
  device_after (Err refusal) = refusal.1

  -- how the call ended
  abbrev pub ending_of : Result (RecordFile D d) (Fault × D) → Result ⊤ Fault
  ending_of (Ok file) = Ok tt
  ending_of (Err refusal) = Err refusal.0
