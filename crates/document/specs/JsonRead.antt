-- Documents read behind what was read before.
use Rattle.std.specs.Prelude.{◌++◌, Ok, Result}
use Rattle.definitions.specs.Reading.{then_read}
use Rattle.definitions.specs.Values.{Document}
use Rattle.definitions.specs.declared.fault.Fault.{Fault}

-- what is read, behind what was read before
abbrev pub added_to : Document → Result Document Fault → Result Document Fault
added_to before found = then_read ◌++◌ (Ok before) found
