-- What may still be done.
use Rattle.definitions.specs.Calls as calls
use Rattle.index_state.specs.declared.status.Status.{Status}
use Rattle.index_state.specs.declared.status.Status.TheVariants as status

-- what may still be done
abbrev pub status_of : Status → calls.Status
status_of status.Ready = calls.ready
status_of status.WriterClosed = calls.writer_closed
status_of status.Closed = calls.closed
