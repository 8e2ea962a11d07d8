-- What lies at a handle's pointer.
use Rattle.std.specs.Prelude.{Option}
use base.Fml.{Fml}
use denote.RawPtr.{Ptr}
use Rattle.perdoaze_calls.specs.Slots.{owned_at}
use Rattle.perdoaze_pipes.specs.declared.pipe.Pipe.{Pipe}
use Rattle.perdoaze_pipes.specs.contracts.pipe.Pipe.{the_row}

-- nothing, or a block with the pipe and the right to free it
abbrev pub held_at : Ptr → Option Pipe → Fml
held_at p x = owned_at the_row p x
