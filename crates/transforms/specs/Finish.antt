-- the value of what a job gives
use Rattle.std.specs.Prelude.{ℕ, length}
use Rattle.std_defs.specs.Value.{Value}
use Rattle.std_defs.specs.Value.Value.{bytes, bad_message, invalid}
use Rattle.transforms.specs.declared.request.Finished.{Finished}
use Rattle.transforms.specs.declared.request.Finished.TheVariants.{Bytes, BadMsg, Invalid}

abbrev pub finished_value : Finished → Value
finished_value (Bytes made) = bytes made
finished_value BadMsg = bad_message
finished_value Invalid = invalid

-- what a job gives for a value
abbrev pub finished_of : Value → Finished
finished_of (bytes made) = Bytes made
finished_of bad_message = BadMsg
finished_of invalid = Invalid

-- how many bytes a job gives
abbrev pub finished_length : Finished → ℕ
finished_length (Bytes made) = length made
finished_length BadMsg = 0
finished_length Invalid = 0
