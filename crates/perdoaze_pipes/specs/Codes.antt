-- The numbers that C gets.
use Rattle.std.specs.Prelude.{ℕ, ℤ, pos, neg_ℤ, Bool, true, false, Result, Ok, Err}
use Rattle.perdoaze_pipes.specs.declared.pipe_error.PipeErr.{PipeErr}
use Rattle.perdoaze_pipes.specs.declared.pipe_error.PipeErr.TheVariants.{Again, NoSpace, Overflow, NoMemory, Invalid}

-- the negative of Linux's error number
abbrev pub error_number : PipeErr → ℤ
error_number Again = neg_ℤ (pos 11)
error_number NoSpace = neg_ℤ (pos 28)
error_number Overflow = neg_ℤ (pos 75)
error_number NoMemory = neg_ℤ (pos 12)
error_number Invalid = neg_ℤ (pos 22)

abbrev pub unit_code : Result Unit PipeErr → ℤ
unit_code (Ok u) = pos 0
unit_code (Err e) = error_number e

abbrev pub flag_code : Result Bool PipeErr → ℤ
flag_code (Ok true) = pos 1
flag_code (Ok false) = pos 0
flag_code (Err e) = error_number e

abbrev pub count_code : Result ℕ PipeErr → ℤ
count_code (Ok n) = pos n
count_code (Err e) = error_number e
