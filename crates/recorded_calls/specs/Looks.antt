-- Looks that are made first, and what they come to later.
use Rattle.std.specs.Prelude.{◌≡◌, true, false, ℕ, List, Option, Some, Result, Ok, Err}
use Rattle.std.specs.List.{list_all}
use Rattle.kc_base.specs.declared.error_numbers.Errno.{Errno}
use Rattle.alg_registry.specs.declared.entry.Looked.{Looked}
use Rattle.alg_registry.specs.declared.entry.RegEntry.{RegEntry}
use Rattle.alg_registry.specs.declared.entry.RegEntry.TheVariants as entry
use Rattle.alg_registry.specs.declared.spec.Spec.{Spec}
use Rattle.alg_registry.specs.Rows.{caller_of}
use Rattle.shared_registry.specs.Builds.{is_building}
use Rattle.shared_registry.specs.Faithful.{IsFaithful}
use Rattle.templates.specs.LookResults.{Found, Entry, Fault, found_in}
use Rattle.turn_lock.specs.PassLaws.{GoesOn}
use Rattle.recorded_calls.specs.Passes.{RegPass, known, lock_of}

-- a text that was looked for, and what was answered
pub record Sought : Type 0 where
  pub text : List ℕ
  pub looked : Looked

-- the caller has seen more, on the same lock, and of its own it made these entries
pub record Goes (before after : Option RegPass) (own : List RegEntry) : Type 0 where
  pub lock : lock_of after ≡ lock_of before
  pub goes : GoesOn caller_of IsFaithful (known before) (known after) own

-- the entry of a caller's look
abbrev pub look_entry : ℕ → Sought → RegEntry
look_entry caller look = entry.Look caller look.text false look.looked

-- the entry that was found, as it came to be, or the number
abbrev pub found_result : Found → Result Spec Errno
found_result (Entry id spec) = Ok spec
found_result (Fault errno) = Err errno

-- the caller built and waited, and looked for nothing
pub record Builds (before after : Option RegPass) : Type 0 where
  pub work : List RegEntry
  pub goes : Goes before after work
  pub all_work : list_all is_building work ≡ true

-- the caller built and waited, and then the look had come to this
pub record Settles (before after : Option RegPass) (looked : Looked) (result : Result Spec Errno) : Type 0 where
  pub work : List RegEntry
  pub goes : Goes before after work
  pub all_work : list_all is_building work ≡ true
  pub found : Found
  pub found_is : found_in (known after).seen looked ≡ Some found
  pub result_is : result ≡ found_result found
