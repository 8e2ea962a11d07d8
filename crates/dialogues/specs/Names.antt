-- What a script takes for a name, for the length of a queue, and for a driver to register.
use Rattle.std.specs.Prelude.{ℕ, Bool, true, false, ◌&&◌, nat_lt, nat_le, if◌then◌else◌, List, length, find, Option, Some, None, Result, Ok, Err}
use Rattle.std.specs.Option.{option_map}
use Rattle.std.specs.Str.{bytes_eq}
use Rattle.kc_base.specs.declared.error_numbers.Errno.{Errno}
use Rattle.kc_base.specs.declared.error_numbers.Errno.TheVariants.{EINVAL, ENAMETOOLONG}
use Rattle.alg_names.specs.Name.{Tree, depth, width}
use Rattle.alg_names.specs.Spelled.{tree_of}
use Rattle.alg_registry.specs.declared.spec.Spec.{Spec}
use Rattle.alg_registry.specs.declared.spec.Wrap.{Wrap}
use Rattle.alg_registry.specs.declared.spec.Wrap.TheVariants.{Plain, Pcrypt, Cryptd}
use Rattle.templates.specs.declared.driver_plans.Plan.{Plan}
use Rattle.templates.specs.Nesting.{is_nested_well}
use Rattle.templates.specs.Plans.{plan_at}
use Rattle.templates.specs.Table.{drivers}

abbrev pub within : Option Tree → Result Tree Errno
within (Some t) = if nat_le (depth t) 8 && nat_le (width t) 4 then Ok t else Err EINVAL
within None = Err EINVAL

-- the name within the limits that a text is, or why it is none
abbrev pub limited_name : List ℕ → Result Tree Errno
limited_name text = if nat_lt 127 (length text) then Err ENAMETOOLONG else within (tree_of text)

abbrev pub nested : Result Tree Errno → Result Tree Errno
nested (Ok t) = if is_nested_well t then Ok t else Err EINVAL
nested (Err errno) = Err errno

-- the same, with `pcrypt` and `cryptd` only where they may stand
abbrev pub name_read : List ℕ → Result Tree Errno
name_read text = nested (limited_name text)

-- the length of a queue, where one is given
abbrev pub is_queue_length : Option ℕ → Bool
is_queue_length None = true
is_queue_length (Some max) = nat_le 1 max && nat_le max 4096

-- only what is under `cryptd` has a queue
abbrev pub takes_length : Wrap → Option ℕ → Bool
takes_length wrap None = true
takes_length Cryptd (Some max) = true
takes_length Plain (Some max) = false
takes_length Pcrypt (Some max) = false

abbrev pub plan_named : Result Tree Errno → Option Plan
plan_named (Ok t) = plan_at t
plan_named (Err errno) = None

-- What an entry computes as a transform, by its driver's name. A cipher, a hash or a GHASH alone has no plan.
abbrev pub plan_for : Spec → Option ℕ → Option Plan
plan_for spec length = if takes_length spec.wrap length then plan_named (limited_name spec.driver) else None

-- A driver that a script may register, with a priority.
abbrev pub driver_spec : List ℕ → ℕ → Option Spec
driver_spec driver priority = option_map (λ (spec : Spec). record spec { priority = priority }) (find (λ spec. bytes_eq driver spec.driver) drivers)
