-- What lies at a handle's pointer.
use Rattle.std.specs.Prelude.{Option, Some, None, Bool, true, false}
use base.Fml.{Fml, ftrue}
use denote.RattleType.{RattleType}
use denote.RawPtr.{Ptr}
use mir.Syntax.{Ty}
use Rattle.std_heap.specs.contracts.GlobalAllocator.TheImpl.{ghosts}
use Rattle.std_alloc.specs.Box.Ownership.{box_owns}
use Rattle.perdoaze_calls.specs.declared.transform.Transform.{Transform}
use Rattle.perdoaze_calls.specs.contracts.transform.Transform.{the_row}

-- the right to free a block: whichever `Global` it is
abbrev pub freed_by : Ty → Ptr → Fml
freed_by = ghosts.dealloc_token (record { memory = record { seal = tt } })

-- nothing, or a block with a value of that type and the right to free it
abbrev pub owned_at : (R : RattleType) → Ptr → Option R.Denot → Fml
owned_at R p None = ftrue
owned_at R p (Some t) = box_owns freed_by R p t

abbrev pub is_filled : {T : Type 0} → Option T → Bool
is_filled None = false
is_filled (Some t) = true

-- the same of a transform
abbrev pub held_at : Ptr → Option Transform → Fml
held_at p x = owned_at the_row p x
