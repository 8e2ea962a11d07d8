-- A pointer's machine value, and a handle's.
use Rattle.std.proofs.Common.{[], ◌∷◌, lit<}
use mir.Syntax.{ty_ptr}
use mir.Val.{Val, vstruct, vcons, vnil}
use denote.Laws.{Typed}
use denote.RawPtr.{Ptr, block_ptr, null_ptr, ptr_val}

abbrev pub word : Ptr → Val
word p = vstruct (vcons (ptr_val p) vnil)

-- it has a pointer's type
pub pointer_fits : (p : Ptr) → Typed (ty_ptr ∷ []) (ptr_val p ∷ [])
pointer_fits (block_ptr b o) = ((tt, tt), tt)
pointer_fits null_ptr = ((tt, record { fits = lit< tt }), tt)
