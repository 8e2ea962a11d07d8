-- A caller's passes. A pass is at hand between two calls.
use Rattle.std.specs.Prelude.{◌≡◌, Option, Some, None}
use Rattle.alg_registry.specs.declared.entry.RegEntry.{RegEntry}
use Rattle.atomic_table.specs.Seated.{TableId}
use Rattle.board.specs.declared.entry.BoardEntry.{BoardEntry}
use Rattle.transforms.specs.declared.ask.Ask.{Ask}
use Rattle.transforms.specs.declared.request.Finished.{Finished}
use Rattle.turn_lock.specs.declared.lock.Pass.{Pass}
use Rattle.turn_lock.specs.Passes.{knows}
use Rattle.turn_lock.specs.Turns.{Known, fresh_pass}
use Rattle.shared_board.specs.declared.shared.SharedBoard.{SharedBoard}
use Rattle.shared_registry.specs.declared.registry_lock.SharedRegistry.{SharedRegistry}

abbrev pub RegPass : Type 0
RegPass = Pass RegEntry

abbrev pub BoardPass : Type 0
BoardPass = Pass (BoardEntry Ask)

-- what a caller knows whose pass this is
abbrev pub known : {E : Type 0} → Option (Pass E) → Known E
known (Some pass) = knows pass
known None = fresh_pass

-- of which lock the pass is
abbrev pub lock_of : {E : Type 0} → Option (Pass E) → Option TableId
lock_of (Some pass) = Some pass.badge.table_id
lock_of None = None

-- a caller of this registry
abbrev pub CallsRegistry : SharedRegistry → Option RegPass → Type 0
CallsRegistry registry pass = lock_of pass ≡ Some registry.lock.table.shared.table_id

-- a caller of this board
abbrev pub CallsBoard : {W : Type 0} → SharedBoard W Ask Finished → Option BoardPass → Type 0
CallsBoard board pass = lock_of pass ≡ Some board.lock.table.shared.table_id
