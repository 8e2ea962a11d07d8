-- A seat at the lock's table.
use Rattle.std.specs.Prelude.{◌≡◌, [], ◌∷◌, Option, None}
use Rattle.std.specs.Global.{Box}
use Rattle.turn_lock.specs.declared.lock.TurnLock.{TurnLock}
use Rattle.turn_lock.specs.declared.view.View.{View}
use Rattle.turn_lock.specs.declared.view.Stage.TheVariants.{Idle, Holding}
use Rattle.turn_lock.specs.Turns.{Known}
use Rattle.turn_lock.specs.Rule.{known}
use Rattle.atomic_table.specs.declared.shared.Seat.{Seat}

module _ {T E : Type 0} where
  -- a seat of the lock's table that waits for nothing
  abbrev pub IsIdle : TurnLock T E → Seat (Option (Box T)) (View E) → Type 0
  IsIdle l s = (s.table_id ≡ l.table.shared.table_id) × (s.me.0.stage ≡ Idle) × (s.me.1 ≡ [])

  -- a seat that has its turn, while the value is out
  abbrev pub IsAtTurn : TurnLock T E → Seat (Option (Box T)) (View E) → Type 0
  IsAtTurn l s = (s.table_id ≡ l.table.shared.table_id) × (s.me.0.stage ≡ Holding) × (s.me.1 ≡ (0, None) ∷ [])

-- what a seat knows
abbrev pub seat_knows : {S E : Type 0} → Seat S (View E) → Known E
seat_knows s = known s.me.0
