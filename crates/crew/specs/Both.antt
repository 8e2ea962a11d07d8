-- A caller's passes on two locks, and what it went through on both.
use Rattle.std.specs.Prelude.{◌≡◌, ℕ, ◌+◌, ◌<◌, ◌^◌, []}
use Rattle.turn_lock.specs.Turns.{StartsWith, gives_number, gets_number, joined}
use Rattle.turn_lock.specs.Passes.{knows}
use Rattle.shared_board.specs.declared.shared.SharedBoard.{SharedBoard}
use Rattle.shared_board.specs.Passes.{IsPassOn}
use Rattle.shared_registry.specs.declared.registry_lock.SharedRegistry.{SharedRegistry}
use Rattle.shared_registry.specs.Passes.{IsPassOn as IsRegPassOn}
use Rattle.shared_registry.specs.Builds.{Works, is_building}
use Rattle.board.specs.PipelineHistory.{is_work}
use Rattle.crew.specs.declared.passes.Passes.{Passes}
use Rattle.crew.specs.BoardWork.{Worked}
use Rattle.crew.specs.Crews.{Crewed, SawEnd, with_next}

-- the passes are the board's and the registry's
abbrev pub ArePassesOn : {W A O : Type 0} → SharedBoard W A O → SharedRegistry → Passes A → Type 0
ArePassesOn board registry p = IsPassOn board p.board × IsRegPassOn registry p.registry

module _ {A : Type 0} where
  -- on the board jobs were done and requests passed on, on the registry larvals were built, and nothing else
  pub record WorkedOnBoth (p q : Passes A) : Type 0 where
    pub board : Worked (knows p.board) (knows q.board)
    pub registry : Works (knows p.registry) (knows q.registry)

  -- the first passes, into which none was joined
  pub record AreFirst (p : Passes A) : Type 0 where
    pub board : ((knows p.board).number ≡ 0) × ((knows p.board).next ≡ 1) × ((knows p.board).ended ≡ [])
    pub registry : ((knows p.registry).number ≡ 0) × ((knows p.registry).next ≡ 1) × ((knows p.registry).ended ≡ [])

  -- none was joined into the passes, and so many numbers may be given
  pub record HaveRoom (left : ℕ) (p : Passes A) : Type 0 where
    pub board : (knows p.board).ended ≡ []
    pub registry : (knows p.registry).ended ≡ []
    pub board_room : (knows p.board).next + left < 2 ^ 32
    pub registry_room : (knows p.registry).next + left < 2 ^ 32

  -- q are p, with the next numbers so much higher
  pub record HaveNext (more : ℕ) (p q : Passes A) : Type 0 where
    pub board : knows q.board ≡ with_next ((knows p.board).next + more) (knows p.board)
    pub registry : knows q.registry ≡ with_next ((knows p.registry).next + more) (knows p.registry)

  -- `own` has given its next numbers to `other`
  pub record AreSplit (p own other : Passes A) : Type 0 where
    pub board_gives : knows own.board ≡ gives_number (knows p.board).next (knows p.board)
    pub registry_gives : knows own.registry ≡ gives_number (knows p.registry).next (knows p.registry)
    pub board_gets : knows other.board ≡ gets_number (knows p.board).next (knows p.board)
    pub registry_gets : knows other.registry ≡ gets_number (knows p.registry).next (knows p.registry)

  -- b is joined into a
  pub record AreJoined (a b l : Passes A) : Type 0 where
    pub board : knows l.board ≡ joined (knows a.board) (knows b.board)
    pub registry : knows l.registry ≡ joined (knows a.registry) (knows b.registry)
    pub board_seen : StartsWith (knows l.board).seen (knows a.board).seen × StartsWith (knows l.board).seen (knows b.board).seen
    pub registry_seen : StartsWith (knows l.registry).seen (knows a.registry).seen × StartsWith (knows l.registry).seen (knows b.registry).seen

  -- The passes l are k, with so many workers joined into them, whose numbers begin at the next of p. On the board there
  -- are takes and finishes of jobs and passings on alone under their numbers, on the registry builds alone.
  pub record CrewedOnBoth (workers : ℕ) (p k l : Passes A) : Type 0 where
    pub board : Crewed is_work (knows p.board).next workers (knows k.board) (knows l.board)
    pub registry : Crewed is_building (knows p.registry).next workers (knows k.registry) (knows l.registry)
    pub shut : SawEnd workers (knows l.board)
