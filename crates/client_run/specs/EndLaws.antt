-- Laws by which several scripts at once end: of passes that were split off and joined, of a board that is shut, and of
-- texts.
use Rattle.std.specs.Prelude.{ℕ, List}
use Rattle.alg_registry.specs.declared.entry.RegEntry.{RegEntry}
use Rattle.board.specs.declared.entry.BoardEntry.{BoardEntry}
use Rattle.board.specs.Alone.{PeersAreGone, PeersStayGone, WorkAlone}
use Rattle.board.specs.Ends.{ShutIsLast}
use Rattle.board.specs.NextEntry.{AreRightAlone}
use Rattle.board.specs.Others.{OthersAlone, WorkLeavesKnown, WorkLeavesDrained, WorkLeavesOwn}
use Rattle.board.specs.SharedPipelines.{MakersFinish}
use Rattle.client_texts.specs.Laws.{ClientsInOrder, FirstInOrder}
use Rattle.crew.specs.Peers.{PeersLeave, PeersTakeNumbers, PeersHaveEnded, EndedStays, EndedAreAlone, FirstIsAlone, CallersAre}
use Rattle.transforms.specs.declared.ask.Ask.{Ask}
use Rattle.turn_lock.specs.Turns.{Known}
use Rattle.client_run.specs.Laws.{Laws}

-- what is known of passes that were split off a first one
pub record PeerLaws (E : Type 0) : Type 0 where
  pub leave : (from : ℕ) (ws : List (Known E)) (k l : Known E) → PeersLeave from ws k l
  pub numbers : (from : ℕ) (w : Known E) (ws : List (Known E)) (k l : Known E) → PeersTakeNumbers from w ws k l
  pub ended : (from : ℕ) (ws : List (Known E)) (k l : Known E) → PeersHaveEnded from ws k l
  pub stays : (w l m : Known E) → EndedStays w l m
  pub alone : (by : E → ℕ) (w l : Known E) (log : List E) → EndedAreAlone by w l log
  pub first : (by : E → ℕ) (k l : Known E) (log : List E) → FirstIsAlone by k l log
  pub callers : (by : E → ℕ) (workers count : ℕ) (l : Known E) (log : List E) → CallersAre by workers count l log

-- what is known of a board that is left to workers, and shut
pub record ShutLaws : Type 0 where
  pub gone : (k : Known (BoardEntry Ask)) (h : List (BoardEntry Ask)) → PeersAreGone k h
  pub stay : (k : Known (BoardEntry Ask)) (h : List (BoardEntry Ask)) (e : BoardEntry Ask) → PeersStayGone k h e
  pub work : (k m : Known (BoardEntry Ask)) (h es : List (BoardEntry Ask)) → WorkAlone k m h es
  pub makers : (h : List (BoardEntry Ask)) → MakersFinish h
  pub last : (h : List (BoardEntry Ask)) (caller : ℕ) (es : List (BoardEntry Ask)) → ShutIsLast h caller es
  pub others : (h es : List (BoardEntry Ask)) (caller : ℕ) → OthersAlone h es caller
  pub mine : (h es : List (BoardEntry Ask)) (p caller : ℕ) → WorkLeavesKnown h es p caller
  pub drained : (h es : List (BoardEntry Ask)) (p caller : ℕ) → WorkLeavesDrained h es p caller
  pub own : (h es : List (BoardEntry Ask)) (caller : ℕ) → WorkLeavesOwn h es caller
  pub right : (h : List (BoardEntry Ask)) (p : ℕ) → AreRightAlone h p

pub record EndLaws : Type 0 where
  pub registry : PeerLaws RegEntry
  pub board : PeerLaws (BoardEntry Ask)
  pub shut : ShutLaws
  pub calls : Laws
  pub clients_in_order : ClientsInOrder
  pub first_in_order : FirstInOrder
