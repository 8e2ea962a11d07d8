-- A crew on two locks with one worker more.
use Rattle.std.proofs.Common.{◌≡◌, ℕ, ◌+◌, ◌<◌, true, ◌++◌, ap, ◌∙◌, arith}
use Rattle.std.specs.List.{list_all}
use Rattle.turn_lock.specs.Turns.{Known, gets_number}
use Rattle.turn_lock.specs.Passes.{knows}
use Rattle.board.specs.PipelineHistory.{is_work}
use Rattle.board.specs.Legal.{is_shut}
use Rattle.alg_registry.specs.declared.entry.RegEntry.{RegEntry}
use Rattle.shared_registry.specs.Builds.{Works, is_building}
use Rattle.shared_registry.specs.Laws.{WorksStill, WorksOn}
use Rattle.crew.specs.declared.passes.Passes.{Passes}
use Rattle.crew.specs.Both.{WorkedOnBoth, AreFirst, HaveRoom, HaveNext, AreSplit, AreJoined, CrewedOnBoth}
use Rattle.crew.proofs.Works.{worked_still, worked_on}
use Rattle.crew.proofs.Crews.{next_same, next_more, crewed_none, crewed_more, saw_none, saw_end, worked_alone}

built_alone : (k other w : Known RegEntry) (n : ℕ) → other ≡ gets_number n k → Works other w → list_all is_building w.made ≡ true
built_alone k other w n got works = ap (list_all is_building) (works.goes.made ∙ ap (λ x. x.made ++ works.work) got) ∙ works.all_work

module _ {A : Type 0} where
  pub both_still : WorksStill → (p : Passes A) → WorkedOnBoth p p
  both_still still p = record { board = worked_still (knows p.board); registry = still (knows p.registry) }

  pub both_on : WorksOn → (p q r : Passes A) → WorkedOnBoth p q → WorkedOnBoth q r → WorkedOnBoth p r
  both_on on p q r a b = record {
    board = worked_on (knows p.board) (knows q.board) (knows r.board) a.board b.board;
    registry = on (knows p.registry) (knows q.registry) (knows r.registry) a.registry b.registry;
  }

  pub next_none : (left : ℕ) (p : Passes A) → left ≡ 0 → HaveNext left p p
  next_none left p none = record { board = next_same (knows p.board) left none; registry = next_same (knows p.registry) left none }

  pub next_through : (left rest : ℕ) (p own other q : Passes A) → left ≡ rest + 1 → HaveRoom left p → AreSplit p own other → HaveNext rest own q → HaveNext left p q
  next_through left rest p own other q one room split next = record {
    board = next.board ∙ next_more (knows p.board) (knows own.board) rest left split.board_gives room.board one;
    registry = next.registry ∙ next_more (knows p.registry) (knows own.registry) rest left split.registry_gives room.registry one;
  }

  pub both_crewed_none : (left : ℕ) (p q : Passes A) → left ≡ 0 → CrewedOnBoth left p q q
  both_crewed_none left p q none = record {
    board = crewed_none is_work (knows p.board).next left (knows q.board) none;
    registry = crewed_none is_building (knows p.registry).next left (knows q.registry) none;
    shut = saw_none left (knows q.board) none;
  }

  pub both_crewed_more : (left rest : ℕ) (p own other w q m l : Passes A) → left ≡ rest + 1 → HaveRoom left p → AreSplit p own other → WorkedOnBoth other w → is_shut (knows w.board).seen ≡ true → CrewedOnBoth rest own q m → AreJoined m w l → CrewedOnBoth left p q l
  both_crewed_more left rest p own other w q m l one room split worked shut crewed join = record {
    board = crewed_more is_work (knows p.board) (knows own.board) (knows other.board) (knows w.board) (knows q.board) (knows m.board) (knows l.board) rest left split.board_gives split.board_gets room.board one
        worked.board.goes.number worked.board.goes.ended (worked_alone (knows p.board) (knows other.board) (knows w.board) (knows p.board).next split.board_gets worked.board) crewed.board join.board join.board_seen.0;
    registry = crewed_more is_building (knows p.registry) (knows own.registry) (knows other.registry) (knows w.registry) (knows q.registry) (knows m.registry) (knows l.registry) rest left split.registry_gives split.registry_gets room.registry one
        worked.registry.goes.number worked.registry.goes.ended (built_alone (knows p.registry) (knows other.registry) (knows w.registry) (knows p.registry).next split.registry_gets worked.registry) crewed.registry join.registry join.registry_seen.0;
    shut = saw_end left (knows w.board) (knows l.board) join.board_seen.1 shut;
  }

  pub first_room : (workers : ℕ) (p : Passes A) → workers < 17 → AreFirst p → HaveRoom workers p
  first_room workers p few first = record {
    board = first.board.2;
    registry = first.registry.2;
    board_room = (let h = first.board.1 in omega arith);
    registry_room = (let h = first.registry.1 in omega arith);
  }
