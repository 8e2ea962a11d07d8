use Rattle.std.specs.Prelude.{◌≡◌, ℕ, ◌+◌, ◌-◌, ◌≤◌, drop, List, ◌++◌, length, Option}
use Rattle.padata_core.specs.Pad.{ready, done_from}
use Rattle.kc_base.specs.Handed.{Handed}

-- what is handed out now and what is still to come make up what there was to hand out
pub record StillCollecting {F : Type 0} (from : ℕ) (outcomes : List (Option F)) (before : Handed F) (next : ℕ) (rest : List (Option F)) (into : Handed F) : Type 0 where
  pub handed : into.list ++ done_from next (ready rest) ≡ before.list ++ done_from from (ready outcomes)
  pub number : next + length (ready rest) ≡ from + length (ready outcomes)
  pub length : length rest + next ≡ length outcomes + from
  pub after : from ≤ next
  pub left : rest ≡ drop (next - from) outcomes
  pub room : into.spare + next ≡ before.spare + from
