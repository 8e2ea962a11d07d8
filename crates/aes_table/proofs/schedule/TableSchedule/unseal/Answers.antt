use Rattle.std.proofs.Common.{◌≡◌, ◌∙◌, ◌-◌, ap, arith, map, List, ℕ}
use Rattle.std_defs.specs.Aes.{before_rounds, key_schedule, add_round_key, inverse_sub_bytes, inverse_shift_rows}
use Rattle.aes_block.proofs.Rounds.{at_least_ten, at_most_fourteen, round_key_is, unsealing_none, unsealing_more}
use Rattle.aes_table.specs.Words.{bytes_of}
use Rattle.aes_table.specs.States.{state_of}
use Rattle.aes_table.specs.Key.{table_key}
use Rattle.aes_table.proofs.Backwards.{back_added}
use Rattle.aes_table.proofs.schedule.TableSchedule.unseal.Goals as goal

pub key_added-state-requires : goal.key_added-state-requires
key_added-state-requires c = omega (arith, at_most_fourteen c.args.self.now.rounds (map bytes_of c.args.self.now.words) c.args.self.now.scheduled)

pub unsealed_round-state-requires : goal.unsealed_round-state-requires
unsealed_round-state-requires c = omega (arith, at_most_fourteen c.args.self.now.rounds (map bytes_of c.args.self.now.words) c.args.self.now.scheduled)

pub loop-round-init : goal.loop-round-init
loop-round-init c =
    let s = c.args.self.now in
    let ws : List (List ℕ) = map bytes_of s.words in (
      omega (arith, at_least_ten s.rounds ws s.scheduled),
      ap (λ x. before_rounds (key_schedule (table_key s)) (inverse_sub_bytes (inverse_shift_rows x)) (s.rounds - 1)) (c.key_added-state.ensures ∙ ap (add_round_key ws s.rounds) c.columns_of.ensures)
          ∙ unsealing_none s.rounds ws c.args.b.now s.scheduled,
    )

pub loop-round-preserved : goal.loop-round-preserved
loop-round-preserved c =
    let s = c.args.self.now in
    let ws : List (List ℕ) = map bytes_of s.words in
    let x : List ℕ = inverse_sub_bytes (inverse_shift_rows (state_of c.loop-round.state)) in (
      omega arith,
      ap (λ y. before_rounds (key_schedule (table_key s)) (inverse_sub_bytes (inverse_shift_rows y)) (c.loop-round.round - 1 - 1))
          (c.unsealed_round-state.ensures ∙ back_added s.words s.back_words (c.loop-round.round - 1) x (omega arith) (omega arith)
          (omega (arith, at_most_fourteen s.rounds ws s.scheduled)) s.back)
          ∙ unsealing_more s.rounds ws x (c.loop-round.round - 1) (c.loop-round.round - 1 - 1) s.scheduled (omega arith) (omega arith)
          ∙ c.loop-round.invariant.1,
    )

pub returns : goal.returns
unfolding before_rounds
returns c =
    let s = c.args.self.now in
    let ws : List (List ℕ) = map bytes_of s.words in
    let end : c.loop-round.round - 1 ≡ 0 = omega arith in
    c.block_of.ensures ∙ c.unsealed_first.ensures
    ∙ round_key_is s.rounds ws 0 (inverse_sub_bytes (inverse_shift_rows (state_of c.loop-round.state))) s.scheduled (omega arith)
    ∙ (rw end at c.loop-round.invariant.1)
