use Rattle.std_defs.specs.Aes.{add_round_key, mix_columns, shift_rows, sub_bytes}
use Rattle.aes_ni.specs.RoundKeys.{schedule_of}
use Rattle.aes_ni.proofs.EightBlocks.{one_done}
use Rattle.aes_ni.proofs.key_schedule.KeySchedule.seal_round_of_all.Goals as goal

pub loop-state-preserved : goal.loop-state-preserved
loop-state-preserved c =
    one_done (λ s. add_round_key (schedule_of c.args.self.now.keys) c.args.round (mix_columns (shift_rows (sub_bytes s))))
    c.args.states.now c.loop-state.states c.loop-state.state-index _ c.told-states c.loop-state-test.true c.loop-state.invariant c.seal_round.ensures
