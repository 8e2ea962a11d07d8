use Rattle.std.proofs.Common.{◌≡◌, ◌∙◌, ap, arith, map, List, ℕ, ◌+◌, ◌-◌, ◌*◌, ◌%◌, ⊎_elim}
use Rattle.std_defs.specs.Aes.{after_rounds, add_round_key, key_schedule}
use Rattle.aes_block.specs.Schedule.{IsSchedule, key_of}
use Rattle.aes_block.proofs.Rounds.{at_least_ten, round_key_is, sealing_more, sealed_all}
use Rattle.aes_table.specs.Words.{bytes_of}
use Rattle.aes_table.specs.States.{state_of}
use Rattle.aes_table.proofs.schedule.TableSchedule.seal.Goals as goal

-- the rounds of a schedule are an even number
are_even : (r : ℕ) (ws : List (List ℕ)) → IsSchedule r ws → r % 2 ≡ 0
are_even r ws h = ⊎_elim (λ a. omega (arith, h.1.0)) (λ o. ⊎_elim (λ a. omega (arith, h.1.0)) (λ a. omega (arith, h.1.0)) o) h.0.0

pub loop-pair-init : goal.loop-pair-init
unfolding after_rounds
loop-pair-init c =
    let s = c.args.self.now in
    let ws : List (List ℕ) = map bytes_of s.words in
    let begun : state_of c.key_added.result ≡ after_rounds (key_schedule (key_of s.rounds ws)) c.args.b.now 0 =
    c.key_added.ensures ∙ ap (add_round_key ws 0) c.columns_of.ensures ∙ round_key_is s.rounds ws 0 c.args.b.now s.scheduled (omega arith) in
    c.sealed_round-state.ensures
    ∙ sealing_more s.rounds ws c.args.b.now (state_of c.key_added.result) 1 s.scheduled (omega arith) (omega (arith, at_least_ten s.rounds ws s.scheduled)) begun

pub loop-pair-preserved : goal.loop-pair-preserved
loop-pair-preserved c =
    let s = c.args.self.now in
    let ws : List (List ℕ) = map bytes_of s.words in
    let ahead : ℕ → List ℕ = after_rounds (key_schedule (key_of s.rounds ws)) c.args.b.now in
    let pair : ℕ = c.loop-pair.pair in
    let first : 2 * pair + 1 - 1 ≡ 2 * pair = omega arith in
    let second : 2 * pair ≡ 2 * pair + 1 - 1 = omega arith in
    let both : 2 * pair + 1 + 1 - 1 ≡ 2 * (pair + 1) - 1 = omega arith in
    let even : s.rounds % 2 ≡ 0 = are_even s.rounds ws s.scheduled in
    let between : state_of c.sealed_round-between.result ≡ ahead (2 * pair) =
    c.sealed_round-between.ensures
    ∙ sealing_more s.rounds ws c.args.b.now (state_of c.loop-pair.state) (2 * pair) s.scheduled (omega arith) (omega arith) c.loop-pair.invariant
    ∙ ap ahead first in
    c.sealed_round-state-in-loop-pair.ensures
    ∙ sealing_more s.rounds ws c.args.b.now (state_of c.sealed_round-between.result) (2 * pair + 1) s.scheduled (omega arith) (omega (arith, even)) (between ∙ ap ahead second)
    ∙ ap ahead both

pub returns : goal.returns
returns c =
    let s = c.args.self.now in
    let ws : List (List ℕ) = map bytes_of s.words in
    let end : 2 * c.loop-pair.pair - 1 ≡ s.rounds - 1 = omega (arith, at_least_ten s.rounds ws s.scheduled, are_even s.rounds ws s.scheduled) in
    c.block_of.ensures ∙ c.sealed_last.ensures
    ∙ sealed_all s.rounds ws c.args.b.now (state_of c.loop-pair.state) s.scheduled (rw end at c.loop-pair.invariant)
