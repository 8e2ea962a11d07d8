use Rattle.std.proofs.Common.{◌≡◌, [], ◌∷◌, ◌+◌, ◌*◌, ◌%◌, ◌^◌, ◌<◌, refl, sym, ap, ap₂, slice_index, ◌∙◌, arith, add-one}
use Rattle.std_defs.specs.ChaCha20.{add32, column_round, diagonal_round, double_rounds, block_word, initial_state}
use Rattle.chacha_lanes.specs.Lanes.{lane, lane_at}
use Rattle.chacha_lanes.proofs.LaneFacts.{slice_index-lane, below_sixteen}
use Rattle.chacha_lanes.proofs.rounds.eight_blocks.Goals as goal

pub rounds-init : goal.rounds-init
unfolding double_rounds
rounds-init c j h = refl

pub rounds-preserved : goal.rounds-preserved
unfolding double_rounds
rounds-preserved c j h =
    rw add-one (c.diagonal_round-x.ensures j h
    ∙ ap diagonal_round (c.column_round.ensures j h ∙ ap column_round (c.rounds.invariant j h)))

pub returns : goal.returns
unfolding block_word
returns c j k lt word =
    let done : c.rounds._round ≡ 10 = omega arith in
    let first = c.initial_states-first.ensures j lt in
    below_sixteen (λ k. lane_at (c.add.result ∷ c.add-2.result ∷ c.add-3.result ∷ c.add-4.result ∷ c.add-5.result ∷ c.add-6.result ∷ c.add-7.result ∷ c.add-8.result ∷ c.add-9.result ∷ c.add-10.result ∷ c.add-11.result ∷ c.add-12.result ∷ c.add-13.result ∷ c.add-14.result ∷ c.add-15.result ∷ c.add-16.result ∷ []) k j ≡ add32 (lane_at c.rounds.x k j) (lane_at c.initial_states-first.result k j))
    (c.add.ensures j lt) (c.add-2.ensures j lt) (c.add-3.ensures j lt) (c.add-4.ensures j lt)
    (c.add-5.ensures j lt) (c.add-6.ensures j lt) (c.add-7.ensures j lt) (c.add-8.ensures j lt)
    (c.add-9.ensures j lt) (c.add-10.ensures j lt) (c.add-11.ensures j lt) (c.add-12.ensures j lt)
    (c.add-13.ensures j lt) (c.add-14.ensures j lt) (c.add-15.ensures j lt) (c.add-16.ensures j lt) k word
    ∙ ap₂ add32
    (sym (slice_index-lane c.rounds.x j k word) ∙ ap (λ x. slice_index x k) (c.rounds.invariant j lt ∙ ap₂ double_rounds done first))
    (sym (slice_index-lane c.initial_states-first.result j k word) ∙ ap (λ x. slice_index x k) first)
