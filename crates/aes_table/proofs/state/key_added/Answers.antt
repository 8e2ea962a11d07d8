use Rattle.std.proofs.Common.{arith, ◌+◌, ◌*◌, ◌∷◌, [], slice_index, bit_xor}
use Rattle.aes_table.specs.Words.{state_in}
use Rattle.aes_table.specs.States.{state_of}
use Rattle.aes_table.proofs.States.{columns_added}
use Rattle.aes_table.proofs.Entries.{bytes_of-xor}
use Rattle.aes_table.proofs.state.key_added.Goals as goal

pub returns : goal.returns
unfolding state_in
returns c =
    columns_added c.args.words.now
    (bit_xor c.args.s.first (slice_index c.args.words.now (4 * c.args.round)) ∷ bit_xor c.args.s.second (slice_index c.args.words.now (4 * c.args.round + 1)) ∷ bit_xor c.args.s.third (slice_index c.args.words.now (4 * c.args.round + 2)) ∷ bit_xor c.args.s.fourth (slice_index c.args.words.now (4 * c.args.round + 3)) ∷ []) c.args.round (state_of c.args.s) (omega arith) c.requires
    (bytes_of-xor c.args.s.first (slice_index c.args.words.now (4 * c.args.round)))
    (bytes_of-xor c.args.s.second (slice_index c.args.words.now (4 * c.args.round + 1)))
    (bytes_of-xor c.args.s.third (slice_index c.args.words.now (4 * c.args.round + 2)))
    (bytes_of-xor c.args.s.fourth (slice_index c.args.words.now (4 * c.args.round + 3)))
