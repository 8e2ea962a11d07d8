use Rattle.std.proofs.Common.{arith, slice_index}
use Rattle.aes_table.proofs.Entries.{word_of_bytes}
use Rattle.aes_table.proofs.States.{state_of_four}
use Rattle.aes_table.proofs.state.columns_of.Goals as goal

pub returns : goal.returns
returns c =
    state_of_four c.args.b.now c.from_le_bytes.result c.from_le_bytes-2.result c.from_le_bytes-3.result c.from_le_bytes-4.result (omega arith)
    (word_of_bytes c.from_le_bytes.result (slice_index c.args.b.now 0) (slice_index c.args.b.now 1) (slice_index c.args.b.now 2) (slice_index c.args.b.now 3) c.from_le_bytes.ensures (c.fits-b 0) (c.fits-b 1) (c.fits-b 2) (c.fits-b 3))
    (word_of_bytes c.from_le_bytes-2.result (slice_index c.args.b.now 4) (slice_index c.args.b.now 5) (slice_index c.args.b.now 6) (slice_index c.args.b.now 7) c.from_le_bytes-2.ensures (c.fits-b 4) (c.fits-b 5) (c.fits-b 6) (c.fits-b 7))
    (word_of_bytes c.from_le_bytes-3.result (slice_index c.args.b.now 8) (slice_index c.args.b.now 9) (slice_index c.args.b.now 10) (slice_index c.args.b.now 11) c.from_le_bytes-3.ensures (c.fits-b 8) (c.fits-b 9) (c.fits-b 10) (c.fits-b 11))
    (word_of_bytes c.from_le_bytes-4.result (slice_index c.args.b.now 12) (slice_index c.args.b.now 13) (slice_index c.args.b.now 14) (slice_index c.args.b.now 15) c.from_le_bytes-4.ensures (c.fits-b 12) (c.fits-b 13) (c.fits-b 14) (c.fits-b 15))
