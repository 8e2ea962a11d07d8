use Rattle.std.proofs.Common.{ap, sym, ◌∙◌, ◌++◌, ℕ, List}
use Rattle.std_defs.specs.Gcm.{hash_subkey, pre_counter_block, inc32, padded_blocks}
use Rattle.std_defs.proofs.Horner.{horner}
use Rattle.ctr_mode.specs.Streams.{with_bytes, key_byte}
use Rattle.gcm_mode.specs.Streams.{row}
use Rattle.gcm_mode.proofs.GcmStreamed.{gcm_text-more, on_more, under_subkey}
use Rattle.gcm_mode.proofs.stream.GcmText.unseal.Goals as goal

pub returns-clause-more : goal.returns-clause-more
returns-clause-more g c = λ iv a t made held.
    let cipher = g.C.BlockCipher.sealed c.args.gcm.now in
    let s = c.args.self.now in
    let d = c.args.piece.now in
    let h = hash_subkey cipher in
    let out = c.apply.ensures.text ∙ ap (λ k. with_bytes (key_byte (g.C.BlockCipher.sealed k) (row s.stream.0.next) s.stream.1) d) c.cipher.ensures in (
      record {
        under = held.0.under;
        associated_len = held.0.associated_len;
        associated_bytes = held.0.associated_bytes;
        stream = on_more (inc32 (pre_counter_block iv)) s.stream.1 c.apply.new.self.1 (row s.stream.0.next) (row c.apply.new.self.0.next) t d held.0.stream c.apply.ensures.on;
        hash = under_subkey h (g.H.GhashKey.block c.key.result.now) (horner h 0 (padded_blocks a)) s.hash c.add.new.self t d c.key.ensures c.add.ensures.more held.0.hash;
      },
      ap (λ (v : List ℕ). v ++ c.apply.new.text) held.1 ∙ sym (gcm_text-more cipher iv t d c.apply.new.text (row s.stream.0.next) s.stream.1 held.0.stream out),
    )
