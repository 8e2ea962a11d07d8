-- the law of XTS
use Rattle.std.specs.Prelude.{ℕ, List}
use Rattle.std_defs.specs.Xts.{xts_seal, xts_unseal}
use Rattle.std_defs.proofs.XtsOpened.{xts_opened}
use Rattle.aes_block.specs.Cipher.{AreInverse}
use Rattle.aes_block.specs.Mode.{UndoesSealing}

-- XTS over two ciphers gives back what XTS over them sealed
pub xts_unseals_what_it_sealed : (sealed unsealed tweak_sealed tweak_unsealed : List ℕ → List ℕ)
    → AreInverse sealed unsealed → AreInverse tweak_sealed tweak_unsealed
    → UndoesSealing 16 (xts_seal sealed tweak_sealed) (xts_unseal unsealed tweak_sealed)
xts_unseals_what_it_sealed sealed unsealed tweak_sealed tweak_unsealed inverse tweak_inverse = record {
  unseals_sealed = λ iv text given iv_long iv_bytes text_bytes is.
      xts_opened sealed unsealed tweak_sealed inverse.sealed_is_block inverse.unseals tweak_inverse.sealed_is_block iv text given (iv_long, iv_bytes) text_bytes is;
}
