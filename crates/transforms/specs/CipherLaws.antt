-- the law of each mode without a tag
use Rattle.std_defs.specs.Aes.{seal, unseal}
use Rattle.std_defs.specs.Modes.{rfc3686_counter}
use Rattle.aes_block.specs.Mode.{UndoesSealing}
use Rattle.cbc_mode.specs.Laws.{cbc_unseals_what_it_sealed}
use Rattle.ctr_mode.specs.Laws.{ctr_undoes_itself}
use Rattle.xts_mode.specs.Laws.{xts_unseals_what_it_sealed}
use Rattle.transforms.specs.Forms.{key_of}
use Rattle.transforms.specs.Laws.{seals_and_unseals_in}
use Rattle.transforms.specs.Ciphers.{iv_size_of, seals_of, unseals_of}
use Rattle.transforms.specs.declared.any_cipher.AnyCipher.{AnyCipher}
use Rattle.transforms.specs.declared.any_cipher.AnyCipher.TheVariants.{Cbc, Ctr, Rfc3686, Xts}

pub undoes_sealing : (c : AnyCipher) → UndoesSealing (iv_size_of c) (seals_of c) (unseals_of c)
undoes_sealing (Cbc mode) = cbc_unseals_what_it_sealed (seal (key_of mode)) (unseal (key_of mode)) (seals_and_unseals_in mode)
undoes_sealing (Ctr mode) = ctr_undoes_itself (seal (key_of mode)) 16 (λ iv. iv)
undoes_sealing (Rfc3686 mode) = ctr_undoes_itself (seal (key_of mode.0)) 8 (rfc3686_counter mode.1)
undoes_sealing (Xts mode) =
    xts_unseals_what_it_sealed (seal (key_of mode.0)) (unseal (key_of mode.0)) (seal (key_of mode.1)) (unseal (key_of mode.1)) (seals_and_unseals_in mode.0) (seals_and_unseals_in mode.1)
