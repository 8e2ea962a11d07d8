-- the law of AES in each of its forms
use Rattle.std_defs.specs.Aes.{seal, unseal}
use Rattle.aes_block.specs.Cipher.{AreInverse}
use Rattle.aes_block.specs.Laws.{seals_and_unseals}
use Rattle.transforms.specs.declared.any_aes.AnyAes.{AnyAes}
use Rattle.transforms.specs.declared.any_aes.AnyAes.TheVariants.{Generic, Table, Lanes}
use Rattle.transforms.specs.Forms.{key_of}

pub seals_and_unseals_in : (a : AnyAes) → AreInverse (seal (key_of a)) (unseal (key_of a))
seals_and_unseals_in (Generic key) = seals_and_unseals key.bytes key.is_key
seals_and_unseals_in (Table key) = seals_and_unseals key.bytes key.is_key
seals_and_unseals_in (Lanes key) = seals_and_unseals key.value.bytes key.value.is_key
