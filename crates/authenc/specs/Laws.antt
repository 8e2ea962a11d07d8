-- the law of authenc
use Rattle.std.specs.Prelude.{◌≡◌, ◌≤◌, ◌<◌, ℕ, List, length, take, All, Option, Some}
use Rattle.std_defs.specs.Authenc.{authenc_seal, authenc_open}
use Rattle.std_defs.specs.Value.Value.{bytes}
use Rattle.aes_block.specs.Mode.{UndoesSealing}

-- what authenc sealed opens to the text again, under each front of the whole tag
abbrev pub OpensWhatItSealed : Type 0
OpensWhatItSealed =
    (block : List ℕ) (iv_size : ℕ) (seals unseals : List ℕ → List ℕ → Option (List ℕ)) → UndoesSealing iv_size seals unseals
    → (iv associated text made tag : List ℕ) (n : ℕ) → length iv ≡ iv_size → All (λ x. x < 256) iv → All (λ x. x < 256) text → n ≤ length tag
    → authenc_seal block (seals iv) associated text ≡ Some (made, tag)
    → authenc_open block (unseals iv) associated made (take n tag) ≡ bytes text
