-- what a mode of a cipher is
use Rattle.std.specs.Prelude.{◌≡◌, ◌<◌, ℕ, List, Option, Some, length, All}

-- under an IV of that many bytes, what is unsealed of a sealed text of bytes is the text
pub record UndoesSealing (iv_size : ℕ) (seals unseals : List ℕ → List ℕ → Option (List ℕ)) : Type 0 where
  pub unseals_sealed : (iv text sealed : List ℕ) → length iv ≡ iv_size → All (λ x. x < 256) iv → All (λ x. x < 256) text
      → seals iv text ≡ Some sealed → unseals iv sealed ≡ Some text
