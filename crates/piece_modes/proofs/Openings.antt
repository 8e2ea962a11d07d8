-- What opening GCM gives, by the test of the tag.
use Rattle.std.proofs.Common.{◌≡◌, ℕ, List, sym, ap, ◌∙◌, Some, None, cond, true, false, length, take, bytes_eq}
use Rattle.std_defs.specs.Gcm.{BlockFunction, gcm_text, gcm_tag, gcm_open}
use Rattle.std_defs.specs.Value.{Value, or_bad_message}
use Rattle.std_defs.specs.Value.Value.{bytes, bad_message}

module _ (cipher : BlockFunction) (iv associated text full tag : List ℕ) (is : full ≡ gcm_tag cipher iv associated text) where
  opened_by : Value
  opened_by = or_bad_message (cond (bytes_eq (take (length tag) full) tag) (Some (gcm_text cipher iv text)) None)

  by_full : or_bad_message (gcm_open cipher iv associated text tag) ≡ or_bad_message (cond (bytes_eq (take (length tag) full) tag) (Some (gcm_text cipher iv text)) None)
  unfolding gcm_open
  by_full = ap (λ (t : List ℕ). or_bad_message (cond (bytes_eq (take (length tag) t) tag) (Some (gcm_text cipher iv text)) None)) (sym is)

  pub refused : bytes_eq (take (length tag) full) tag ≡ false → or_bad_message (gcm_open cipher iv associated text tag) ≡ bad_message
  refused differ = by_full ∙ ap (λ b. or_bad_message (cond b (Some (gcm_text cipher iv text)) None)) differ

  pub opened : (new : List ℕ) → bytes_eq (take (length tag) full) tag ≡ true → new ≡ gcm_text cipher iv text
      → or_bad_message (gcm_open cipher iv associated text tag) ≡ bytes new
  opened new same made =
      by_full ∙ ap (λ b. or_bad_message (cond b (Some (gcm_text cipher iv text)) None)) same ∙ ap (λ (t : List ℕ). or_bad_message (Some t)) (sym made)
