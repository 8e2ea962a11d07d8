-- what was sealed opens under its whole tag
use Rattle.std.proofs.Common.{◌≡◌, ℕ, List, Some, length, arith, subst, ap}
use Rattle.std.proofs.lemmas.List.{take_all}
use Rattle.std_defs.specs.Gcm.{BlockFunction, gcm_text, gcm_tag, gcm_open}
use Rattle.std_defs.proofs.GcmOpened.{gcm_open-seal, length-gcm_tag}

pub gcm_open-seal_whole : (cipher : BlockFunction) (iv associated text sealed tag : List ℕ)
    → sealed ≡ gcm_text cipher iv text → tag ≡ gcm_tag cipher iv associated sealed → gcm_open cipher iv associated sealed tag ≡ Some text
gcm_open-seal_whole cipher iv associated text sealed tag is_sealed is_tag =
    subst (λ (t : List ℕ). gcm_open cipher iv associated sealed t ≡ Some text)
    (take_all 16 tag (omega (arith, ap length is_tag, length-gcm_tag cipher iv associated sealed)))
    (gcm_open-seal cipher iv associated text sealed tag 16 is_sealed is_tag (omega arith))
