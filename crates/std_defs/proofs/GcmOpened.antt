-- Opening undoes sealing.
use Rattle.std.proofs.Common.{◌≡◌, ℕ, ◌≤◌, Bool, cond, sym, ap, ◌∙◌, List, length, take, Some, None, arith, length-take}
use Rattle.std.proofs.lemmas.Slice.Eq.{bytes_eq-Decides}
use Rattle.std_defs.specs.Blocks.{block_bytes}
use Rattle.std_defs.specs.Gcm.{BlockFunction, gctr, gcm_text, gcm_tag, gcm_open}
use Rattle.std_defs.proofs.KeyStream.{length-with_stream, with_stream-twice}

pub gcm_text-twice : (cipher : BlockFunction) (iv text : List ℕ) → gcm_text cipher iv (gcm_text cipher iv text) ≡ text
unfolding gcm_text gctr
gcm_text-twice cipher iv text = with_stream-twice _ text

pub length-gcm_tag : (cipher : BlockFunction) (iv associated text : List ℕ) → length (gcm_tag cipher iv associated text) ≡ 16
unfolding gcm_tag gctr block_bytes
length-gcm_tag cipher iv associated text = length-with_stream _ _

-- the sealed text opens under each front of its tag
pub gcm_open-seal : (cipher : BlockFunction) (iv associated text sealed tag : List ℕ) (n : ℕ)
    → sealed ≡ gcm_text cipher iv text → tag ≡ gcm_tag cipher iv associated sealed → n ≤ 16
    → gcm_open cipher iv associated sealed (take n tag) ≡ Some text
unfolding gcm_open
gcm_open-seal cipher iv associated text sealed tag n is_sealed is_tag short =
    ap (λ (b : Bool). cond b (Some (gcm_text cipher iv sealed)) None)
    ((bytes_eq-Decides (take (length (take n tag)) full) (take n tag)).1 (ap (λ (m : ℕ). take m full) long ∙ ap (take n) (sym is_tag)))
    ∙ ap (λ (t : List ℕ). Some t) (ap (gcm_text cipher iv) is_sealed ∙ gcm_text-twice cipher iv text)
  where
    full : List ℕ
    full = gcm_tag cipher iv associated sealed

    long : length (take n tag) ≡ n
    long = omega (arith, length-take n tag, ap length is_tag, length-gcm_tag cipher iv associated sealed)
