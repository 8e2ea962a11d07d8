-- What was sealed opens again.
use Rattle.std.specs.Prelude.{◌≡◌, ◌++◌, ℕ, List, length, take, Option, Some, None, bytes_eq}
use Rattle.std.specs.Option.{option_map}
use Rattle.std.proofs.Common.{sym, ap, ◌∙◌, arith, length-take}
use Rattle.std.proofs.lemmas.Bool.{cond-true}
use Rattle.std.proofs.lemmas.Slice.Eq.{bytes_eq-Decides}
use Rattle.std_defs.specs.Hmac.{hmac_under}
use Rattle.std_defs.specs.Authenc.{authenc_seal, authenc_open}
use Rattle.std_defs.specs.Value.{or_invalid}
use Rattle.std_defs.specs.Value.Value.{bad_message}
use Rattle.authenc.specs.Laws.{OpensWhatItSealed}

-- a text and what is made of it
parts : (sealed : Option (List ℕ)) (mac : List ℕ → List ℕ) (made tag : List ℕ) → option_map {U = List ℕ × List ℕ} (λ c. (c, mac c)) sealed ≡ Some (made, tag)
    → (sealed ≡ Some made) × (tag ≡ mac made)
parts None mac made tag is = absurd (cc)
parts (Some c) mac made tag is =
    let both : (c, mac c) ≡ (made, tag) = cc in
    let text : c ≡ made = ap (λ (p : List ℕ × List ℕ). p.0) both in
    (ap Some text, sym (ap (λ (p : List ℕ × List ℕ). p.1) both) ∙ ap mac text)

pub opens_what_it_sealed : OpensWhatItSealed
unfolding authenc_seal authenc_open
opens_what_it_sealed block iv_size seals unseals undoes iv associated text made tag n is_size iv_bytes text_bytes short is =
    let mac : List ℕ → List ℕ = λ c. hmac_under block (associated ++ c) in
    let sealed : (seals iv text ≡ Some made) × (tag ≡ mac made) = parts (seals iv text) mac made tag is in
    let long : length (take n tag) ≡ n = omega (arith, length-take n tag) in
    let front : take (length (take n tag)) (mac made) ≡ take n tag = ap (λ (k : ℕ). take k (mac made)) long ∙ ap (take n) (sym sealed.1) in
    cond-true (bytes_eq (take (length (take n tag)) (mac made)) (take n tag)) (or_invalid (unseals iv made)) bad_message
    ((bytes_eq-Decides (take (length (take n tag)) (mac made)) (take n tag)).1 front)
    ∙ ap or_invalid (undoes.unseals_sealed iv text made is_size iv_bytes text_bytes sealed.0)
