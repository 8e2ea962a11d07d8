-- a mode with a tag under its key
use Rattle.std.proofs.Common.{◌≡◌, ℕ, Bool, true, false, if◌then◌else◌, List, ◌++◌, refl, ap, ap₂, sym, ◌∙◌, Option, Some, None, Box, Global}
use Rattle.std.specs.Option.{option_map}
use Rattle.std_defs.specs.Hmac.{hmac, hmac_under, block_key}
use Rattle.std_defs.specs.Authenc.{authenc_seal, authenc_open, blob}
use Rattle.std_defs.specs.Value.{Value, or_invalid}
use Rattle.std_defs.specs.Value.Value.{bytes, invalid}
use Rattle.sg_walk.specs.Segments.{Segmented}
use Rattle.templates.specs.Words.{template_named}
use Rattle.templates.specs.declared.driver_plans.AesForm.{AesForm}
use Rattle.templates.specs.declared.driver_plans.GhashForm.{GhashForm}
use Rattle.templates.specs.declared.driver_plans.Plan.TheVariants as plan
use Rattle.transforms.specs.Aeads.{IsAead}
use Rattle.transforms.specs.Ciphers as ciphers
use Rattle.transforms.specs.Drivers.{driver_of}
use Rattle.transforms.specs.Forms.{key_of, form_of}
use Rattle.transforms.specs.Modes.{gcm_seals, gcm_opens, rfc4106_seals, rfc4106_opens, ccm_seals, ccm_opens, authenc_seals, authenc_opens, cipher_value, aead_value}
use Rattle.transforms.specs.Plans.{front_key, last_four, by_keys, takes_key, aes_key_in}
use Rattle.transforms.specs.RequestValue.{Gives, request_value, by_direction, with_mac, under_mac, authenc_gives, cipher_request, ciphertext_in, tag_in}
use Rattle.transforms.specs.Tagged.{tagged}
use Rattle.transforms.specs.declared.request.Dir.{Dir}
use Rattle.transforms.specs.declared.request.Dir.TheVariants.{Enc, Dec, Mac}
use Rattle.transforms.specs.declared.request.Request.{Request}
use Rattle.transforms.specs.declared.any_aes.AnyAes.{AnyAes}
use Rattle.transforms.specs.declared.any_cipher.AnyCipher.{AnyCipher}
use Rattle.transforms.specs.declared.any_cipher.CipherMode.{CipherMode}
use Rattle.transforms.specs.declared.any_cipher.CipherMode.TheVariants as mode
use Rattle.transforms.specs.declared.any_aead.AnyAead.TheVariants.{BitGcm, LaneGcm, BitRfc4106, LaneRfc4106, Ccm, Authenc}

some : List ℕ → Option (List ℕ)
some x = Some x

some_form : AesForm → Option AesForm
some_form x = Some x

pub under_bits : (a : AnyAes) (form : AesForm) (ghash : GhashForm) (key : List ℕ) → key_of a ≡ key → form_of a ≡ form → IsAead (BitGcm a) (plan.Gcm form ghash) key
unfolding some some_form request_value template_named
under_bits a form ghash key e f = record {
  form = ap some_form f;
  aes_key = ap some e;
  iv = refl;
  tags = λ n. refl;
  input = refl;
  gives = λ n q. ap (λ k. aead_value (gcm_seals k) (gcm_opens k) n q) e;
}

pub under_lanes : (a : Box AnyAes Global) (form : AesForm) (ghash : GhashForm) (key : List ℕ) → key_of a.value ≡ key → form_of a.value ≡ form → IsAead (LaneGcm a) (plan.Gcm form ghash) key
unfolding some some_form request_value template_named
under_lanes a form ghash key e f = record {
  form = ap some_form f;
  aes_key = ap some e;
  iv = refl;
  tags = λ n. refl;
  input = refl;
  gives = λ n q. ap (λ k. aead_value (gcm_seals k) (gcm_opens k) n q) e;
}

-- associated bytes of a wrong length are refused in both directions
salted : (b : Bool) (d : Dir) (n : ℕ) (s : List ℕ × List ℕ) (o : Value)
    → elim d [ Enc ↦ or_invalid (option_map (tagged n) (if b then Some s else None)) | Dec ↦ (if b then o else invalid) | Mac ↦ invalid ]
    ≡ (if b then elim d [ Enc ↦ bytes (tagged n s) | Dec ↦ o | Mac ↦ invalid ] else invalid)
salted true Enc n s o = refl
salted true Dec n s o = refl
salted true Mac n s o = refl
salted false Enc n s o = refl
salted false Dec n s o = refl
salted false Mac n s o = refl

pub under_bits_salted : (m : AnyAes × List ℕ) (form : AesForm) (ghash : GhashForm) (key : List ℕ) → key_of m.0 ≡ front_key key → form_of m.0 ≡ form → m.1 ≡ last_four key → IsAead (BitRfc4106 m) (plan.Rfc4106 form ghash) key
unfolding some some_form request_value template_named
under_bits_salted m form ghash key e f d = record {
  form = ap some_form f;
  aes_key = ap some e;
  iv = refl;
  tags = λ n. refl;
  input = refl;
  gives = λ n q. ap₂ (λ k s. aead_value (rfc4106_seals k s) (rfc4106_opens k s) n q) e d ∙ salted _ q.dir n _ _;
}

pub under_lanes_salted : (m : Box (AnyAes × List ℕ) Global) (form : AesForm) (ghash : GhashForm) (key : List ℕ) → key_of m.value.0 ≡ front_key key → form_of m.value.0 ≡ form → m.value.1 ≡ last_four key → IsAead (LaneRfc4106 m) (plan.Rfc4106 form ghash) key
unfolding some some_form request_value template_named
under_lanes_salted m form ghash key e f d = record {
  form = ap some_form f;
  aes_key = ap some e;
  iv = refl;
  tags = λ n. refl;
  input = refl;
  gives = λ n q. ap₂ (λ k s. aead_value (rfc4106_seals k s) (rfc4106_opens k s) n q) e d ∙ salted _ q.dir n _ _;
}

-- what a cipher made, with its MAC behind it
with_mac_is : (mk aad : List ℕ) (n : ℕ) (made : Option (List ℕ))
    → or_invalid (option_map (tagged n) (option_map (λ c. (c, hmac_under (block_key mk) (aad ++ c))) made))
    ≡ with_mac (λ c. hmac mk (aad ++ c)) n (or_invalid made)
with_mac_is mk aad n (Some c) = refl
with_mac_is mk aad n None = refl

-- authenc over a cipher that gives what e gives under the cipher's key
authenc_value : (mk ck key : List ℕ) (seals unseals : List ℕ → List ℕ → Option (List ℕ)) (e : Gives) → blob key ≡ Some (mk, ck)
    → ((n : ℕ) (q : Request) → cipher_value seals unseals q ≡ e ck n q)
    → (n : ℕ) (q : Request) → aead_value (authenc_seals (block_key mk) seals) (authenc_opens (block_key mk) unseals) n q ≡ authenc_gives e key n q
unfolding authenc_seal authenc_open
authenc_value mk ck key seals unseals e reads is n q = by_direction_of q.dir q.iv q.aad q.text ∙ sym (ap (by_keys (gives q) invalid) reads)
  where
    gives : Request → List ℕ → List ℕ → Value
    gives r mk' ck' =
        by_direction r
        (with_mac (λ made. hmac mk' (r.aad ++ made)) n (e ck' 0 (cipher_request r.text.text r)))
        (under_mac (hmac mk' (r.aad ++ ciphertext_in n r)) (tag_in n r) (e ck' 0 (cipher_request (ciphertext_in n r) r)))

    at : Dir → List ℕ → List ℕ → Segmented → Request
    at d iv aad text = record { dir = d; iv = iv; aad = aad; text = text }

    by_direction_of : (d : Dir) (iv aad : List ℕ) (text : Segmented)
        → aead_value (authenc_seals (block_key mk) seals) (authenc_opens (block_key mk) unseals) n (at d iv aad text) ≡ gives (at d iv aad text) mk ck
    by_direction_of Enc iv aad text =
        with_mac_is mk aad n (seals iv text.text) ∙ ap (with_mac (λ made. hmac mk (aad ++ made)) n) (is 0 (cipher_request text.text (at Enc iv aad text)))
    by_direction_of Dec iv aad text =
        let q' : Request = at Dec iv aad text in
        ap (under_mac (hmac mk (aad ++ ciphertext_in n q')) (tag_in n q')) (is 0 (cipher_request (ciphertext_in n q') q'))
    by_direction_of Mac iv aad text = refl

-- the cipher's mode over any form
pub under_authenc : (mk ck key : List ℕ) (c : AnyCipher) (m : CipherMode) (form : AesForm) → blob key ≡ Some (mk, ck) → ciphers.IsCipher c (ciphers.cipher_plan m form) ck
    → IsAead (Authenc (block_key mk, c)) (ciphers.authenc_plan m form) key
unfolding request_value template_named
under_authenc mk ck key c mode.Cbc form reads u = record {
  form = u.form;
  aes_key = u.aes_key ∙ sym (ap (by_keys (λ mk' ck'. aes_key_in (plan.Cbc form) ck') None) reads);
  iv = u.iv;
  tags = λ n. refl;
  input = refl;
  gives = authenc_value mk ck key (ciphers.seals_of c) (ciphers.unseals_of c) (request_value (driver_of (plan.Cbc form))) reads u.gives;
}
under_authenc mk ck key c mode.Ctr form reads u = record {
  form = u.form;
  aes_key = u.aes_key ∙ sym (ap (by_keys (λ mk' ck'. aes_key_in (plan.Ctr form) ck') None) reads);
  iv = u.iv;
  tags = λ n. refl;
  input = refl;
  gives = authenc_value mk ck key (ciphers.seals_of c) (ciphers.unseals_of c) (request_value (driver_of (plan.Ctr form))) reads u.gives;
}
under_authenc mk ck key c mode.Rfc3686 form reads u = record {
  form = u.form;
  aes_key = u.aes_key ∙ sym (ap (by_keys (λ mk' ck'. aes_key_in (plan.Rfc3686 form) ck') None) reads);
  iv = u.iv;
  tags = λ n. refl;
  input = refl;
  gives = authenc_value mk ck key (ciphers.seals_of c) (ciphers.unseals_of c) (request_value (driver_of (plan.Rfc3686 form))) reads u.gives;
}
under_authenc mk ck key c mode.Xts form reads u = record {
  form = u.form;
  aes_key = u.aes_key;
  iv = u.iv;
  tags = λ n. refl;
  input = refl;
  gives = authenc_value mk ck key (ciphers.seals_of c) (ciphers.unseals_of c) (request_value (driver_of (plan.Xts form))) reads u.gives;
}

-- authenc takes the keys whose second part its cipher takes
takes_authenc : (m : CipherMode) (form : AesForm) (key : List ℕ) → takes_key (ciphers.authenc_plan m form) key ≡ by_keys (λ mk ck. takes_key (ciphers.cipher_plan m form) ck) false (blob key)
takes_authenc mode.Cbc form key = refl
takes_authenc mode.Ctr form key = refl
takes_authenc mode.Rfc3686 form key = refl
takes_authenc mode.Xts form key = refl

pub takes_by_keys : (m : CipherMode) (form : AesForm) (key mk ck : List ℕ) → blob key ≡ Some (mk, ck) → takes_key (ciphers.cipher_plan m form) ck ≡ true
    → takes_key (ciphers.authenc_plan m form) key ≡ true
takes_by_keys m form key mk ck reads takes =
    takes_authenc m form key ∙ (ap (by_keys (λ mk' ck'. takes_key (ciphers.cipher_plan m form) ck') false) reads ∙ takes)

pub under_ccm : (a : AnyAes) (form : AesForm) (key : List ℕ) → key_of a ≡ key → form_of a ≡ form → IsAead (Ccm a) (plan.Ccm form) key
unfolding some some_form request_value template_named
under_ccm a form key e f = record {
  form = ap some_form f;
  aes_key = ap some e;
  iv = refl;
  tags = λ n. refl;
  input = refl;
  gives = λ n q. ap (λ k. aead_value (ccm_seals k) (ccm_opens k) n q) e;
}
