-- a mode without a tag under its key
use Rattle.std.proofs.Common.{nat_le, ◌≡◌, ℕ, ◌-◌, ◌≤◌, List, length, refl, ap, ap₂, ◌∙◌, true, arith, ⊎_elim, Option, Some}
use Rattle.std.proofs.lemmas.Bool.Decides.{nat_tests}
use Rattle.std.proofs.lemmas.List.{length-take-le}
use Rattle.std_defs.specs.Aes.{seal, unseal, IsKeyLength}
use Rattle.std_defs.specs.Modes.{cbc_seal, cbc_unseal, ctr as ctr_of, rfc3686_counter}
use Rattle.std_defs.specs.Xts.{xts_seal, xts_unseal}
use Rattle.templates.specs.Words.{template_named}
use Rattle.templates.specs.declared.driver_plans.AesForm.{AesForm}
use Rattle.templates.specs.declared.driver_plans.Plan.TheVariants as plan
use Rattle.transforms.specs.Plans.{is_key_length, is_salted_length, front_key, last_four, first_half, second_half}
use Rattle.transforms.specs.Forms.{key_of, form_of}
use Rattle.transforms.specs.Ciphers.{IsCipher}
use Rattle.transforms.specs.Modes.{cipher_value}
use Rattle.transforms.specs.RequestValue.{request_value}
use Rattle.transforms.specs.declared.any_aes.AnyAes.{AnyAes}
use Rattle.transforms.specs.declared.any_cipher.AnyCipher.TheVariants.{Cbc, Ctr, Rfc3686, Xts}

pub is_key_length-true : (n : ℕ) → IsKeyLength n → is_key_length n ≡ true
is_key_length-true n h = ⊎_elim (λ e. rw e refl) (λ o. ⊎_elim (λ e. rw e refl) (λ e. rw e refl) o) h

pub is_salted_length-true : (key front : List ℕ) → 4 ≤ length key → front ≡ front_key key → IsKeyLength (length front) → is_salted_length (length key) ≡ true
is_salted_length-true key front h e k =
    let t : nat_le 4 (length key) ≡ true = grind (arith, nat_tests) in
    let same : length front ≡ length key - 4 = ap length e ∙ length-take-le (length key - 4) key (omega arith) in
    rw (t, ← same) (is_key_length-true (length front) k)

some : List ℕ → Option (List ℕ)
some x = Some x

some_form : AesForm → Option AesForm
some_form x = Some x

pub under_cbc : (a : AnyAes) (form : AesForm) (key : List ℕ) → key_of a ≡ key → form_of a ≡ form → IsCipher (Cbc a) (plan.Cbc form) key
unfolding some some_form request_value template_named
under_cbc a form key e f = record {
  form = ap some_form f;
  aes_key = ap some e;
  iv = refl;
  gives = λ n q. ap (λ k. cipher_value (λ iv text. cbc_seal (seal k) iv text) (λ iv text. cbc_unseal (unseal k) iv text) q) e;
}

pub under_ctr : (a : AnyAes) (form : AesForm) (key : List ℕ) → key_of a ≡ key → form_of a ≡ form → IsCipher (Ctr a) (plan.Ctr form) key
unfolding some some_form request_value template_named
under_ctr a form key e f = record {
  form = ap some_form f;
  aes_key = ap some e;
  iv = refl;
  gives = λ n q. ap (λ k. cipher_value (λ iv text. some (ctr_of (seal k) iv text)) (λ iv text. some (ctr_of (seal k) iv text)) q) e;
}

pub under_rfc3686 : (m : AnyAes × List ℕ) (form : AesForm) (key : List ℕ) → key_of m.0 ≡ front_key key → form_of m.0 ≡ form → m.1 ≡ last_four key → IsCipher (Rfc3686 m) (plan.Rfc3686 form) key
unfolding some some_form request_value template_named
under_rfc3686 m form key e f d = record {
  form = ap some_form f;
  aes_key = ap some e;
  iv = refl;
  gives = λ n q. ap₂ (λ k s. cipher_value (λ iv text. some (ctr_of (seal k) (rfc3686_counter s iv) text)) (λ iv text. some (ctr_of (seal k) (rfc3686_counter s iv) text)) q) e d;
}

pub under_xts : (m : AnyAes × AnyAes) (form : AesForm) (key : List ℕ) → key_of m.0 ≡ first_half key → key_of m.1 ≡ second_half key → IsCipher (Xts m) (plan.Xts form) key
unfolding some request_value template_named
under_xts m form key e f = record {
  form = refl;
  aes_key = refl;
  iv = refl;
  gives = λ n q. ap₂ (λ k t. cipher_value (λ iv text. xts_seal (seal k) (seal t) iv text) (λ iv text. xts_unseal (unseal k) (seal t) iv text) q) e f;
}
