-- how a text grows under a stream that goes on
use Rattle.std.proofs.Common.{◌≡◌, ℕ, ◌+◌, ◌-◌, ◌<◌, ◌≤◌, List, [], ◌++◌, length, get_or, bit_xor, refl, sym, ap, ap₂, subst, ◌∙◌, arith, ⊎_elim, length-append}
use Rattle.std.proofs.lemmas.Bool.{cases_lt}
use Rattle.std.proofs.lemmas.List.{get_or_append_left, get_or-append_right}
use Rattle.std_defs.specs.Blocks.{block_number, with_stream}
use Rattle.std_defs.specs.Modes.{ctr, ctr_stream}
use Rattle.ctr_mode.specs.Streams.{with_bytes, key_byte, IsOn}
use Rattle.ctr_mode.specs.Texts.{row}
use Rattle.ctr_mode.proofs.Pieces.{with_bytes_is, with_bytes-at, length-with_bytes, key_on, on_on, from_start}

module _ (sealed : List ℕ → List ℕ) (block block' : ℕ → List ℕ) (used used' : ℕ) (a b : List ℕ) (on : IsOn block used (length a) block' used') where
  abbrev pub both : List ℕ
  both = with_bytes (key_byte sealed block used) a ++ with_bytes (key_byte sealed block' used') b

  length-first : length (with_bytes (key_byte sealed block used) a) ≡ length a
  length-first = length-with_bytes (key_byte sealed block used) a

  length-both : length both ≡ length (a ++ b)
  length-both =
      length-append (with_bytes (key_byte sealed block used) a) (with_bytes (key_byte sealed block' used') b)
      ∙ ap₂ (λ (m n : ℕ). m + n) length-first (length-with_bytes (key_byte sealed block' used') b) ∙ sym (length-append a b)

  in_first : (k : ℕ) → k < length a → get_or both k 0 ≡ bit_xor (get_or (a ++ b) k 0) (key_byte sealed block used k)
  in_first k h =
      get_or_append_left (with_bytes (key_byte sealed block used) a) (with_bytes (key_byte sealed block' used') b) 0 k (omega (arith, length-first))
      ∙ with_bytes-at (key_byte sealed block used) a k h
      ∙ ap (λ (t : ℕ). bit_xor t (key_byte sealed block used k)) (sym (get_or_append_left a b 0 k h))

  in_second : (k : ℕ) → length a ≤ k → k < length (a ++ b) → get_or both k 0 ≡ bit_xor (get_or (a ++ b) k 0) (key_byte sealed block used k)
  in_second k h within =
      let at : length a + (k - length a) ≡ k = omega arith in
      get_or-append_right (with_bytes (key_byte sealed block used) a) (with_bytes (key_byte sealed block' used') b) (length a) k 0 length-first h
      ∙ with_bytes-at (key_byte sealed block' used') b (k - length a) (omega (arith, length-append a b))
      ∙ ap₂ bit_xor (sym (get_or-append_right a b (length a) k 0 refl h))
      (key_on sealed block block' used used' (length a) on (k - length a) ∙ ap (key_byte sealed block used) at)

  pub with_bytes-append : with_bytes (key_byte sealed block used) (a ++ b) ≡ both
  with_bytes-append =
      sym (with_bytes_is (key_byte sealed block used) (a ++ b) both length-both
      (λ k within. ⊎_elim (in_first k) (λ h. in_second k h within) (cases_lt k (length a))))

ctr_bytes : (sealed : List ℕ → List ℕ) (first text : List ℕ) → ctr sealed first text ≡ with_bytes (key_byte sealed (row (block_number first)) 0) text
unfolding ctr_stream
ctr_bytes sealed first text = sym (from_start sealed (row (block_number first)) text)

pub ctr-more : (sealed : List ℕ → List ℕ) (first t d new : List ℕ) (block : ℕ → List ℕ) (used : ℕ)
    → IsOn (row (block_number first)) 0 (length t) block used → new ≡ with_bytes (key_byte sealed block used) d
    → ctr sealed first (t ++ d) ≡ ctr sealed first t ++ new
ctr-more sealed first t d new block used on made =
    let x : ℕ = block_number first in
    ctr_bytes sealed first (t ++ d) ∙ with_bytes-append sealed (row x) block 0 used t d on
    ∙ ap₂ (λ (a b : List ℕ). a ++ b) (sym (ctr_bytes sealed first t)) (sym made)

pub on_more : (x used used' : ℕ) (block block' : ℕ → List ℕ) (t d : List ℕ) → IsOn (row x) 0 (length t) block used → IsOn block used (length d) block' used'
    → IsOn (row x) 0 (length (t ++ d)) block' used'
on_more x used used' block block' t d first second =
    subst (λ (n : ℕ). IsOn (row x) 0 n block' used') (sym (length-append t d)) (on_on (row x) block block' 0 used used' (length t) (length d) first second)

pub on_none : (x y used : ℕ) → y ≡ x → used ≡ 0 → IsOn (row x) 0 0 (row y) used
on_none x y used e none = (none, λ m. ap (λ (n : ℕ). row n m) e ∙ ap (row x) (let z : m ≡ m + 0 = omega arith in z))

pub nothing : (sealed : List ℕ → List ℕ) (first : List ℕ) → [] ≡ ctr sealed first []
unfolding with_stream
nothing sealed first = refl
