-- Differences of bytes, gathered.
use Rattle.std.proofs.Common.{◌≡◌, ℕ, ◌+◌, ◌<◌, ◌≤◌, Bool, true, false, eqb, bit_or, bit_xor, refl, sym, ap, ap₂, ◌∙◌, arith, List, get_or, take, length, bytes_eq}
use Rattle.std.specs.Int.Bits.{xor_self, xor_zero_r, xor_comm, xor_assoc}
use Rattle.std.proofs.lemmas.Nat.{le_or_l, le_or_r}
use Rattle.std.proofs.lemmas.List.{take_more_same, take-take, get_or-take, take_all}
use Rattle.std.proofs.lemmas.Slice.Eq.{bytes_eq-Decides}
use Rattle.std.proofs.lemmas.Bool.{eq-eqb, ne_eqb, false≢true}
use Rattle.std.specs.Bool.{Decides}

xor_none : (a b : ℕ) → bit_xor a b ≡ 0 → a ≡ b
xor_none a b e =
    sym (xor_zero_r a) ∙ ap (bit_xor a) (sym (xor_self b)) ∙ sym (xor_assoc a b b) ∙ ap (λ (t : ℕ). bit_xor t b) e ∙ xor_comm 0 b ∙ xor_zero_r b

pub same_more : (d i : ℕ) (full tag : List ℕ) → i < length tag → length tag ≤ length full → (d ≡ 0 → take i full ≡ take i tag)
    → bit_or d (bit_xor (get_or full i 0) (get_or tag i 0)) ≡ 0 → take (i + 1) full ≡ take (i + 1) tag
same_more d i full tag l m same e =
    let x : ℕ = bit_xor (get_or full i 0) (get_or tag i 0) in
    let left : d ≡ 0 = omega (arith, le_or_l d x) in
    let right : x ≡ 0 = omega (arith, le_or_r d x) in
    take_more_same full tag i 0 (omega arith) l (same left) (xor_none (get_or full i 0) (get_or tag i 0) right)

pub back_more : (d i : ℕ) (full tag : List ℕ) → (take i full ≡ take i tag → d ≡ 0) → take (i + 1) full ≡ take (i + 1) tag
    → bit_or d (bit_xor (get_or full i 0) (get_or tag i 0)) ≡ 0
back_more d i full tag back e =
    let front : take i full ≡ take i tag = sym (take-take i (i + 1) full (omega arith)) ∙ ap (take i) e ∙ take-take i (i + 1) tag (omega arith) in
    let last : get_or full i 0 ≡ get_or tag i 0 = sym (get_or-take (i + 1) full i 0 (omega arith)) ∙ ap (λ xs. get_or xs i 0) e ∙ get_or-take (i + 1) tag i 0 (omega arith) in
    ap₂ bit_or (back front) (ap (λ (t : ℕ). bit_xor t (get_or tag i 0)) last ∙ xor_self (get_or tag i 0))

decided : (b : Bool) {P : Type 0} (d : ℕ) → (b ≡ true → P) → (P → b ≡ true) → (d ≡ 0 → P) → (P → d ≡ 0) → eqb d 0 ≡ b
decided true d f g same back = eq-eqb d 0 (back (f refl))
decided false d f g same back = ne_eqb d 0 (λ e. false≢true (g (same e)))

pub agreed : (d i : ℕ) (full tag : List ℕ) → i ≡ length tag → (d ≡ 0 → take i full ≡ take i tag) → (take i full ≡ take i tag → d ≡ 0)
    → eqb d 0 ≡ bytes_eq (take (length tag) full) tag
agreed d i full tag e same back =
    let known : Decides (bytes_eq (take (length tag) full) tag) (take (length tag) full ≡ tag) = bytes_eq-Decides (take (length tag) full) tag in
    let all : take i tag ≡ tag = take_all i tag (omega arith) in
    let front : take i full ≡ take (length tag) full = ap (λ (t : ℕ). take t full) e in
    decided (bytes_eq (take (length tag) full) tag) d known.0 known.1 (λ z. sym front ∙ same z ∙ all) (λ p. back (front ∙ p ∙ sym all))
