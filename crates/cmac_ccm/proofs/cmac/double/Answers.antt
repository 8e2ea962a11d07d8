use Rattle.std.proofs.Common.{◌≡◌, ℕ, ◌*◌, ◌/◌, ◌%◌, ◌^◌, ◌<◌, ◌≤◌, sym, ap₂, ◌∙◌, arith, bit_xor, ⊎_elim}
use Rattle.std.specs.Prelude.{nat_lt}
use Rattle.std.specs.Int.Bits.{xor_zero_r}
use Rattle.std.proofs.lemmas.Bool.{cases_lt, cond-true, cond-false, lt-ltb, le-ltb}
use Rattle.std_defs.specs.Cmac.{doubled}
use Rattle.cmac_ccm.proofs.cmac.double.Goals as goal

moved : (block : ℕ) → block < 2 ^ 128 → bit_xor (block * 2 % 2 ^ 128) (135 * (block / 2 ^ 127)) ≡ doubled block
unfolding doubled
moved block fits =
    ⊎_elim
    (λ (h : block < 2 ^ 127).
    let shifted : block * 2 % 2 ^ 128 ≡ 2 * block = omega arith in
    let nothing : 135 * (block / 2 ^ 127) ≡ 0 = omega arith in
    ap₂ bit_xor shifted nothing ∙ xor_zero_r (2 * block) ∙ sym (cond-true (nat_lt block (2 ^ 127)) (2 * block) (bit_xor (2 * block % 2 ^ 128) 135) (lt-ltb block (2 ^ 127) h)))
    (λ (h : 2 ^ 127 ≤ block).
    let shifted : block * 2 % 2 ^ 128 ≡ 2 * block % 2 ^ 128 = omega arith in
    let all : 135 * (block / 2 ^ 127) ≡ 135 = omega arith in
    ap₂ bit_xor shifted all ∙ sym (cond-false (nat_lt block (2 ^ 127)) (2 * block) (bit_xor (2 * block % 2 ^ 128) 135) (le-ltb block (2 ^ 127) h)))
    (cases_lt block (2 ^ 127))

pub returns : goal.returns
returns c = moved c.args.block (omega arith)
