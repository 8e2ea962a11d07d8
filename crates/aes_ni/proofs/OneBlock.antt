-- rounds of one block
use Rattle.std.specs.Prelude.{◌≡◌, ℕ, suc, ◌+◌, ◌-◌, ◌<◌, ◌≤◌, List, length, bit_xor, refl}
use Rattle.std.proofs.Common.{◌∙◌, ap, subst}
use lib.Lanes.{zip2}
use Rattle.std_defs.specs.Aes.{add_round_key, sub_bytes, shift_rows, mix_columns, inverse_sub_bytes, inverse_shift_rows, inverse_mix_columns, after_rounds, before_rounds, key_schedule, seal, unseal}
use Rattle.aes_block.specs.KeyBlock.{key_block}
use Rattle.aes_block.specs.Schedule.{IsSchedule, key_of}
use Rattle.aes_block.proofs.Rounds.{sealing_more, sealed_all, unsealing_none, unsealing_more}
use Rattle.aes_block.proofs.KeyBlocks.{plain_key, first_key_back}
use Rattle.aes_block.proofs.EquivalentInverse.{sub_shift, key_behind}

-- ---- what the instructions add is the round key

pub key_added : (ws : List (List ℕ)) (r : ℕ) (s key z : List ℕ) → length s ≡ 16 → key ≡ key_block ws r → z ≡ zip2 bit_xor s key → z ≡ add_round_key ws r s
key_added ws r s key z long k e = e ∙ ap (zip2 bit_xor s) k ∙ plain_key ws r s long

pub round_added : (ws : List (List ℕ)) (r : ℕ) (s key z : List ℕ) → key ≡ key_block ws r → z ≡ zip2 bit_xor (mix_columns (shift_rows (sub_bytes s))) key
    → z ≡ add_round_key ws r (mix_columns (shift_rows (sub_bytes s)))
unfolding mix_columns
round_added ws r s key z k e = e ∙ ap (zip2 bit_xor (mix_columns (shift_rows (sub_bytes s)))) k ∙ plain_key ws r (mix_columns (shift_rows (sub_bytes s))) refl

pub last_added : (ws : List (List ℕ)) (r : ℕ) (s key z : List ℕ) → key ≡ key_block ws r → z ≡ zip2 bit_xor (shift_rows (sub_bytes s)) key
    → z ≡ add_round_key ws r (shift_rows (sub_bytes s))
unfolding shift_rows
last_added ws r s key z k e = e ∙ ap (zip2 bit_xor (shift_rows (sub_bytes s))) k ∙ plain_key ws r (shift_rows (sub_bytes s)) refl

pub back_added : (ws : List (List ℕ)) (r : ℕ) (s key z : List ℕ) → key ≡ inverse_mix_columns (key_block ws r)
    → z ≡ zip2 bit_xor (inverse_mix_columns (inverse_sub_bytes (inverse_shift_rows s))) key
    → z ≡ inverse_mix_columns (add_round_key ws r (inverse_sub_bytes (inverse_shift_rows s)))
back_added ws r s key z k e = e ∙ ap (zip2 bit_xor (inverse_mix_columns (sub_shift s))) k ∙ key_behind ws r s

pub back_last_added : (ws : List (List ℕ)) (r : ℕ) (s key z : List ℕ) → key ≡ key_block ws r → z ≡ zip2 bit_xor (inverse_sub_bytes (inverse_shift_rows s)) key
    → z ≡ add_round_key ws r (inverse_sub_bytes (inverse_shift_rows s))
unfolding inverse_shift_rows
back_last_added ws r s key z k e = e ∙ ap (zip2 bit_xor (sub_shift s)) k ∙ plain_key ws r (sub_shift s) refl

-- ---- sealing

pub sealed_more : (r : ℕ) (ws : List (List ℕ)) (i : ℕ) (b s z : List ℕ) → IsSchedule r ws → 1 ≤ i → i < r
    → s ≡ after_rounds (key_schedule (key_of r ws)) b (i - 1) → z ≡ add_round_key ws i (mix_columns (shift_rows (sub_bytes s)))
    → z ≡ after_rounds (key_schedule (key_of r ws)) b (i + 1 - 1)
sealed_more r ws i b s z h from below before e = e ∙ sealing_more r ws b s i h from below before

pub sealed_end : (r : ℕ) (ws : List (List ℕ)) (i : ℕ) (b s z : List ℕ) → IsSchedule r ws → i ≡ r
    → s ≡ after_rounds (key_schedule (key_of r ws)) b (i - 1) → z ≡ add_round_key ws r (shift_rows (sub_bytes s)) → z ≡ seal (key_of r ws) b
sealed_end r ws i b s z h at before e =
    e ∙ sealed_all r ws b s h (subst (λ (n : ℕ). s ≡ after_rounds (key_schedule (key_of r ws)) b (n - 1)) at before)

-- ---- unsealing

-- what n more rounds come to
abbrev pub unrounded_one : ℕ → List (List ℕ) → ℕ → List ℕ → List ℕ
unrounded_one r ws n s = before_rounds (key_schedule (key_of r ws)) (inverse_sub_bytes (inverse_shift_rows s)) n

pub unsealed_begin : (r : ℕ) (ws : List (List ℕ)) (b z : List ℕ) → IsSchedule r ws → z ≡ add_round_key ws r b
    → unrounded_one r ws (r - 1) z ≡ unseal (key_of r ws) b
unsealed_begin r ws b z h e = ap (unrounded_one r ws (r - 1)) e ∙ unsealing_none r ws b h

pub unsealed_more : (r : ℕ) (ws : List (List ℕ)) (i n : ℕ) (b s z : List ℕ) → IsSchedule r ws → i ≡ suc n → i < r
    → unrounded_one r ws i s ≡ unseal (key_of r ws) b → z ≡ inverse_mix_columns (add_round_key ws i (inverse_sub_bytes (inverse_shift_rows s)))
    → unrounded_one r ws n z ≡ unseal (key_of r ws) b
unsealed_more r ws i n b s z h next below before e =
    ap (unrounded_one r ws n) e ∙ unsealing_more r ws (sub_shift s) i n h next below ∙ before

pub unsealed_end : (r : ℕ) (ws : List (List ℕ)) (n : ℕ) (b s z : List ℕ) → IsSchedule r ws → n ≡ 0
    → unrounded_one r ws n s ≡ unseal (key_of r ws) b → z ≡ add_round_key ws 0 (inverse_sub_bytes (inverse_shift_rows s)) → z ≡ unseal (key_of r ws) b
unsealed_end r ws n b s z h at before e =
    e ∙ first_key_back r ws (sub_shift s) h
    ∙ subst (λ (m : ℕ). unrounded_one r ws m s ≡ unseal (key_of r ws) b) at before
