-- The last block of a message, and the MAC.
use Rattle.std.proofs.Common.{◌≡◌, ℕ, suc, ◌-◌, ◌*◌, ◌/◌, ◌<◌, sym, ap, ap₂, ◌∙◌, arith, List, ◌∷◌, ◌++◌, length, take, drop, replicate, set, length-drop}
use Rattle.std.specs.Prelude.{◌==◌}
use Rattle.std.proofs.Math.Seq.{set-append_seam}
use Rattle.std.proofs.lemmas.Bool.{cond-true, cond-false, eq-eqb, ne_eqb}
use Rattle.std.proofs.lemmas.List.{take_all, drop_all, append-nil, drop-replicate}
use Rattle.std_defs.specs.Blocks.{xor_blocks, block_bytes}
use Rattle.std_defs.specs.Cmac.{zero_block, chained, cmac_k1, cmac_k2, cmac_last, cmac}

pub whole_last : (f : List ℕ → List ℕ) (bytes copied key block : List ℕ) → length bytes ≡ 16 → copied ≡ bytes → key ≡ block_bytes (cmac_k1 f)
    → block ≡ xor_blocks (copied ++ drop (length bytes) zero_block) key → block ≡ cmac_last f bytes
unfolding cmac_last
whole_last f bytes copied key block whole is_copied is_key is =
    is ∙ ap₂ xor_blocks (ap₂ (λ (x z : List ℕ). x ++ z) is_copied (drop_all (length bytes) zero_block (omega arith)) ∙ append-nil bytes) is_key
    ∙ sym (cond-true (length bytes == 16) (xor_blocks bytes (block_bytes (cmac_k1 f))) (xor_blocks (bytes ++ 0x80 ∷ replicate (15 - length bytes) 0) (block_bytes (cmac_k2 f))) (eq-eqb (length bytes) 16 whole))

pub partial_last : (f : List ℕ → List ℕ) (bytes copied key block : List ℕ) → length bytes < 16 → copied ≡ bytes → key ≡ block_bytes (cmac_k2 f)
    → block ≡ xor_blocks (set (copied ++ drop (length bytes) zero_block) (length bytes) 0x80) key → block ≡ cmac_last f bytes
unfolding cmac_last
partial_last f bytes copied key block few is_copied is_key is =
    let n : ℕ = length bytes in
    let more : 16 - n ≡ suc (15 - n) = omega arith in
    let zeros : drop n zero_block ≡ 0 ∷ replicate (15 - n) 0 = drop-replicate n 16 0 ∙ ap (λ (k : ℕ). replicate k 0) more in
    let marked : set (copied ++ drop n zero_block) n 0x80 ≡ bytes ++ 0x80 ∷ replicate (15 - n) 0 =
    ap₂ (λ (x z : List ℕ). set (x ++ z) n 0x80) is_copied zeros ∙ set-append_seam bytes 0 (replicate (15 - n) 0) 0x80 in
    is ∙ ap₂ xor_blocks marked is_key
    ∙ sym (cond-false (n == 16) (xor_blocks bytes (block_bytes (cmac_k1 f))) (xor_blocks (bytes ++ 0x80 ∷ replicate (15 - n) 0) (block_bytes (cmac_k2 f))) (ne_eqb n 16 (λ e. omega arith)))

pub mac_is : (f : List ℕ → List ℕ) (text chain last new : List ℕ) (s w : ℕ) → s ≡ length text - 1 → chain ≡ chained f zero_block text (s / 16)
    → w ≡ length text - 16 * (s / 16) → last ≡ cmac_last f (take w (drop (16 * (s / 16)) text)) → new ≡ f (xor_blocks chain last) → new ≡ cmac f text
unfolding cmac
mac_is f text chain last new s w before is_chain wide is_last is_new =
    is_new
    ∙ ap₂ (λ (c b : List ℕ). f (xor_blocks c b)) is_chain
    (is_last ∙ ap (cmac_last f) (take_all w (drop (16 * (s / 16)) text) (omega (arith, length-drop (16 * (s / 16)) text))))
    ∙ ap (λ (k : ℕ). f (xor_blocks (chained f zero_block text (k / 16)) (cmac_last f (drop (16 * (k / 16)) text)))) before
