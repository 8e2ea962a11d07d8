-- Groups of four blocks of a text.
use Rattle.std.specs.Prelude.{◌≡◌, ℕ, ◌+◌, ◌*◌, ◌%◌, ◌^◌, ◌≤◌, List, length, take, drop}
use Rattle.std.proofs.Common.{arith, ap, refl, ◌∙◌}
use Rattle.std.proofs.lemmas.Nat.{mul-mod_first}
use Rattle.std_defs.specs.Poly1305.{prime, accumulated, message_block}
use Rattle.std_defs.specs.Blocks.{text_block}
use Rattle.poly1305.specs.Limbs.{fronted}
use Rattle.poly1305.proofs.Words.{full_block}
use Rattle.poly1305.proofs.Horner.{Same, same_product, over_lanes, next_group, last_group, four_more, four_accumulated}

pub block_there : (bytes : List ℕ) (g j n : ℕ) → n ≡ 4 * g + j → 16 * n + 16 ≤ length bytes
    → fronted (2 ^ 24) (take 16 (drop (64 * g + 16 * j) bytes)) ≡ message_block bytes n
unfolding message_block text_block
block_there bytes g j n e within =
    let place : 64 * g + 16 * j ≡ 16 * n = omega arith in
    ap (λ k. fronted (2 ^ 24) (take 16 (drop k bytes))) place ∙ full_block bytes (16 * n) within

-- a lane's product, by the block and the power that stand there
pub lane_step : (w v m k q b : ℕ) → w % prime ≡ (v + m) * k % prime → m ≡ b → Same k q → Same w ((v + b) * q)
lane_step w v m k q b e is power =
    e ∙ same_product (v + m) (v + b) k q (ap (λ n. (v + n) % prime) is) power

module _ (r x : ℕ) (bytes : List ℕ) (g v0 v1 v2 v3 w0 w1 w2 w3 : ℕ)
    (held : Same (over_lanes r v0 v1 v2 v3) (accumulated r (message_block bytes) x (4 * g) * (r * r * r))) where
  a : ℕ
  a = accumulated r (message_block bytes) x (4 * g)

  pub next_held : Same w0 ((v0 + message_block bytes (4 * g)) * (r * r * r * r)) → Same w1 ((v1 + message_block bytes (4 * g + 1)) * (r * r * r * r))
      → Same w2 ((v2 + message_block bytes (4 * g + 2)) * (r * r * r * r)) → Same w3 ((v3 + message_block bytes (4 * g + 3)) * (r * r * r * r))
      → Same (over_lanes r w0 w1 w2 w3) (accumulated r (message_block bytes) x (4 * (g + 1)) * (r * r * r))
  unfolding a
  next_held e0 e1 e2 e3 =
      let n : 4 * (g + 1) ≡ 4 * g + 4 = omega arith in
      let more : ℕ = four_more r a (message_block bytes (4 * g)) (message_block bytes (4 * g + 1)) (message_block bytes (4 * g + 2)) (message_block bytes (4 * g + 3)) in
      let after : accumulated r (message_block bytes) x (4 * (g + 1)) ≡ more % prime = ap (accumulated r (message_block bytes) x) n ∙ four_accumulated r (message_block bytes) x (4 * g) in
      next_group r a (message_block bytes (4 * g)) (message_block bytes (4 * g + 1)) (message_block bytes (4 * g + 2)) (message_block bytes (4 * g + 3)) v0 v1 v2 v3 w0 w1 w2 w3 e0 e1 e2 e3 held
      ∙ rw (after, mul-mod_first more (r * r * r) prime) refl

  pub last_held : Same w0 ((v0 + message_block bytes (4 * g)) * (r * r * r * r)) → Same w1 ((v1 + message_block bytes (4 * g + 1)) * (r * r * r))
      → Same w2 ((v2 + message_block bytes (4 * g + 2)) * (r * r)) → Same w3 ((v3 + message_block bytes (4 * g + 3)) * r)
      → Same (w0 + w1 + w2 + w3) (accumulated r (message_block bytes) x (4 * g + 4))
  unfolding a
  last_held e0 e1 e2 e3 =
      let more : ℕ = four_more r a (message_block bytes (4 * g)) (message_block bytes (4 * g + 1)) (message_block bytes (4 * g + 2)) (message_block bytes (4 * g + 3)) in
      let after : accumulated r (message_block bytes) x (4 * g + 4) ≡ more % prime = four_accumulated r (message_block bytes) x (4 * g) in
      let made : Same (w0 + w1 + w2 + w3) more =
      last_group r a (message_block bytes (4 * g)) (message_block bytes (4 * g + 1)) (message_block bytes (4 * g + 2)) (message_block bytes (4 * g + 3)) v0 v1 v2 v3 w0 w1 w2 w3 e0 e1 e2 e3 held in
      omega arith
