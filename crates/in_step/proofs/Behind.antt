-- A block that is filled piece by piece.
use Rattle.std.proofs.Common.{◌≡◌, ℕ, ◌+◌, ◌-◌, ◌*◌, ◌/◌, ◌%◌, ◌^◌, ◌<◌, ◌≤◌, min, List, [], ◌∷◌, ◌++◌, length, take, drop, replicate, refl, sym, ap, ap₂, ◌∙◌, arith, length-append, inl, inr, get_or}
use Rattle.std.proofs.lemmas.Bool.{cases_lt}
use Rattle.std.proofs.lemmas.List.{append_assoc, append-nil, drop-append-le, drop_all, take_all, take-append-le, length-drop, length-take, drop-take, get_or-map, length-replicate}
use Rattle.std.proofs.Math.Seq.{take-append-add, drop-append-add, drop-append_seam}
use Rattle.std.proofs.lemmas.Slice.{take-put_mid, take-put_mid_below}
use Rattle.std.proofs.lemmas.Grind.{common_steps}
use Rattle.std.specs.Borrow.{Bor}
use borrow.Rule.Slice.PartMut.{put_mid}
use Rattle.std.specs.Int.{w64, to_be_bytes}
use Rattle.sha2.specs.Sha256.{digest_bytes, hash_after, initial_hash_256, padded_message, padding, sha256}
use Rattle.sha_lanes.proofs.HashedBlocks.{before, of_rest}
use Rattle.sha_lanes.specs.Lanes.{block_at}
use Rattle.in_step.specs.Pieces.{behind, piece}

-- the first bytes of the block are those of x from byte at on, as many as there are
pub record Filled (block x : List ℕ) (at used : ℕ) : Type 0 where
  pub bytes : take used block ≡ take 64 (drop at x)
  pub count : used ≡ min 64 (length x - at)

pub filled_none : (block : List ℕ) (at : ℕ) → Filled block [] at 0
filled_none block at = record { bytes = sym (ap (take 64) (drop_all at [] (omega arith))); count = omega arith }

-- the part that begins within x
within : (x y : List ℕ) (at : ℕ) → at ≤ length x → take 64 (drop at (x ++ y)) ≡ take 64 (drop at x) ++ take (64 - min 64 (length x - at)) (drop (at - length x) y)
within x y at le =
    let d : List ℕ = drop at x in
    let long : length d ≡ length x - at = length-drop at x in
    let front : at - length x ≡ 0 = omega arith in
    rw (drop-append-le at x y le, front)
    elim (cases_lt (length d) 64) [
      | inl short ↦
          let room : 64 ≡ length d + (64 - min 64 (length x - at)) = omega arith in
          ap (λ (n : ℕ). take n (d ++ y)) room ∙ take-append-add d y (64 - min 64 (length x - at)) ∙ ap (λ (z : List ℕ). z ++ take (64 - min 64 (length x - at)) y) (sym (take_all 64 d (omega arith)))
      | inr far ↦
          let none : 64 - min 64 (length x - at) ≡ 0 = omega arith in
          take-append-le 64 d y (omega arith) ∙ sym (append-nil (take 64 d)) ∙ ap (λ (n : ℕ). take 64 d ++ take n y) (sym none)
    ]

-- the part that begins behind x
past : (x y : List ℕ) (at : ℕ) → length x < at → take 64 (drop at (x ++ y)) ≡ take 64 (drop at x) ++ take (64 - min 64 (length x - at)) (drop (at - length x) y)
past x y at lt =
    let split : at ≡ length x + (at - length x) = omega arith in
    let all : 64 - min 64 (length x - at) ≡ 64 = omega arith in
    ap (λ (n : ℕ). take 64 (drop n (x ++ y))) split ∙ ap (take 64) (drop-append-add x y (at - length x))
    ∙ rw (drop_all at x (omega arith), all) refl

pub parted : (x y : List ℕ) (at : ℕ) → take 64 (drop at (x ++ y)) ≡ take 64 (drop at x) ++ take (64 - min 64 (length x - at)) (drop (at - length x) y)
parted x y at = elim (cases_lt (length x) at) [ inl lt ↦ past x y at lt | inr le ↦ within x y at le ]

-- a piece more
pub filled_more : (old new x y : List ℕ) (at used next skip : ℕ) → Filled old x at used → skip ≡ at - length x → next ≡ used + min (64 - used) (length y - skip)
    → take next new ≡ take used old ++ take (64 - used) (drop skip y) → Filled new (x ++ y) at next
filled_more old new x y at used next skip held place count bytes = record {
  bytes = bytes ∙ ap₂ (λ (a b : List ℕ). a ++ b) held.bytes (ap₂ (λ (n k : ℕ). take (64 - n) (drop k y)) held.count place) ∙ sym (parted x y at);
  count = omega (arith, held.count, length-append x y);
}

-- a block of the second piece alone
pub inner_block : (f s p : List ℕ) (at start : ℕ) → length f ≤ at → start ≡ at - length f → at + 64 ≤ length f + length s
    → take 64 (drop start s) ≡ take 64 (drop at ((f ++ s) ++ p))
inner_block f s p at start from place to =
    let split : at ≡ length f + start = omega arith in
    let behind_first : drop at ((f ++ s) ++ p) ≡ drop start s ++ p =
    drop-append-le at (f ++ s) p (omega (arith, length-append f s)) ∙ ap (λ (z : List ℕ). z ++ p) (ap (λ (n : ℕ). drop n (f ++ s)) split ∙ drop-append-add f s start) in
    sym (ap (take 64) behind_first ∙ take-append-le 64 (drop start s) p (omega (arith, length-drop start s)))

-- ---- the pieces of eight messages, and their blocks

pub piece_at : (pieces : List (Bor (List ℕ))) (n : ℕ) (d : Bor (List ℕ)) → n < length pieces → (get_or pieces n d).now ≡ piece pieces n
piece_at pieces n d lt = sym (get_or-map (λ p. p.now) pieces n d [] lt)

-- a lane's block that was written, and those before it
pub put_at : (a k n : ℕ) (xs ys : List ℕ) → a ≡ n * 64 → length ys ≡ 64 → a ≤ length xs → block_at (put_mid a k xs ys) n ≡ ys
put_at a k n xs ys place long within =
    let front : n * 64 ≡ length (take a xs) = omega (arith, length-take a xs) in
    sym (drop-take (n * 64) 64 (put_mid a k xs ys)) ∙ ap (drop (n * 64)) (take-put_mid a k xs ys (n * 64 + 64) (omega arith) within)
    ∙ ap (λ (m : ℕ). drop m (take a xs ++ ys)) front ∙ drop-append_seam (take a xs) ys

pub kept_below : (a k n : ℕ) (xs ys : List ℕ) → n * 64 + 64 ≤ a → a ≤ length xs → block_at (put_mid a k xs ys) n ≡ block_at xs n
kept_below a k n xs ys below within =
    sym (drop-take (n * 64) 64 (put_mid a k xs ys)) ∙ ap (drop (n * 64)) (take-put_mid_below a k xs ys (n * 64 + 64) below within) ∙ drop-take (n * 64) 64 xs

pub put_length : (a k : ℕ) (xs ys : List ℕ) → a + k ≤ length xs → length ys ≡ k → length (put_mid a k xs ys) ≡ length xs
put_length a k xs ys within long = grind (arith, common_steps)

-- ---- the whole message

pub to-bytes-long : (n : ℕ) → length (to_be_bytes w64 n) ≡ 8
to-bytes-long n = refl

pub padding-long : (n : ℕ) → length (padding n) ≡ (119 - n % 64) % 64 + 9
padding-long n =
    let z : ℕ = (119 - n % 64) % 64 in
    omega (arith, length-append (0x80 ∷ replicate z 0) (to_be_bytes w64 (n * 8 % 2 ^ 64)), length-replicate {A = ℕ} z 0, to-bytes-long (n * 8 % 2 ^ 64))

-- the padding goes by the length modulo 2^64
padding_same : (n k : ℕ) → n % 64 ≡ k % 64 → n * 8 % 2 ^ 64 ≡ k * 8 % 2 ^ 64 → padding n ≡ padding k
padding_same n k e bits = ap₂ (λ (r b : ℕ). (0x80 ∷ replicate ((119 - r) % 64) 0) ++ to_be_bytes w64 b) e bits

pub finished : (m f s : List ℕ) (taken : ℕ) → length m % 64 ≡ 0 → taken ≡ length m % 2 ^ 64
    → digest_bytes (hash_after (hash_after initial_hash_256 m (length m / 64)) (behind taken f s) ((length f + length s + 72) / 64)) 8 ≡ sha256 (m ++ (f ++ s))
unfolding sha256
finished m f s taken edge count =
    let q : ℕ = length m / 64 in
    let k : ℕ = (length f + length s + 72) / 64 in
    let t : List ℕ = f ++ s in
    let b : List ℕ = behind taken f s in
    let n : ℕ = length (m ++ t) in
    let long : n ≡ length m + length t = length-append m t in
    let both : length t ≡ length f + length s = length-append f s in
    let same : padding n ≡ padding (taken + length t) = padding_same n (taken + length t) (omega (arith, long, edge, count)) (omega (arith, long, count)) in
    let whole : padded_message (m ++ t) ≡ m ++ b = append_assoc m t (padding n) ∙ ap (λ (p : List ℕ). m ++ (t ++ p)) same in
    let place : q * 64 ≡ length m = omega (arith, edge) in
    let rest : drop (q * 64) (m ++ b) ≡ b = ap (λ (a : ℕ). drop a (m ++ b)) place ∙ drop-append_seam m b in
    let blocks : length (padded_message (m ++ t)) / 64 ≡ q + k = omega (arith, long, both, edge, length-append (m ++ t) (padding n), padding-long n) in
    ap (λ (h : List ℕ). digest_bytes h 8)
    (ap₂ (λ (h x : List ℕ). hash_after h x k) (sym (before initial_hash_256 m b q (omega arith))) (sym rest) ∙ of_rest initial_hash_256 (m ++ b) q k
    ∙ sym (ap₂ (hash_after initial_hash_256) whole blocks))
