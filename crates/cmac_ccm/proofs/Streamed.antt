-- how a message grows
use Rattle.std.proofs.Common.{◌≡◌, ◌⊎◌, inl, inr, ℕ, ◌+◌, ◌-◌, ◌*◌, ◌/◌, ◌%◌, ◌≤◌, refl, sym, ap, ap₂, ◌∙◌, arith, ⊎_elim, List, [], ◌++◌, length, take, drop, append_assoc, length-append, length-drop, take-append-drop, take_all}
use Rattle.std.proofs.lemmas.Bool.{cases_lt}
use Rattle.std.proofs.lemmas.List.{drop_at, length-take-le}
use Rattle.std_defs.specs.Blocks.{xor_blocks}
use Rattle.std_defs.specs.Gcm.{BlockFunction}
use Rattle.std_defs.specs.Cmac.{zero_block, chained, cmac, cmac_last}
use Rattle.cmac_ccm.proofs.Chains.{chained-front, chained-append, chained-one}
use Rattle.cmac_ccm.specs.declared.stream.Message.{Message}
use Rattle.cmac_ccm.specs.Streams.{Takes}

pub takes_none : (f : BlockFunction) (s : Message) → length s.rest ≡ 16 → s.chain ≡ zero_block → s.used ≡ 0 → Takes f [] s
unfolding chained
takes_none f s long chain none = record { before = []; blocks = refl; cut = ap (λ (k : ℕ). take k s.rest) (sym none); chain = chain; last = inl refl; within = omega arith; long = long }

pub takes_filled : (f : BlockFunction) (s n : Message) (m d : List ℕ) → n.used ≡ s.used + length d → n.used ≤ 16 → length n.rest ≡ 16
    → take (s.used + length d) n.rest ≡ take s.used s.rest ++ d → n.chain ≡ s.chain → Takes f m s → Takes f (m ++ d) n
takes_filled f s n m d is within sixteen placed same x =
    record {
      before = x.before;
      blocks = x.blocks;
      cut = ap (λ (t : List ℕ). t ++ d) x.cut ∙ append_assoc x.before (take s.used s.rest) d
          ∙ ap (λ (t : List ℕ). x.before ++ t) (sym placed ∙ ap (λ (k : ℕ). take k n.rest) (sym is));
      chain = same ∙ x.chain;
      last = ⊎_elim (λ (none : length x.before ≡ 0). inl none) (λ (some : 1 ≤ s.used). inr (omega (arith, is))) x.last;
      within = within;
      long = sixteen;
    }

module _ (f : BlockFunction) (s n : Message) (m d chain : List ℕ) (b : ℕ) (x : Takes f m s) (full : s.used ≡ 16) (some : 1 ≤ length d) (at : b ≡ (length d - 1) / 16) where
  size : length s.rest ≡ 16
  size = x.long

  filled : take s.used s.rest ≡ s.rest
  filled = take_all s.used s.rest (omega (arith, full, size))

  first_long : length (x.before ++ s.rest) ≡ 16 * (length x.before / 16 + 1)
  first_long = omega (arith, length-append x.before s.rest, x.blocks, size)

  front_long : length (take (16 * b) d) ≡ 16 * b
  front_long = length-take-le (16 * b) d (omega (arith, at))

  whole_long : length ((x.before ++ s.rest) ++ take (16 * b) d) ≡ 16 * (length x.before / 16 + 1 + b)
  whole_long = omega (arith, length-append (x.before ++ s.rest) (take (16 * b) d), first_long, front_long)

  pub takes_passed : n.used ≡ length d - 16 * b → chain ≡ f (xor_blocks s.chain s.rest) → n.chain ≡ chained f chain d b → length n.rest ≡ 16
      → take (0 + length (drop (16 * b) d)) n.rest ≡ [] ++ drop (16 * b) d → Takes f (m ++ d) n
  takes_passed is one chains sixteen placed =
      let front : List ℕ = take (16 * b) d in
      let tail : List ℕ = drop (16 * b) d in
      let whole : List ℕ = (x.before ++ s.rest) ++ front in
      let used : 0 + length tail ≡ n.used = omega (arith, is, length-drop (16 * b) d) in
      let count : length whole / 16 ≡ length x.before / 16 + 1 + b = omega (arith, whole_long) in
      record {
        before = whole;
        blocks = omega (arith, whole_long);
        cut = ap (λ (t : List ℕ). t ++ d) (x.cut ∙ ap (λ (t : List ℕ). x.before ++ t) filled)
            ∙ ap (λ (t : List ℕ). (x.before ++ s.rest) ++ t) (sym (take-append-drop (16 * b) d))
            ∙ sym (append_assoc (x.before ++ s.rest) front tail)
            ∙ ap (λ (t : List ℕ). whole ++ t) (sym placed ∙ ap (λ (k : ℕ). take k n.rest) used);
        chain = chains
            ∙ ap (λ (t : List ℕ). chained f chain t b) (sym (take-append-drop (16 * b) d))
            ∙ chained-front f chain front tail b (omega (arith, front_long))
            ∙ ap (λ (c : List ℕ). chained f c front b)
            (one ∙ ap (λ (c : List ℕ). f (xor_blocks c s.rest)) x.chain
            ∙ sym (chained-one f (chained f zero_block x.before (length x.before / 16)) s.rest size)
            ∙ sym (chained-append f zero_block x.before s.rest (length x.before / 16) 1 (omega (arith, x.blocks))))
            ∙ sym (chained-append f zero_block (x.before ++ s.rest) front (length x.before / 16 + 1) b first_long)
            ∙ ap (chained f zero_block whole) (sym count);
        last = inr (omega (arith, is, some, at));
        within = omega (arith, is, some, at);
        long = sixteen;
      }

pub takes_mac : (f : BlockFunction) (s : Message) (m last r : List ℕ) → last ≡ cmac_last f (take s.used s.rest) → r ≡ f (xor_blocks s.chain last) → Takes f m s → r ≡ cmac f m
unfolding cmac
takes_mac f s m last r is_last is x =
    let tail : List ℕ = take s.used s.rest in
    let n : ℕ = length x.before / 16 in
    let long : length x.before ≡ 16 * n = omega (arith, x.blocks) in
    let cut_long : length m ≡ length x.before + length tail = ap length x.cut ∙ length-append x.before tail in
    let tail_long : length tail ≡ s.used = length-take-le s.used s.rest (omega (arith, x.long, x.within)) in
    let within : s.used ≤ 16 = x.within in
    let at : n ≡ (length m - 1) / 16 = ⊎_elim
    (λ (none : length x.before ≡ 0). let z : n ≡ (length m - 1) / 16 = omega (arith, none, cut_long, tail_long, within) in z)
    (λ (some : 1 ≤ s.used). let z : n ≡ (length m - 1) / 16 = omega (arith, some, long, cut_long, tail_long, within) in z) x.last in
    is
    ∙ ap₂ (λ (c b : List ℕ). f (xor_blocks c b)) (x.chain ∙ sym (chained-front f zero_block x.before tail n (omega (arith, long)))) (is_last ∙ ap (cmac_last f) (sym (drop_at x.before tail (16 * n) long)))
    ∙ ap₂ (λ (t : List ℕ) (k : ℕ). f (xor_blocks (chained f zero_block t k) (cmac_last f (drop (16 * k) t)))) (sym x.cut) at
