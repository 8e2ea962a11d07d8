-- What a walk over a part of a text does.
use Rattle.std.proofs.Common.{◌≡◌, ℕ, ◌+◌, ◌-◌, ◌%◌, ◌<◌, ◌≤◌, min, List, [], ◌++◌, length, map, take, drop, get_or, set, sym, ap, ◌∙◌, refl, arith, subst, append_assoc, length-append, length-take, length-drop, take_at, drop_at}
use Rattle.std.specs.List.{concat}
use Rattle.std.proofs.Math.Seq.{take-add, drop-append-add, drop-append-le, take-append-le}
use Rattle.std.proofs.lemmas.List.{take_all, take-take, drop-drop, drop-take, take_min}
use Rattle.sg_walk.specs.Segments.{written}
use Rattle.sg_walk.specs.Stepped.{Stepped}
use Rattle.sg_walk.proofs.Joined.{concat_at, concat_more, concat_round, same_at, same_count, same_total, same_before, same_rest, same_sizes, length_from, length-written, written_part}

-- the law of a walker
abbrev pub Joins : {W : Type 0} → (W → List ℕ → List ℕ → W → Type 0) → Type 0
Joins {W} makes =
    (u v w : W) (a b made_a made_b : List ℕ) → length a % 16 ≡ 0 → makes u a made_a v → makes v b made_b w → makes u (a ++ b) (made_a ++ made_b) w

-- the parts of a text that is cut at two places
module _ (x y : List ℕ) (at n : ℕ) (same : take (at + n) x ≡ take (at + n) y) where
  pub same_front : take at x ≡ take at y
  same_front = sym (take-take at (at + n) x (omega arith)) ∙ ap (take at) same ∙ take-take at (at + n) y (omega arith)

  pub same_piece : take n (drop at x) ≡ take n (drop at y)
  same_piece = sym (drop-take at n x) ∙ ap (drop at) same ∙ drop-take at n y

two_pieces : (x : List ℕ) (at n m : ℕ) → take (n + m) (drop at x) ≡ take n (drop at x) ++ take m (drop (at + n) x)
two_pieces x at n m = take-add n m (drop at x) ∙ ap (λ (t : List ℕ). take n (drop at x) ++ take m t) (drop-drop n at x)

-- a part and the part behind it
pub stepped_on : {W : Type 0} (makes : W → List ℕ → List ℕ → W → Type 0) (u v w : W) (xs ys zs : List (List ℕ)) (at n m : ℕ) → Joins makes → n % 16 ≡ 0
    → Stepped makes u xs ys v at n → Stepped makes v ys zs w (at + n) m → Stepped makes u xs zs w at (n + m)
stepped_on {W} makes u v w xs ys zs at n m joins whole s t =
    let next : at + n + m ≡ at + (n + m) = omega arith in
    let total : length (concat ys) ≡ length (concat xs) = same_total ys xs s.sizes in
    let long : length (take n (drop at (concat xs))) ≡ n = omega (arith, s.within, length-take n (drop at (concat xs)), length-drop at (concat xs)) in
    let old : take (n + m) (drop at (concat xs)) ≡ take n (drop at (concat xs)) ++ take m (drop (at + n) (concat ys)) =
    two_pieces (concat xs) at n m ∙ ap (λ (d : List ℕ). take n (drop at (concat xs)) ++ take m d) (sym s.back) in
    let new : take (n + m) (drop at (concat zs)) ≡ take n (drop at (concat ys)) ++ take m (drop (at + n) (concat zs)) =
    two_pieces (concat zs) at n m ∙ ap (λ (d : List ℕ). d ++ take m (drop (at + n) (concat zs))) (same_piece (concat zs) (concat ys) at n t.front) in
    record {
      sizes = t.sizes ∙ s.sizes;
      front = same_front (concat zs) (concat ys) at n t.front ∙ s.front;
      back = ap (λ (k : ℕ). drop k (concat zs)) (sym next) ∙ t.back ∙ same_rest (concat ys) (concat xs) (at + n) m s.back ∙ ap (λ (k : ℕ). drop k (concat xs)) next;
      made = subst (λ (d : List ℕ). makes u (take (n + m) (drop at (concat xs))) d w) (sym new)
          (subst (λ (d : List ℕ). makes u d (take n (drop at (concat ys)) ++ take m (drop (at + n) (concat zs))) w) (sym old)
          (joins u v w _ _ _ _ (omega (arith, long, whole)) s.made t.made));
      within = omega (arith, t.within, total);
    }

-- nothing was gone over yet
pub stepped_none : {W : Type 0} (makes : W → List ℕ → List ℕ → W → Type 0) (w : W) (xs : List (List ℕ)) → makes w [] [] w → Stepped makes w xs xs w 0 0
stepped_none makes w xs stays = record { sizes = refl; front = refl; back = refl; made = stays; within = omega arith }

-- all was
pub stepped_all : {W : Type 0} (makes : W → List ℕ → List ℕ → W → Type 0) (u w : W) (xs ys : List (List ℕ)) (n : ℕ) → length (concat xs) ≤ n
    → Stepped makes u xs ys w 0 n → makes u (concat xs) (concat ys) w
stepped_all makes u w xs ys n all s =
    subst (λ (d : List ℕ). makes u d (concat ys) w) (take_all n (concat xs) all)
    (subst (λ (d : List ℕ). makes u (take n (concat xs)) d w) (take_all n (concat ys) (omega (arith, same_total ys xs s.sizes))) s.made)

-- at most m bytes from byte `at` of segment i on
pub piece_at : (parts : List (List ℕ)) (i at m n : ℕ) → n ≡ min m (length (concat (drop i parts)) - at)
    → take n (drop (length (concat (take i parts)) + at) (concat parts)) ≡ take m (drop at (concat (drop i parts)))
piece_at parts i at m n many =
    let rest : List ℕ = drop at (concat (drop i parts)) in
    let long : n ≡ min m (length (drop at (concat (drop i parts)))) = many ∙ ap (min m) (sym (length-drop at (concat (drop i parts)))) in
    ap (λ (t : List ℕ). take n (drop (length (concat (take i parts)) + at) t)) (concat_at parts i)
    ∙ ap (take n) (drop-append-add (concat (take i parts)) (concat (drop i parts)) at)
    ∙ ap (λ (k : ℕ). take k rest) long
    ∙ take_min m rest

pub piece_within : (parts : List (List ℕ)) (i at m n : ℕ) → n ≡ min m (length (concat (drop i parts)) - at) → at ≤ length (concat (drop i parts))
    → length (concat (take i parts)) + at + n ≤ length (concat parts)
piece_within parts i at m n many inside =
    omega (arith, ap length (concat_at parts i), length-append (concat (take i parts)) (concat (drop i parts)))

-- a piece was gone over, and what is made of it is written in its place
module _ {W : Type 0} (makes : W → List ℕ → List ℕ → W → Type 0) (u w : W) (xs ys : List (List ℕ)) (piece : List ℕ) (at n : ℕ) (within : at + n ≤ length (concat xs)) (long : length piece ≡ n)
    (is : concat ys ≡ written at piece (concat xs)) where
  front_length : length (take at (concat xs)) ≡ at
  front_length = omega (arith, length-take at (concat xs))

  cut_front : take at (concat ys) ≡ take at (concat xs)
  unfolding written
  cut_front =
      ap (take at) (is ∙ append_assoc (take at (concat xs)) piece (drop (at + length piece) (concat xs)))
      ∙ take_at (take at (concat xs)) (piece ++ drop (at + length piece) (concat xs)) at front_length

  cut_back : drop (at + n) (concat ys) ≡ drop (at + n) (concat xs)
  unfolding written
  cut_back =
      ap (drop (at + n)) is
      ∙ drop_at (take at (concat xs) ++ piece) (drop (at + length piece) (concat xs)) (at + n) (omega (arith, length-append (take at (concat xs)) piece, front_length))
      ∙ ap (λ (k : ℕ). drop (at + k) (concat xs)) long

  cut_piece : take n (drop at (concat ys)) ≡ piece
  unfolding written
  cut_piece =
      ap (λ (t : List ℕ). take n (drop at t)) (is ∙ append_assoc (take at (concat xs)) piece (drop (at + length piece) (concat xs)))
      ∙ ap (take n) (drop_at (take at (concat xs)) (piece ++ drop (at + length piece) (concat xs)) at front_length)
      ∙ take_at piece (drop (at + length piece) (concat xs)) n long

  pub stepped_over : map length ys ≡ map length xs → makes u (take n (drop at (concat xs))) piece w → Stepped makes u xs ys w at n
  stepped_over sizes made = record {
    sizes = sizes;
    front = cut_front;
    back = cut_back;
    made = subst (λ (d : List ℕ). makes u (take n (drop at (concat xs))) d w) (sym cut_piece) made;
    within = within;
  }

-- within segment i
module _ {W : Type 0} (makes : W → List ℕ → List ℕ → W → Type 0) (u w : W) (parts : List (List ℕ)) (i at k : ℕ) (part new : List ℕ) (h : i < length parts) (is : part ≡ get_or parts i [])
    (inside : at + k ≤ length part) (rest : new ≡ written at (take k (drop at new)) part) (long : length (take k (drop at new)) ≡ k) where
  new_length : length new ≡ length part
  new_length = ap length rest ∙ length-written at (take k (drop at new)) part (omega (arith, long))

  pub same_parts : map length (set parts i new) ≡ map length parts
  same_parts = same_sizes parts i new (new_length ∙ ap length is) h

  piece_in : take k (drop (length (concat (take i parts)) + at) (concat parts)) ≡ take k (drop at part)
  piece_in =
      let behind : List ℕ = concat (drop (i + 1) parts) in
      ap (λ (t : List ℕ). take k (drop (length (concat (take i parts)) + at) t)) (concat_round parts i h)
      ∙ ap (take k) (drop-append-add (concat (take i parts)) (get_or parts i [] ++ behind) at)
      ∙ ap (λ (t : List ℕ). take k (drop at (t ++ behind))) (sym is)
      ∙ ap (take k) (drop-append-le at part behind (omega arith))
      ∙ take-append-le k (drop at part) behind (omega (arith, length-drop at part))

  in_place : concat (set parts i new) ≡ written (length (concat (take i parts)) + at) (take k (drop at new)) (concat parts)
  in_place =
      ap (λ (t : List ℕ). concat (set parts i t)) (rest ∙ ap (written at (take k (drop at new))) is)
      ∙ written_part parts i at (take k (drop at new)) h (omega (arith, long, ap length is))

  within_text : length (concat (take i parts)) + at + k ≤ length (concat parts)
  within_text =
      omega (arith, ap length (concat_round parts i h), length-append (concat (take i parts)) (get_or parts i [] ++ concat (drop (i + 1) parts)), length-append (get_or parts i []) (concat (drop (i + 1) parts)), ap length is)

  pub stepped_within : makes u (take k (drop at part)) (take k (drop at new)) w → Stepped makes u parts (set parts i new) w (length (concat (take i parts)) + at) k
  stepped_within made =
      stepped_over makes u w parts (set parts i new) (take k (drop at new)) (length (concat (take i parts)) + at) k within_text long in_place same_parts
      (subst (λ (t : List ℕ). makes u t (take k (drop at new)) w) (sym piece_in) made)

-- the same walk, at numbers that are equal
pub stepped_same : {W : Type 0} (makes : W → List ℕ → List ℕ → W → Type 0) (u w : W) (xs ys : List (List ℕ)) (at at' n n' : ℕ) → at ≡ at' → n ≡ n' → Stepped makes u xs ys w at n → Stepped makes u xs ys w at' n'
stepped_same makes u w xs ys at at' n n' e f s = subst (λ (m : ℕ). Stepped makes u xs ys w m n') e (subst (λ (m : ℕ). Stepped makes u xs ys w at m) f s)

-- the bytes from segment i on, of which it has the first
pub behind_within : (parts : List (List ℕ)) (i : ℕ) → i < length parts → length (get_or parts i []) ≤ length (concat (drop i parts))
behind_within parts i h = omega (arith, length_from parts i h)

-- whole blocks within segment i, and a block that begins in it
module _ {W : Type 0} (makes : W → List ℕ → List ℕ → W → Type 0) (u v w : W) (xs ys zs : List (List ℕ)) (i skip len k count : ℕ) (joins : Joins makes) (whole : k % 16 ≡ 0)
    (first : Stepped makes u xs ys v (length (concat (take i xs)) + skip) k)
    (second : Stepped makes v ys zs w (length (concat (take i ys)) + (skip + k)) count) where
  pub stepped_both : Stepped makes u xs zs w (length (concat (take i xs)) + skip) (k + count)
  stepped_both =
      let next : length (concat (take i ys)) + (skip + k) ≡ length (concat (take i xs)) + skip + k = omega (arith, same_before ys xs i first.sizes) in
      stepped_on makes u v w xs ys zs (length (concat (take i xs)) + skip) k count joins whole first
      (stepped_same makes v w ys zs (length (concat (take i ys)) + (skip + k)) (length (concat (take i xs)) + skip + k) count count next refl second)

-- the segments before segment i and `skip` more bytes were gone over
pub record Walked {W : Type 0} (makes : W → List ℕ → List ℕ → W → Type 0) (u : W) (xs ys : List (List ℕ)) (w : W) (i skip : ℕ) : Type 0 where
  pub stepped : Stepped makes u xs ys w 0 (length (concat (take i xs)) + skip)
  pub whole : length (concat (take i xs)) + skip < length (concat xs) → (length (concat (take i xs)) + skip) % 16 ≡ 0

length_more : (parts : List (List ℕ)) (i : ℕ) → i < length parts → length (concat (take (i + 1) parts)) ≡ length (concat (take i parts)) + length (get_or parts i [])
length_more parts i h = ap length (concat_more parts i h) ∙ length-append (concat (take i parts)) (get_or parts i [])

pub walked_none : {W : Type 0} (makes : W → List ℕ → List ℕ → W → Type 0) (w : W) (xs : List (List ℕ)) → makes w [] [] w → Walked makes w xs xs w 0 0
walked_none makes w xs stays = record { stepped = stepped_none makes w xs stays; whole = λ _. refl }

module _ {W : Type 0} (makes : W → List ℕ → List ℕ → W → Type 0) (u v : W) (xs ys : List (List ℕ)) (i skip len : ℕ) (h : i < length xs) (is : len ≡ length (get_or ys i [])) (before : Walked makes u xs ys v i skip) where
  next : length (concat (take (i + 1) xs)) ≡ length (concat (take i xs)) + len
  next = omega (arith, length_more xs i h, same_at ys xs i before.stepped.sizes)

  -- segment i was gone over already
  pub walked_past : (zs : List (List ℕ)) (w : W) (skip' : ℕ) → len ≤ skip → zs ≡ ys → w ≡ v → skip' ≡ skip - len → Walked makes u xs zs w (i + 1) skip'
  walked_past zs w skip' past e f left =
      let same : length (concat (take i xs)) + skip ≡ length (concat (take (i + 1) xs)) + skip' = omega (arith, next) in
      record {
        stepped = subst (λ (z : List (List ℕ)). Stepped makes u xs z w 0 (length (concat (take (i + 1) xs)) + skip')) (sym e)
            (subst (λ (t : W). Stepped makes u xs ys t 0 (length (concat (take (i + 1) xs)) + skip')) (sym f)
            (stepped_same makes u v xs ys 0 0 (length (concat (take i xs)) + skip) (length (concat (take (i + 1) xs)) + skip') refl same before.stepped));
        whole = subst (λ (n : ℕ). n < length (concat xs) → n % 16 ≡ 0) same before.whole;
      }

  -- the rest of segment i is gone over, and `skip'` bytes of those behind it
  pub walked_on : (zs : List (List ℕ)) (w : W) (skip' : ℕ) → Joins makes → skip < len → Stepped makes v ys zs w (length (concat (take i ys)) + skip) (length (get_or ys i []) + skip' - skip)
      → (length (get_or ys i []) + skip' < length (concat (drop i ys)) → (length (get_or ys i []) + skip' - skip) % 16 ≡ 0) → Walked makes u xs zs w (i + 1) skip'
  walked_on zs w skip' joins inside s whole =
      let m : ℕ = length (get_or ys i []) + skip' - skip in
      let at : length (concat (take i ys)) + skip ≡ 0 + (length (concat (take i xs)) + skip) = omega (arith, same_before ys xs i before.stepped.sizes) in
      let total : length (concat (take i ys)) + length (concat (drop i ys)) ≡ length (concat xs) =
      omega (arith, ap length (concat_at ys i), length-append (concat (take i ys)) (concat (drop i ys)), same_total ys xs before.stepped.sizes) in
      let blocks : (length (concat (take i xs)) + skip) % 16 ≡ 0 = before.whole (omega (arith, total, same_before ys xs i before.stepped.sizes, length_from ys i (omega (arith, h, same_count ys xs before.stepped.sizes)))) in
      let all : length (concat (take i xs)) + skip + m ≡ length (concat (take (i + 1) xs)) + skip' = omega (arith, next) in
      record {
        stepped = stepped_same makes u w xs zs 0 0 (length (concat (take i xs)) + skip + m) (length (concat (take (i + 1) xs)) + skip') refl all
            (stepped_on makes u v w xs ys zs 0 (length (concat (take i xs)) + skip) m joins blocks before.stepped
            (stepped_same makes v w ys zs (length (concat (take i ys)) + skip) (0 + (length (concat (take i xs)) + skip)) m m at refl s));
        whole = λ more. omega (arith, next, blocks, total, same_before ys xs i before.stepped.sizes, whole (omega (arith, next, total, same_before ys xs i before.stepped.sizes)));
      }

pub walked_same : {W : Type 0} (makes : W → List ℕ → List ℕ → W → Type 0) (u v w : W) (xs ys zs : List (List ℕ)) (i skip skip' : ℕ) → zs ≡ ys → w ≡ v → skip' ≡ skip
    → Walked makes u xs ys v i skip → Walked makes u xs zs w i skip'
walked_same {W} makes u v w xs ys zs i skip skip' e f g s =
    subst (λ (z : List (List ℕ)). Walked makes u xs z w i skip') (sym e)
    (subst (λ (t : W). Walked makes u xs ys t i skip') (sym f) (subst (λ (n : ℕ). Walked makes u xs ys v i n) (sym g) s))

-- all segments were gone over
pub walked_all : {W : Type 0} (makes : W → List ℕ → List ℕ → W → Type 0) (u w : W) (xs ys : List (List ℕ)) (i skip : ℕ) → length xs ≤ i → Walked makes u xs ys w i skip → makes u (concat xs) (concat ys) w
walked_all makes u w xs ys i skip h s =
    stepped_all makes u w xs ys (length (concat (take i xs)) + skip) (omega (arith, ap (λ (ps : List (List ℕ)). length (concat ps)) (take_all i xs h))) s.stepped
