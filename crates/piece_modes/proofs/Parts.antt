-- The bytes of pieces, as a list of texts.
use Rattle.std.proofs.Common.{◌≡◌, ℕ, ◌+◌, ◌-◌, ◌<◌, ◌≤◌, min, List, [], ◌∷◌, ◌++◌, length, map, take, drop, get_or, set, refl, sym, ap, subst, ◌∙◌, arith, zero-add}
use Rattle.std.proofs.lemmas.List.{get_or-map, map-set, length-map, take_all}
use Rattle.std.specs.List.{concat}
use Rattle.sg_walk.specs.Segments.{written}
use Rattle.sg_walk.specs.Stepped.{Stepped}
use Rattle.sg_walk.proofs.Joined.{written_more, written_sizes, behind_same, length_from, same_behind, same_total}
use Rattle.sg_walk.proofs.Steps.{same_parts, behind_within, stepped_within}
use Rattle.piece_modes.specs.Pieces.{parts_of, text_over, size_of}
use Rattle.piece_modes.specs.declared.piece.PieceMut.{PieceMut}

bytes_of : PieceMut → List ℕ
bytes_of p = p.bytes.now

pub part_at : (ps : List PieceMut) (i : ℕ) (d : PieceMut) → i < length ps → (get_or ps i d).bytes.now ≡ get_or (parts_of ps) i []
part_at ps i d h = sym (get_or-map (λ (p : PieceMut). p.bytes.now) ps i d [] h)

pub part_set : (ps : List PieceMut) (i : ℕ) (p : PieceMut) → parts_of (set ps i p) ≡ set (parts_of ps) i p.bytes.now
part_set ps i p = map-set (λ (p : PieceMut). p.bytes.now) ps i p

pub count_is : (ps : List PieceMut) → length (parts_of ps) ≡ length ps
count_is ps = length-map ps (λ (p : PieceMut). p.bytes.now)

pub text_is : (ps : List PieceMut) → text_over ps ≡ concat (parts_of ps)
text_is [] = refl
text_is (p ∷ ps) = ap (λ x. p.bytes.now ++ x) (text_is ps)

pub sizes_are : (ps : List PieceMut) → map size_of ps ≡ map length (parts_of ps)
sizes_are [] = refl
sizes_are (p ∷ ps) = ap (λ x. length p.bytes.now ∷ x) (sizes_are ps)

-- a piece in its place, as a text among texts
pub put : (ps : List PieceMut) (i : ℕ) (p : PieceMut) (new : List ℕ) → p.bytes.now ≡ new → parts_of (set ps i p) ≡ set (parts_of ps) i new
put ps i p new e = part_set ps i p ∙ ap (set (parts_of ps) i) e

-- a step that writes into piece i: `done` bytes of `from` are written, and `count` more
module _ (ps : List PieceMut) (i skip done begin count len : ℕ) (from : List ℕ) (d p : PieceMut) (new : List ℕ) (h : i < length ps)
    (len_is : len ≡ length (get_or (parts_of ps) i [])) (begin_is : begin ≡ min skip len) (count_of : count ≡ min (len - begin) (length from - done))
    (holds : p.bytes.now ≡ new) (made : new ≡ written begin (take (done + count - done) (drop done from)) (get_or ps i d).bytes.now) where
  inside : i < length (parts_of ps)
  inside = omega (arith, h, count_is ps)

  part_is : (get_or ps i d).bytes.now ≡ get_or (parts_of ps) i []
  part_is = part_at ps i d h

  from_there : begin ≡ min skip (length (get_or ps i d).bytes.now)
  from_there = begin_is ∙ ap (min skip) (len_is ∙ sym (ap length part_is))

  as_many : count ≡ min (length (get_or ps i d).bytes.now - begin) (length from - done)
  as_many = count_of ∙ ap (λ (n : ℕ). min (n - begin) (length from - done)) (len_is ∙ sym (ap length part_is))

  pub text_scattered : concat (take (i + 1) (parts_of (set ps i p))) ++ written (skip - begin) (drop (done + count) from) (concat (drop (i + 1) (parts_of (set ps i p))))
      ≡ concat (take i (parts_of ps)) ++ written skip (drop done from) (concat (drop i (parts_of ps)))
  text_scattered =
      ap (λ (xs : List (List ℕ)). concat (take (i + 1) xs) ++ written (skip - begin) (drop (done + count) from) (concat (drop (i + 1) xs))) (put ps i p new holds)
      ∙ written_more (parts_of ps) i skip done begin count from (get_or ps i d).bytes.now new inside part_is from_there as_many made

  pub sizes_scattered : map length (parts_of (set ps i p)) ≡ map length (parts_of ps)
  sizes_scattered =
      ap (map length) (put ps i p new holds) ∙ written_sizes (parts_of ps) i skip done begin count from (get_or ps i d).bytes.now new inside part_is from_there as_many made

  pub room_scattered : skip + (length from - done) ≤ length (concat (drop i (parts_of ps)))
      → skip - begin + (length from - (done + count)) ≤ length (concat (drop (i + 1) (parts_of (set ps i p))))
  room_scattered before =
      let behind : drop (i + 1) (parts_of (set ps i p)) ≡ drop (i + 1) (parts_of ps) =
      ap (drop (i + 1)) (put ps i p new holds) ∙ behind_same (parts_of ps) i skip done begin count from (get_or ps i d).bytes.now new inside part_is from_there as_many made in
      omega (arith, count_of, begin_is, len_is, before, length_from (parts_of ps) i inside, ap (λ (xs : List (List ℕ)). length (concat xs)) behind)

pub of_first : (ps : List PieceMut) (i : ℕ) → i < length ps → length (get_or (parts_of ps) i []) ≤ length (concat (drop i (parts_of ps)))
of_first ps i h = behind_within (parts_of ps) i (omega (arith, h, count_is ps))

-- whole blocks of piece i were gone over, from its byte `skip` on
module _ {W : Type 0} (makes : W → List ℕ → List ℕ → W → Type 0) (u v : W) (ps : List PieceMut) (i skip k : ℕ) (d p : PieceMut) (new : List ℕ) (h : i < length ps)
    (within : skip + k ≤ length (get_or (parts_of ps) i [])) (holds : p.bytes.now ≡ new)
    (rest : new ≡ written skip (take k (drop skip new)) (get_or ps i d).bytes.now) (long : length (take k (drop skip new)) ≡ k) where
  inside_all : i < length (parts_of ps)
  inside_all = omega (arith, h, count_is ps)

  in_piece : skip + k ≤ length (get_or ps i d).bytes.now
  in_piece = omega (arith, within, ap length (part_at ps i d h))

  pub sizes_stepped : map length (parts_of (set ps i p)) ≡ map length (parts_of ps)
  sizes_stepped = ap (map length) (put ps i p new holds) ∙ same_parts makes u v (parts_of ps) i skip k (get_or ps i d).bytes.now new inside_all (part_at ps i d h) in_piece rest long

  pub behind_stepped : length (concat (drop i (parts_of (set ps i p)))) ≡ length (concat (drop i (parts_of ps)))
  behind_stepped = same_behind (parts_of (set ps i p)) (parts_of ps) i sizes_stepped

  pub inside_stepped : (at : ℕ) → at ≤ length (concat (drop i (parts_of ps))) → at ≤ length (concat (drop i (parts_of (set ps i p))))
  inside_stepped at before = omega (arith, before, behind_stepped)

  pub count_stepped : (at count : ℕ) → count ≡ min 128 (length (concat (drop i (parts_of (set ps i p)))) - at) → count ≡ min 128 (length (concat (drop i (parts_of ps))) - at)
  count_stepped at count is = is ∙ ap (λ (n : ℕ). min 128 (n - at)) behind_stepped

  pub stepped_first : makes u (take k (drop skip (get_or ps i d).bytes.now)) (take k (drop skip new)) v
      → Stepped makes u (parts_of ps) (parts_of (set ps i p)) v (length (concat (take i (parts_of ps))) + skip) k
  stepped_first made =
      subst (λ (xs : List (List ℕ)). Stepped makes u (parts_of ps) xs v (length (concat (take i (parts_of ps))) + skip) k) (sym (put ps i p new holds))
      (stepped_within makes u v (parts_of ps) i skip k (get_or ps i d).bytes.now new inside_all (part_at ps i d h) in_piece rest long made)

pub same_lengths : (old new : List PieceMut) → map length (parts_of new) ≡ map length (parts_of old) → map size_of new ≡ map size_of old
same_lengths old new e = sizes_are new ∙ e ∙ sym (sizes_are old)

pub text_written : (old new : List PieceMut) (at : ℕ) (from : List ℕ) → concat (parts_of new) ≡ written (0 + at) from (concat (parts_of old))
    → text_over new ≡ take at (text_over old) ++ from ++ drop (at + length from) (text_over old)
unfolding written
text_written old new at from e = text_is new ∙ e ∙ ap (λ (k : ℕ). written k from (concat (parts_of old))) (zero-add at) ∙ ap (written at from) (sym (text_is old))

pub text_read : (ps : List PieceMut) (at n : ℕ) (old new : List ℕ) → at + length old ≤ length (text_over ps) → length new ≡ length old → n ≡ min (length old) (length (concat (parts_of ps)) - at)
    → take n new ≡ take (length old) (drop at (concat (parts_of ps))) → new ≡ take (length old) (drop at (text_over ps))
text_read ps at n old new within long many copied =
    let all : length new ≤ n = omega (arith, long, many, within, ap length (text_is ps)) in
    sym (take_all n new all) ∙ copied ∙ ap (λ (t : List ℕ). take (length old) (drop at t)) (sym (text_is ps))

pub same_total_over : (old new : List PieceMut) → map size_of new ≡ map size_of old → length (text_over new) ≡ length (text_over old)
same_total_over old new e =
    ap length (text_is new) ∙ same_total (parts_of new) (parts_of old) (sym (sizes_are new) ∙ e ∙ sizes_are old) ∙ sym (ap length (text_is old))
