-- Segments, and the text that they make.
use Rattle.std.proofs.Common.{◌≡◌, ℕ, zero, suc, ◌+◌, ◌-◌, ◌<◌, ◌≤◌, min, List, [], ◌∷◌, ◌++◌, length, map, take, drop, get_or, set, sym, ap, ap₂, ◌∙◌, refl, arith, zero-add, append_assoc, append-nil, length-append, length-take, length-drop, take-append-drop, ⊎_elim}
use Rattle.std.specs.List.{concat}
use Rattle.std.proofs.Math.Seq.{take-append-add, drop-append-add, take-append-le, drop-append-le}
use Rattle.std.proofs.lemmas.Bool.{cases_lt}
use Rattle.std.proofs.lemmas.List.{length-map, drop_more, take_more, take_all, drop_all, drop-drop, take_more_set, take-set, drop-set-lt, drop-set, nil_from_length}
use Rattle.std.proofs.lemmas.Slice.{take-put_mid, drop-put_mid}
use borrow.Rule.Slice.PartMut.{put_mid}
use Rattle.sg_walk.specs.Segments.{written, cut_sizes}

-- ---- segments in a row

pub concat-append : (xs ys : List (List ℕ)) → concat (xs ++ ys) ≡ concat xs ++ concat ys
concat-append [] ys = refl
concat-append (x ∷ xs) ys = ap (λ (t : List ℕ). x ++ t) (concat-append xs ys) ∙ sym (append_assoc x (concat xs) (concat ys))

-- the text in front of segment i, and from it on
pub concat_at : (parts : List (List ℕ)) (i : ℕ) → concat parts ≡ concat (take i parts) ++ concat (drop i parts)
concat_at parts i = ap concat (sym (take-append-drop i parts)) ∙ concat-append (take i parts) (drop i parts)

-- from segment i on
pub concat_from : (parts : List (List ℕ)) (i : ℕ) → i < length parts → concat (drop i parts) ≡ get_or parts i [] ++ concat (drop (i + 1) parts)
concat_from parts i h = ap concat (drop_more parts i [] h)

-- up to and with segment i
pub concat_more : (parts : List (List ℕ)) (i : ℕ) → i < length parts → concat (take (i + 1) parts) ≡ concat (take i parts) ++ get_or parts i []
concat_more parts i h =
    ap concat (take_more parts i [] h) ∙ concat-append (take i parts) (get_or parts i [] ∷ []) ∙ ap (λ (t : List ℕ). concat (take i parts) ++ t) (append-nil (get_or parts i []))

-- around segment i
pub concat_round : (parts : List (List ℕ)) (i : ℕ) → i < length parts → concat parts ≡ concat (take i parts) ++ (get_or parts i [] ++ concat (drop (i + 1) parts))
concat_round parts i h = concat_at parts i ∙ ap (λ (t : List ℕ). concat (take i parts) ++ t) (concat_from parts i h)

-- with another segment i
pub concat-set : (parts : List (List ℕ)) (i : ℕ) (part : List ℕ) → i < length parts
    → concat (set parts i part) ≡ concat (take i parts) ++ (part ++ concat (drop (i + 1) parts))
concat-set parts i part h =
    concat_at (set parts i part) i
    ∙ ap₂ (λ (a b : List (List ℕ)). concat a ++ concat b) (take-set parts i part) (drop-set parts i part h)

-- ---- segments of the same lengths

pub same_total : (xs ys : List (List ℕ)) → map length xs ≡ map length ys → length (concat xs) ≡ length (concat ys)
same_total [] [] e = refl
same_total [] (y ∷ ys) e = absurd (cc)
same_total (x ∷ xs) [] e = absurd (cc)
same_total (x ∷ xs) (y ∷ ys) e =
    let here : length x ≡ length y = cc in
    let behind : map length xs ≡ map length ys = cc in
    length-append x (concat xs) ∙ ap₂ (λ (m n : ℕ). m + n) here (same_total xs ys behind) ∙ sym (length-append y (concat ys))

pub same_before : (xs ys : List (List ℕ)) (i : ℕ) → map length xs ≡ map length ys → length (concat (take i xs)) ≡ length (concat (take i ys))
same_before xs ys zero e = refl
same_before [] [] (suc i) e = refl
same_before [] (y ∷ ys) (suc i) e = absurd (cc)
same_before (x ∷ xs) [] (suc i) e = absurd (cc)
same_before (x ∷ xs) (y ∷ ys) (suc i) e =
    let here : length x ≡ length y = cc in
    let behind : map length xs ≡ map length ys = cc in
    length-append x (concat (take i xs)) ∙ ap₂ (λ (m n : ℕ). m + n) here (same_before xs ys i behind) ∙ sym (length-append y (concat (take i ys)))

pub same_behind : (xs ys : List (List ℕ)) (i : ℕ) → map length xs ≡ map length ys → length (concat (drop i xs)) ≡ length (concat (drop i ys))
same_behind xs ys i e =
    omega (
      arith,
      same_total xs ys e,
      same_before xs ys i e,
      ap length (concat_at xs i),
      ap length (concat_at ys i),
      length-append (concat (take i xs)) (concat (drop i xs)),
      length-append (concat (take i ys)) (concat (drop i ys)),
    )

pub same_count : (xs ys : List (List ℕ)) → map length xs ≡ map length ys → length xs ≡ length ys
same_count xs ys e = omega (arith, ap length e, length-map xs length, length-map ys length)

pub same_at : (xs ys : List (List ℕ)) (i : ℕ) → map length xs ≡ map length ys → length (get_or xs i []) ≡ length (get_or ys i [])
same_at [] [] i e = refl
same_at [] (y ∷ ys) i e = absurd (cc)
same_at (x ∷ xs) [] i e = absurd (cc)
same_at (x ∷ xs) (y ∷ ys) zero e = cc
same_at (x ∷ xs) (y ∷ ys) (suc i) e = let behind : map length xs ≡ map length ys = cc in same_at xs ys i behind

-- a segment in the place of one of its length
pub same_sizes : (parts : List (List ℕ)) (i : ℕ) (part : List ℕ) → length part ≡ length (get_or parts i []) → i < length parts → map length (set parts i part) ≡ map length parts
same_sizes [] i part e h = refl
same_sizes (x ∷ xs) zero part e h = ap (λ (n : ℕ). n ∷ map length xs) e
same_sizes (x ∷ xs) (suc i) part e h = ap (λ (ns : List ℕ). length x ∷ ns) (same_sizes xs i part e (omega arith))

-- ---- a piece of two segments

-- m bytes from byte `skip` on of a segment p and what lies behind it: `count` bytes of p from `begin` on, and the rest
-- behind it
module _ (p r : List ℕ) (skip begin m count : ℕ) (from : begin ≡ min skip (length p)) (many : count ≡ min (length p - begin) m) where
  pub piece_first : take m (drop skip (p ++ r)) ≡ take count (drop begin p) ++ take (m - count) (drop (skip - begin) r)
  piece_first =
      ⊎_elim
      (λ (h : skip < length p).
      let at : begin ≡ skip = omega arith in
      let none : skip - begin ≡ 0 = omega arith in
      let long : length (drop skip p) ≡ length p - skip = length-drop skip p in
      ap (take m) (drop-append-le skip p r (omega arith))
      ∙ ⊎_elim
      (λ (l : m < length p - skip).
      let all : count ≡ m = omega arith in
      let rest : m - count ≡ 0 = omega arith in
      take-append-le m (drop skip p) r (omega arith)
      ∙ sym (append-nil (take m (drop skip p)))
      ∙ ap₂ (λ (a b : List ℕ). a ++ b) (ap₂ (λ (n k : ℕ). take n (drop k p)) (sym all) (sym at)) (ap (λ (n : ℕ). take n (drop (skip - begin) r)) (sym rest)))
      (λ (l : length p - skip ≤ m).
      let all : count ≡ length (drop skip p) = omega arith in
      let split : m ≡ length (drop skip p) + (m - count) = omega arith in
      ap (λ (n : ℕ). take n (drop skip p ++ r)) split
      ∙ take-append-add (drop skip p) r (m - count)
      ∙ ap₂ (λ (a b : List ℕ). a ++ b) (sym (take_all count (drop skip p) (omega arith)) ∙ ap (λ (k : ℕ). take count (drop k p)) (sym at)) (ap (λ (k : ℕ). take (m - count) (drop k r)) (sym none)))
      (cases_lt m (length p - skip)))
      (λ (h : length p ≤ skip).
      let past : skip ≡ length p + (skip - begin) = omega arith in
      let none : count ≡ 0 = omega arith in
      let all : m ≡ m - count = omega arith in
      ap (λ (k : ℕ). take m (drop k (p ++ r))) past
      ∙ ap (take m) (drop-append-add p r (skip - begin))
      ∙ ap (λ (n : ℕ). take n (drop (skip - begin) r)) all
      ∙ ap (λ (n : ℕ). take n (drop begin p) ++ take (m - count) (drop (skip - begin) r)) (sym none))
      (cases_lt skip (length p))

-- ---- a piece that is written

pub written_none : (at : ℕ) (text : List ℕ) → written at [] text ≡ text
unfolding written
written_none at text =
    let here : at + 0 ≡ at = omega arith in
    ap (λ (k : ℕ). take at text ++ [] ++ drop k text) here ∙ ap (λ (t : List ℕ). t ++ drop at text) (append-nil (take at text)) ∙ take-append-drop at text

pub length-written : (at : ℕ) (piece text : List ℕ) → at + length piece ≤ length text → length (written at piece text) ≡ length text
unfolding written
length-written at piece text h =
    omega (arith, length-append (take at text ++ piece) (drop (at + length piece) text), length-append (take at text) piece, length-take at text, length-drop (at + length piece) text)

-- behind a text
pub written_behind : (a : List ℕ) (at : ℕ) (piece text : List ℕ) → written (length a + at) piece (a ++ text) ≡ a ++ written at piece text
unfolding written
written_behind a at piece text =
    let next : length a + at + length piece ≡ length a + (at + length piece) = omega arith in
    ap₂ (λ (x y : List ℕ). x ++ piece ++ y) (take-append-add a text at) (ap (λ (k : ℕ). drop k (a ++ text)) next ∙ drop-append-add a text (at + length piece))
    ∙ ap (λ (x : List ℕ). x ++ drop (at + length piece) text) (append_assoc a (take at text) piece)
    ∙ append_assoc a (take at text ++ piece) (drop (at + length piece) text)

-- within the first of two texts
written_within : (at : ℕ) (piece p r : List ℕ) → at + length piece ≤ length p → written at piece (p ++ r) ≡ written at piece p ++ r
unfolding written
written_within at piece p r h =
    ap₂ (λ (x y : List ℕ). x ++ piece ++ y) (take-append-le at p r (omega arith)) (drop-append-le (at + length piece) p r h)
    ∙ sym (append_assoc (take at p ++ piece) (drop (at + length piece) p) r)

-- over the end of the first
written_over : (at : ℕ) (f g p r : List ℕ) → at + length f ≡ length p → written at (f ++ g) (p ++ r) ≡ written at f p ++ written 0 g r
unfolding written
written_over at f g p r h =
    let next : at + length (f ++ g) ≡ length p + length g = omega (arith, length-append f g) in
    let none : 0 + length g ≡ length g = zero-add (length g) in
    ap₂ (λ (x y : List ℕ). x ++ (f ++ g) ++ y) (take-append-le at p r (omega arith)) (ap (λ (k : ℕ). drop k (p ++ r)) next ∙ drop-append-add p r (length g))
    ∙ ap (λ (x : List ℕ). x ++ drop (length g) r) (sym (append_assoc (take at p) f g))
    ∙ append_assoc (take at p ++ f) g (drop (length g) r)
    ∙ ap₂ (λ (x y : List ℕ). x ++ y)
    (sym (append-nil (take at p ++ f)) ∙ ap (λ (x : List ℕ). take at p ++ f ++ x) (sym (drop_all (at + length f) p (omega arith))))
    (ap (λ (k : ℕ). g ++ drop k r) (sym none))

-- a piece over a segment p and what lies behind it: its first `count` bytes over those of p from `begin` on, and the
-- rest behind it
module _ (p r f : List ℕ) (skip begin count : ℕ) (from : begin ≡ min skip (length p)) (many : count ≡ min (length p - begin) (length f)) where
  pub written_first : written skip f (p ++ r) ≡ written begin (take count f) p ++ written (skip - begin) (drop count f) r
  written_first =
      ⊎_elim
      (λ (h : skip < length p).
      let at : skip ≡ begin = omega arith in
      let none : 0 ≡ skip - begin = omega arith in
      ⊎_elim
      (λ (l : length p - skip < length f).
      let first : length (take count f) ≡ count = omega (arith, length-take count f) in
      ap (λ (g : List ℕ). written skip g (p ++ r)) (sym (take-append-drop count f))
      ∙ written_over skip (take count f) (drop count f) p r (omega arith)
      ∙ ap₂ (λ (j k : ℕ). written j (take count f) p ++ written k (drop count f) r) at none)
      (λ (l : length f ≤ length p - skip).
      let all : length f ≤ count = omega arith in
      written_within skip f p r (omega arith)
      ∙ ap₂ (λ (x y : List ℕ). x ++ y)
      (ap₂ (λ (k : ℕ) (g : List ℕ). written k g p) at (sym (take_all count f all)))
      (sym (ap (λ (g : List ℕ). written (skip - begin) g r) (drop_all count f all) ∙ written_none (skip - begin) r)))
      (cases_lt (length p - skip) (length f)))
      (λ (h : length p ≤ skip).
      let past : skip ≡ length p + (skip - begin) = omega arith in
      let none : 0 ≡ count = omega arith in
      ap (λ (k : ℕ). written k f (p ++ r)) past
      ∙ written_behind p (skip - begin) f r
      ∙ ap (λ (x : List ℕ). x ++ written (skip - begin) f r) (sym (written_none begin p))
      ∙ ap (λ (n : ℕ). written begin (take n f) p ++ written (skip - begin) (drop n f) r) none)
      (cases_lt skip (length p))

-- within one segment
pub written_part : (parts : List (List ℕ)) (i at : ℕ) (piece : List ℕ) → i < length parts → at + length piece ≤ length (get_or parts i [])
    → concat (set parts i (written at piece (get_or parts i []))) ≡ written (length (concat (take i parts)) + at) piece (concat parts)
written_part parts i at piece h inside =
    concat-set parts i (written at piece (get_or parts i [])) h
    ∙ ap (λ (t : List ℕ). concat (take i parts) ++ t) (sym (written_within at piece (get_or parts i []) (concat (drop (i + 1) parts)) inside))
    ∙ sym (written_behind (concat (take i parts)) at piece (get_or parts i [] ++ concat (drop (i + 1) parts)))
    ∙ ap (written (length (concat (take i parts)) + at) piece) (sym (concat_round parts i h))

-- ---- a loop over the segments

pub same_rest : (x y : List ℕ) (a m : ℕ) → drop a x ≡ drop a y → drop (a + m) x ≡ drop (a + m) y
same_rest x y a m same = sym (drop-drop m a x) ∙ ap (drop m) same ∙ drop-drop m a y

pub length_from : (parts : List (List ℕ)) (i : ℕ) → i < length parts → length (concat (drop i parts)) ≡ length (get_or parts i []) + length (concat (drop (i + 1) parts))
length_from parts i h = ap length (concat_from parts i h) ∙ length-append (get_or parts i []) (concat (drop (i + 1) parts))

-- a step that copies out of segment i: into has `done` bytes, and `count` more
module _ (parts : List (List ℕ)) (i skip done begin count n : ℕ) (into piece part : List ℕ) (h : i < length parts) (is : part ≡ get_or parts i [])
    (from : begin ≡ min skip (length part)) (many : count ≡ min (length part - begin) (n - done)) (room : done + count ≤ length into)
    (copied : piece ≡ take (begin + count - begin) (drop begin part)) where
  first_bytes : take (begin + count - begin) (drop begin part) ≡ take count (drop begin part)
  first_bytes = let e : begin + count - begin ≡ count = omega arith in ap (λ (k : ℕ). take k (drop begin part)) e

  piece_length : length piece ≡ count
  piece_length = omega (arith, ap length (copied ∙ first_bytes), length-take count (drop begin part), length-drop begin part)

  pub copied_front : take (done + count) (put_mid done (done + count - done) into piece) ≡ take done into ++ piece
  copied_front = take-put_mid done (done + count - done) into piece (done + count) (omega (arith, piece_length)) (omega arith)

  pub copied_rest : drop (done + count) (put_mid done (done + count - done) into piece) ≡ drop (done + count) into
  copied_rest = drop-put_mid done (done + count - done) into piece (done + count) (omega arith) (omega arith) (omega (arith, piece_length))

  pub copied_more : take (done + count) (put_mid done (done + count - done) into piece) ++ take (n - (done + count)) (drop (skip - begin) (concat (drop (i + 1) parts)))
      ≡ take done into ++ take (n - done) (drop skip (concat (drop i parts)))
  copied_more =
      let left : n - done - count ≡ n - (done + count) = omega arith in
      ap (λ (t : List ℕ). t ++ take (n - (done + count)) (drop (skip - begin) (concat (drop (i + 1) parts)))) copied_front
      ∙ append_assoc (take done into) piece (take (n - (done + count)) (drop (skip - begin) (concat (drop (i + 1) parts))))
      ∙ ap (λ (t : List ℕ). take done into ++ t)
      (ap₂ (λ (x y : List ℕ). x ++ y) (copied ∙ first_bytes) (ap (λ (k : ℕ). take k (drop (skip - begin) (concat (drop (i + 1) parts)))) (sym left))
      ∙ sym (piece_first part (concat (drop (i + 1) parts)) skip begin (n - done) count from many)
      ∙ ap (λ (t : List ℕ). take (n - done) (drop skip t)) (ap (λ (t : List ℕ). t ++ concat (drop (i + 1) parts)) is ∙ sym (concat_from parts i h)))

-- a step that writes into segment i: `done` bytes of the piece are written, and `count` more
module _ (parts : List (List ℕ)) (i skip done begin count : ℕ) (piece part new : List ℕ) (h : i < length parts) (is : part ≡ get_or parts i [])
    (from : begin ≡ min skip (length part)) (many : count ≡ min (length part - begin) (length piece - done))
    (made : new ≡ written begin (take (done + count - done) (drop done piece)) part) where
  next_bytes : take (done + count - done) (drop done piece) ≡ take count (drop done piece)
  next_bytes = let e : done + count - done ≡ count = omega arith in ap (λ (k : ℕ). take k (drop done piece)) e

  new_length : length new ≡ length part
  new_length =
      ap length made
      ∙ length-written begin (take (done + count - done) (drop done piece)) part (omega (arith, ap length next_bytes, length-take count (drop done piece)))

  pub written_sizes : map length (set parts i new) ≡ map length parts
  written_sizes = same_sizes parts i new (new_length ∙ ap length is) h

  pub behind_same : drop (i + 1) (set parts i new) ≡ drop (i + 1) parts
  behind_same = drop-set-lt (i + 1) parts i new (omega arith)

  pub written_more : concat (take (i + 1) (set parts i new)) ++ written (skip - begin) (drop (done + count) piece) (concat (drop (i + 1) (set parts i new)))
      ≡ concat (take i parts) ++ written skip (drop done piece) (concat (drop i parts))
  written_more =
      let long : length piece - done ≡ length (drop done piece) = sym (length-drop done piece) in
      ap₂ (λ (x y : List (List ℕ)). concat x ++ written (skip - begin) (drop (done + count) piece) (concat y)) (take_more_set parts i new h) behind_same
      ∙ ap (λ (t : List ℕ). t ++ written (skip - begin) (drop (done + count) piece) (concat (drop (i + 1) parts)))
      (concat-append (take i parts) (new ∷ []) ∙ ap (λ (t : List ℕ). concat (take i parts) ++ t) (append-nil new))
      ∙ append_assoc (concat (take i parts)) new (written (skip - begin) (drop (done + count) piece) (concat (drop (i + 1) parts)))
      ∙ ap (λ (t : List ℕ). concat (take i parts) ++ t)
      (ap₂ (λ (x y : List ℕ). x ++ y) (made ∙ ap (λ (f : List ℕ). written begin f part) next_bytes)
      (ap (λ (f : List ℕ). written (skip - begin) f (concat (drop (i + 1) parts))) (sym (drop-drop count done piece)))
      ∙ sym (written_first part (concat (drop (i + 1) parts)) (drop done piece) skip begin count from (many ∙ ap (min (length part - begin)) long))
      ∙ ap (written skip (drop done piece)) (ap (λ (t : List ℕ). t ++ concat (drop (i + 1) parts)) is ∙ sym (concat_from parts i h)))

-- the segments and a piece of which nothing is left
pub written_end : (parts : List (List ℕ)) (i skip : ℕ) (rest : List ℕ) → length rest ≡ 0 → concat (take i parts) ++ written skip rest (concat (drop i parts)) ≡ concat parts
written_end parts i skip rest none =
    ap (λ (f : List ℕ). concat (take i parts) ++ written skip f (concat (drop i parts))) (nil_from_length rest none)
    ∙ ap (λ (t : List ℕ). concat (take i parts) ++ t) (written_none skip (concat (drop i parts)))
    ∙ sym (concat_at parts i)

-- ---- the first bytes

-- each segment's front, n bytes together
abbrev pub fronts : ℕ → List (List ℕ) → List (List ℕ)
fronts n [] = []
fronts n (part ∷ parts) = take (min (length part) n) part ∷ fronts (n - min (length part) n) parts

pub concat-fronts : (n : ℕ) (parts : List (List ℕ)) → concat (fronts n parts) ≡ take n (concat parts)
concat-fronts n [] = sym (take_all n [] (omega arith))
concat-fronts n (part ∷ parts) =
    let none : 0 ≡ min 0 (length part) = omega arith in
    let all : min (length part) n ≡ min (length part - 0) n = omega arith in
    ap (λ (t : List ℕ). take (min (length part) n) part ++ t) (concat-fronts (n - min (length part) n) parts)
    ∙ sym (piece_first part (concat parts) 0 0 n (min (length part) n) none all)

pub sizes-fronts : (n : ℕ) (parts : List (List ℕ)) → map length (fronts n parts) ≡ cut_sizes n (map length parts)
sizes-fronts n [] = refl
sizes-fronts n (part ∷ parts) =
    let long : length (take (min (length part) n) part) ≡ min n (length part) = omega (arith, length-take (min (length part) n) part) in
    let rest : n - min (length part) n ≡ n - length part = omega arith in
    ap₂ (λ (size : ℕ) (sizes : List ℕ). size ∷ sizes) long (sizes-fronts (n - min (length part) n) parts ∙ ap (λ (k : ℕ). cut_sizes k (map length parts)) rest)

-- one more segment is cut
pub fronts_more : (parts : List (List ℕ)) (i rest keep : ℕ) (part new : List ℕ) → i < length parts → part ≡ get_or parts i [] → keep ≡ min (length part) rest → new ≡ take keep part
    → take (i + 1) (set parts i new) ++ fronts (rest - keep) (drop (i + 1) (set parts i new)) ≡ take i parts ++ fronts rest (drop i parts)
fronts_more parts i rest keep part new h is kept made =
    ap₂ (λ (x y : List (List ℕ)). x ++ fronts (rest - keep) y) (take_more_set parts i new h) (drop-set-lt (i + 1) parts i new (omega arith))
    ∙ append_assoc (take i parts) (new ∷ []) (fronts (rest - keep) (drop (i + 1) parts))
    ∙ ap (λ (t : List (List ℕ)). take i parts ++ t)
    (ap (λ (t : List ℕ). t ∷ fronts (rest - keep) (drop (i + 1) parts)) made
    ∙ ap (λ (k : ℕ). take k part ∷ fronts (rest - k) (drop (i + 1) parts)) kept
    ∙ sym (ap (fronts rest) (drop_more parts i [] h ∙ ap (λ (t : List ℕ). t ∷ drop (i + 1) parts) (sym is))))

-- all are cut
pub fronts_all : (parts : List (List ℕ)) (i rest : ℕ) → length parts ≤ i → take i parts ++ fronts rest (drop i parts) ≡ parts
fronts_all parts i rest h =
    ap₂ (λ (x y : List (List ℕ)). x ++ fronts rest y) (take_all i parts h) (drop_all i parts h) ∙ append-nil parts
