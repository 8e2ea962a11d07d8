-- Pieces, one behind the other.
use Rattle.std.proofs.Common.{◌≡◌, ℕ, suc, ◌+◌, ◌-◌, ◌≤◌, ◌<◌, min, List, [], ◌∷◌, ◌++◌, length, map, take, drop, get_or, set, refl, sym, ap, ap₂, subst, ◌∙◌, arith, append_assoc, append-nil, length-append, length-take, length-drop, drop-cons, take-append-drop}
use Rattle.std.proofs.lemmas.List.{drop-drop, drop_all, length-take-le, nil_from_length, map-append, length-set, take_more_set, drop-set-lt, take_more}
use Rattle.std.proofs.Math.Seq.{take-append_seam, drop-append_seam, take-add}
use Rattle.sg_walk.proofs.Joined.{piece_first}
use Rattle.perdoaze_calls.specs.Pieces.{text_in}
use Rattle.piece_modes.specs.Pieces.{text_over, size_of}
use Rattle.piece_modes.proofs.Hashed.{text_from}
use Rattle.perdoaze_calls.specs.declared.pieces.Piece.{Piece}
use Rattle.piece_modes.specs.declared.piece.PieceMut.{PieceMut}

-- once `done` of n bytes were copied, and `skip` bytes of what is left are to be passed over
pub record IsGathered (ps : List Piece) (at n i skip done : ℕ) (old into : List ℕ) : Type 0 where
  pub copied : take done into ++ take (n - done) (drop skip (text_in (drop i ps))) ≡ take n (drop at (text_in ps))
  pub rest : drop done into ≡ drop done old
  pub long : length into ≡ length old
  pub room : done ≤ n

-- a piece more, of which `count` bytes from `begin` on were copied
pub gathered : (ps : List Piece) (at n i skip done begin count : ℕ) (old into new piece part : List ℕ)
    → text_in (drop i ps) ≡ piece ++ text_in (drop (i + 1) ps)
    → begin ≡ min skip (length piece) → count ≡ min (length piece - begin) (n - done)
    → part ≡ take (begin + count - begin) (drop begin piece)
    → n ≤ length old → IsGathered ps at n i skip done old into
    → new ≡ take done into ++ part ++ drop (length part) (drop done into)
    → IsGathered ps at n (i + 1) (skip - begin) (done + count) old new
gathered ps at n i skip done begin count old into new piece part split from many is fits h made =
    let later = text_in (drop (i + 1) ps) in
    let left = drop (length part) (drop done into) in
    let front : List ℕ = take done into ++ part in
    let same_count : begin + count - begin ≡ count = omega arith in
    let part_is : part ≡ take count (drop begin piece) = is ∙ ap (λ m. take m (drop begin piece)) same_count in
    let size : length part ≡ count = ap length part_is ∙ length-take-le count (drop begin piece) (omega (arith, many, from, length-drop begin piece)) in
    let room : done + count ≤ n = omega (arith, many, h.room) in
    let within : done ≤ length into = omega (arith, h.long, fits, h.room) in
    let long : length front ≡ done + count = length-append (take done into) part ∙ ap₂ (λ a b. a + b) (length-take-le done into within) size in
    let less : n - done - count ≡ n - (done + count) = omega arith in
    record {
      copied = ap (λ x. x ++ take (n - (done + count)) (drop (skip - begin) later))
          (ap (take (done + count)) made ∙ subst (λ m. take m (front ++ left) ≡ front) long (take-append_seam front left))
          ∙ append_assoc (take done into) part (take (n - (done + count)) (drop (skip - begin) later))
          ∙ ap (λ x. take done into ++ x)
          (ap₂ (λ a b. a ++ b) part_is (ap (λ m. take m (drop (skip - begin) later)) (sym less))
          ∙ sym (piece_first piece later skip begin (n - done) count from many)
          ∙ ap (λ x. take (n - done) (drop skip x)) (sym split))
          ∙ h.copied;
      rest = ap (drop (done + count)) made
          ∙ (subst (λ m. drop m (front ++ left) ≡ left) long (drop-append_seam front left)
          ∙ (ap (λ m. drop m (drop done into)) size ∙ (ap (drop count) h.rest ∙ drop-drop count done old)));
      long = ap length made ∙ omega (arith, length-append front left, long, size, length-drop (length part) (drop done into), length-drop done into, room, h.long, fits);
      room = room;
    }

-- at the end all are
pub gathered_all : (ps : List Piece) (at n i skip done : ℕ) (old into : List ℕ) → length ps ≤ i → at + n ≤ length (text_in ps) → n ≤ length old
    → IsGathered ps at n i skip done old into → into ≡ take n (drop at (text_in ps)) ++ drop n old
gathered_all ps at n i skip done old into past within fits h =
    let none : text_in (drop i ps) ≡ [] = ap text_in (drop_all i ps past) in
    let asked = take n (drop at (text_in ps)) in
    let left = take (n - done) (drop skip (text_in (drop i ps))) in
    let size : length asked ≡ n = length-take-le n (drop at (text_in ps)) (omega (arith, within, length-drop at (text_in ps))) in
    let nothing : length left ≡ 0 = omega (arith, length-take (n - done) (drop skip (text_in (drop i ps))), length-drop skip (text_in (drop i ps)), ap length none) in
    let all : done ≡ n = omega (arith, size, nothing, ap length h.copied, length-append (take done into) left, length-take-le done into (omega (arith, h.long, fits, h.room))) in
    let empty : left ≡ [] = nil_from_length left nothing in
    sym (take-append-drop done into)
    ∙ ap₂ (λ a b. a ++ b)
    (sym (append-nil (take done into)) ∙ ap (λ x. take done into ++ x) (sym empty) ∙ h.copied)
    (h.rest ∙ ap (λ m. drop m old) all)

-- ---- pieces that are written

text_over-append : (ps qs : List PieceMut) → text_over (ps ++ qs) ≡ text_over ps ++ text_over qs
text_over-append [] qs = refl
text_over-append (p ∷ ps) qs = ap (λ x. p.bytes.now ++ x) (text_over-append ps qs) ∙ sym (append_assoc p.bytes.now (text_over ps) (text_over qs))

-- once `done` bytes of all were copied, those of the first i pieces
pub record IsCopied (ps : List PieceMut) (i done : ℕ) (old into : List ℕ) : Type 0 where
  pub copied : take done into ++ text_over (drop i ps) ≡ text_over ps
  pub size : done + length (text_over (drop i ps)) ≡ length (text_over ps)
  pub long : length into ≡ length old

-- a piece more
pub copied_more : (ps : List PieceMut) (i done : ℕ) (d : PieceMut) (old into new piece : List ℕ) → i < length ps → length (text_over ps) ≤ length old
    → piece ≡ (get_or ps i d).bytes.now → IsCopied ps i done old into → new ≡ take done into ++ piece ++ drop (length piece) (drop done into)
    → IsCopied ps (i + 1) (done + length piece) old new
copied_more ps i done d old into new piece l fits part h made =
    let front : List ℕ = take done into ++ piece in
    let left = drop (length piece) (drop done into) in
    let later = text_over (drop (i + 1) ps) in
    let here : length (text_over (drop i ps)) ≡ length piece + length later =
    ap length (text_from (λ (p : PieceMut). p.bytes.now) ps i d l ∙ ap (λ x. x ++ later) (sym part)) ∙ length-append piece later in
    let within : done ≤ length into = omega (arith, h.size, h.long, fits) in
    let long : length front ≡ done + length piece = length-append (take done into) piece ∙ ap (λ n. n + length piece) (length-take-le done into within) in
    record {
      copied = ap (λ x. x ++ later) (ap (take (done + length piece)) made ∙ subst (λ m. take m (front ++ left) ≡ front) long (take-append_seam front left))
          ∙ append_assoc (take done into) piece later
          ∙ ap (λ x. take done into ++ (x ++ later)) part
          ∙ ap (λ x. take done into ++ x) (sym (text_from (λ (p : PieceMut). p.bytes.now) ps i d l))
          ∙ h.copied;
      size = omega (arith, h.size, here);
      long = ap length made ∙ omega (arith, length-append front left, long, length-drop (length piece) (drop done into), length-drop done into, here, h.size, h.long, fits);
    }

-- at the end all are
pub copied_all : (ps : List PieceMut) (i done : ℕ) (old into : List ℕ) → length ps ≤ i → IsCopied ps i done old into
    → (done ≡ length (text_over ps)) × (take done into ≡ text_over ps) × (length into ≡ length old)
copied_all ps i done old into past h =
    let none : text_over (drop i ps) ≡ [] = ap text_over (drop_all i ps past) in
    (omega (arith, h.size, ap length none), sym (append-nil (take done into)) ∙ ap (λ x. take done into ++ x) (sym none) ∙ h.copied, h.long)

-- once the first i pieces have the first `done` bytes
pub record IsScattered (old : List PieceMut) (from : List ℕ) (i done : ℕ) (ps : List PieceMut) : Type 0 where
  pub made : text_over (take i ps) ≡ take done from
  pub left : drop i ps ≡ drop i old
  pub sizes : map size_of (take i ps) ≡ map size_of (take i old)
  pub size : done + length (text_over (drop i old)) ≡ length (text_over old)
  pub count : length ps ≡ length old

-- one piece more: `bytes` lie in it now
pub scattered : (old ps : List PieceMut) (from : List ℕ) (i done : ℕ) (d new : PieceMut) (bytes : List ℕ)
    → i < length ps → length from ≡ length (text_over old) → IsScattered old from i done ps → new.bytes.now ≡ bytes
    → bytes ≡ take (length (get_or ps i d).bytes.now) (drop done from)
    → IsScattered old from (i + 1) (done + length bytes) (set ps i new)
scattered old ps from i done d new bytes l all h holds part =
    let piece : PieceMut = get_or ps i d in
    let later = text_over (drop (i + 1) old) in
    let next : suc i ≡ i + 1 = omega arith in
    let within : i < length old = omega (arith, l, h.count) in
    let split : piece ∷ drop (suc i) ps ≡ get_or old i d ∷ drop (suc i) old = sym (drop-cons ps i d l) ∙ (h.left ∙ drop-cons old i d within) in
    let heads : piece ≡ get_or old i d = cc in
    let tails : drop (suc i) ps ≡ drop (suc i) old = cc in
    let here : text_over (drop i old) ≡ piece.bytes.now ++ later = text_from (λ (p : PieceMut). p.bytes.now) old i d within ∙ ap (λ p. p.bytes.now ++ later) (sym heads) in
    let total : length (text_over (drop i old)) ≡ length piece.bytes.now + length later = ap length here ∙ length-append piece.bytes.now later in
    let size : length bytes ≡ length piece.bytes.now =
    ap length part ∙ length-take-le (length piece.bytes.now) (drop done from) (omega (arith, length-drop done from, total, h.size, all)) in
    record {
      made = ap text_over (take_more_set ps i new l)
          ∙ (text_over-append (take i ps) (new ∷ [])
          ∙ (ap₂ (λ a b. a ++ b) h.made (append-nil new.bytes.now ∙ (holds ∙ (part ∙ ap (λ m. take m (drop done from)) (sym size))))
          ∙ sym (take-add done (length bytes) from)));
      left = drop-set-lt (i + 1) ps i new (omega arith) ∙ (ap (λ j. drop j ps) (sym next) ∙ (tails ∙ ap (λ j. drop j old) next));
      sizes = ap (map size_of) (take_more_set ps i new l)
          ∙ (map-append size_of (take i ps) (new ∷ [])
          ∙ (ap₂ (λ a b. a ++ b ∷ []) h.sizes (ap length holds ∙ (size ∙ ap size_of heads))
          ∙ (sym (map-append size_of (take i old) (get_or old i d ∷ [])) ∙ ap (map size_of) (sym (take_more old i d within)))));
      size = omega (arith, h.size, total, size);
      count = length-set ps i new ∙ h.count;
    }
