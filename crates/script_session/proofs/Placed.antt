-- The transform of a label, by its place.
use Rattle.std.proofs.Common.{◌≡◌, ℕ, ◌+◌, List, [], ◌∷◌, ◌++◌, length, refl, sym, ap, ◌∙◌, Some, Bool, true, false, cond, arith}
use Rattle.std.specs.Prelude.{find, if◌then◌else◌, ◌==◌}
use Rattle.std.specs.List.{position_from}
use Rattle.std.specs.Str.{bytes_eq}
use Rattle.dialogues.specs.ScriptState.{Live, is_of, replaced, removed}
use Rattle.script_session.specs.States.{uses}

-- the list where the first transform of the label stands
pub record Split (label : List ℕ) (lives : List Live) (i place : ℕ) : Type 0 where
  pub before : List Live
  pub live : Live
  pub later : List Live
  pub lives_is : lives ≡ before ++ live ∷ later
  pub place_is : place ≡ i + length before
  pub is_live : is_of label live ≡ true
  pub found : find (is_of label) lives ≡ Some live
  pub replaces : (new : Live) → new.label ≡ label → replaced new lives ≡ before ++ new ∷ later
  pub removes : removed label lives ≡ before ++ later

split-first : (label : List ℕ) (x : Live) (xs : List Live) (i place : ℕ) (b : Bool) → is_of label x ≡ b
    → (position_from (is_of label) (i + 1) xs ≡ Some place → Split label xs (i + 1) place) → cond b (Some i) (position_from (is_of label) (i + 1) xs) ≡ Some place → Split label (x ∷ xs) i place
split-first label x xs i place true e go at =
    record {
      before = [];
      live = x;
      later = xs;
      lives_is = refl;
      is_live = e;
      place_is = let same : i ≡ place = cc in omega arith;
      found = ap (λ b. cond b (Some x) (find (is_of label) xs)) e;
      replaces = λ new l. ap (λ b. if b then new ∷ xs else x ∷ replaced new xs) (ap (bytes_eq x.label) l ∙ e);
      removes = ap (λ b. if b then xs else x ∷ removed label xs) e;
    }
split-first label x xs i place false e go at =
    let s = go at in
    record {
      before = x ∷ s.before;
      live = s.live;
      later = s.later;
      lives_is = ap (λ ls. x ∷ ls) s.lives_is;
      is_live = s.is_live;
      place_is = omega arith;
      found = ap (λ b. cond b (Some x) (find (is_of label) xs)) e ∙ s.found;
      replaces = λ new l. ap (λ b. if b then new ∷ xs else x ∷ replaced new xs) (ap (bytes_eq x.label) l ∙ e) ∙ ap (λ ls. x ∷ ls) (s.replaces new l);
      removes = ap (λ b. if b then xs else x ∷ removed label xs) e ∙ ap (λ ls. x ∷ ls) s.removes;
    }

pub split-at : (label : List ℕ) (lives : List Live) (i place : ℕ) → position_from (is_of label) i lives ≡ Some place → Split label lives i place
split-at label [] i place e = absurd cc
split-at label (x ∷ xs) i place e = split-first label x xs i place (is_of label x) refl (split-at label xs (i + 1) place) e

-- ---- how many stand on an entry

pub uses-split : (id : ℕ) (before later : List Live) (live : Live) → uses id (before ++ live ∷ later) ≡ cond (live.id == id) 1 0 + uses id (before ++ later)
uses-split id [] later live = refl
uses-split id (x ∷ before) later live = let h = uses-split id before later live in omega (arith, h)

-- a transform that changes stands on the same entry
pub uses-replaced : (label : List ℕ) (lives : List Live) (place id : ℕ) (new : Live) (s : Split label lives 0 place) → new.label ≡ label → new.id ≡ s.live.id → uses id lives ≡ uses id (replaced new lives)
uses-replaced label lives place id new s l i =
    ap (uses id) s.lives_is
    ∙ (uses-split id s.before s.later s.live
    ∙ (ap (λ k. cond (k == id) 1 0 + uses id (s.before ++ s.later)) (sym i) ∙ (sym (uses-split id s.before s.later new) ∙ ap (uses id) (sym (s.replaces new l)))))

pub uses-removed : (label : List ℕ) (lives : List Live) (place id : ℕ) (s : Split label lives 0 place) → uses id lives ≡ cond (s.live.id == id) 1 0 + uses id (removed label lives)
uses-removed label lives place id s =
    ap (uses id) s.lives_is ∙ (uses-split id s.before s.later s.live ∙ ap (λ n. cond (s.live.id == id) 1 0 + n) (ap (uses id) (sym s.removes)))
