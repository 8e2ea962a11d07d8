-- What a draft may go on to.
use Rattle.std.proofs.Common.{◌≡◌, ℕ, ◌<◌, ◌≤◌, Bool, true, false, cond, eqb, List, [], ◌∷◌, ◌++◌, length, map, reverse, ◌⊎◌, inl, inr, refl, ap, sym, ◌∙◌, subst, length-append, arith}
use Rattle.std.proofs.lemmas.List.{reverse-append, map-append}
use Rattle.alg_names.specs.Name.{Tree, Args, node, end, arg, count, width, widest, spelling, IsAllowed}
use Rattle.alg_names.specs.Built.{args_from}
use Rattle.alg_names.specs.Reader.{joined, reading, lost, closed, begins, in_word, behind_name, opened, wide, wide_open, IsFine, Reaches}
use Rattle.alg_names.specs.declared.draft.Template.{Template}
use Rattle.alg_names.specs.Drafts.{frame_of, frames, StopsAt}
use Rattle.alg_names.specs.declared.name_errors.NameErr.{NameErr}
use Rattle.alg_names.specs.declared.name_errors.NameErr.TheVariants.{TooMany, Memory}
use Rattle.std.proofs.lemmas.Bool.{eqb-true}
use Rattle.alg_names.proofs.Growing.{count_joined, widest_joined}
use Rattle.alg_names.proofs.Sound.{node_spelled}

pub count-args_from : (xs : List Tree) → count (args_from xs) ≡ length xs
count-args_from [] = refl
count-args_from (x ∷ xs) = omega (arith, count-args_from xs)

pub args_from-push : (xs : List Tree) (t : Tree) → args_from (xs ++ t ∷ []) ≡ joined (args_from xs) (arg t end)
args_from-push [] t = refl
args_from-push (x ∷ xs) t = ap (arg x) (args_from-push xs t)

pub frames-push : (ts : List Template) (t : Template) → frames (ts ++ t ∷ []) ≡ frame_of t ∷ frames ts
frames-push ts t = ap reverse (map-append frame_of ts (t ∷ [])) ∙ reverse-append (map frame_of ts) (frame_of t ∷ [])

-- A word alone is within the limits.
pub word_allowed : (fs : List (List ℕ × Args)) (w : List ℕ) → IsFine (reading fs (in_word w)) → IsAllowed (node w end)
word_allowed fs w h = record {
  named = node_spelled w end h.1 tt;
  short = omega (arith, h.2, length-append (opened fs) w, length-append w []);
  levels = omega arith;
  arguments = omega arith;
}

-- A template that is closed is.
pub template_allowed : (fs : List (List ℕ × Args)) (w : List ℕ) (ts : Args) (t : Tree)
    → IsFine (reading fs (closed (node w (joined ts (arg t end))))) → count ts < 4 → widest ts ≤ 4 → width t ≤ 4 → IsAllowed (node w (joined ts (arg t end)))
template_allowed fs w ts t h hc hw ht = record {
  named = h.1;
  short = omega (arith, h.2, length-append (opened fs) (spelling (node w (joined ts (arg t end)))));
  levels = omega (arith, h.3);
  arguments = omega (arith, count_joined ts t, widest_joined ts t);
}

-- ---- behind a whole name

many_stops : (c k : Bool) (f : List ℕ × Args) (fs : List (List ℕ × Args)) (t : Tree) → 4 ≤ count f.1
    → Reaches 0 5 (cond c (reading ((f.0, joined f.1 (arg t end)) ∷ fs) begins) (cond k (reading fs (closed (node f.0 (joined f.1 (arg t end))))) lost))
many_stops true k f fs t h = (omega arith, omega (arith, count_joined f.1 t))
many_stops false true f fs t h = (omega arith, omega (arith, count_joined f.1 t))
many_stops false false f fs t h = tt

stops_core : (e : NameErr) (f : List ℕ × Args) (fs : List (List ℕ × Args)) (t : Tree) (b : ℕ) → (e ≡ Memory) ⊎ ((e ≡ TooMany) × (4 ≤ count f.1)) → StopsAt e (behind_name (f ∷ fs) t b)
stops_core e f fs t b (inl h) = subst (λ x. StopsAt x (behind_name (f ∷ fs) t b)) (sym h) tt
stops_core e f fs t b (inr h) = subst (λ x. StopsAt x (behind_name (f ∷ fs) t b)) (sym h.0) (many_stops (eqb b 44) (eqb b 41) f fs t h.1)

frames_popped : (ts rest : List Template) (t : Template) → ts ≡ rest ++ t ∷ [] → frames ts ≡ frame_of t ∷ frames rest
frames_popped ts rest t e = ap frames e ∙ frames-push rest t

pub behind_stops : (e : NameErr) (ts rest : List Template) (t0 : Template) (t : Tree) (b : ℕ) → ts ≡ rest ++ t0 ∷ [] → (e ≡ Memory) ⊎ ((e ≡ TooMany) × (4 ≤ count (args_from t0.arguments.items))) → StopsAt e (behind_name (frames ts) t b)
behind_stops e ts rest t0 t b p h = subst (λ fs. StopsAt e (behind_name fs t b)) (sym (frames_popped ts rest t0 p)) (stops_core e (frame_of t0) (frames rest) t b h)

frame_equal : (t : Template) (w : List ℕ) (a : Args) → t.word ≡ w → args_from t.arguments.items ≡ a → frame_of t ≡ (w, a)
frame_equal t w a e k = ap (λ x. (x, args_from t.arguments.items)) e ∙ ap (λ x. (w, x)) k

comma_core : (f : List ℕ × Args) (fs : List (List ℕ × Args)) (t : Tree) → count f.1 < 4 → wide_open (f ∷ fs) ≤ 4 → width t ≤ 4 → wide ((f.0, joined f.1 (arg t end)) ∷ fs) begins ≤ 4
comma_core f fs t hc hn ht = omega (arith, count_joined f.1 t, widest_joined f.1 t)

pub comma_behind : (ts rest new : List Template) (t0 t1 : Template) (t : Tree) (b : ℕ) → ts ≡ rest ++ t0 ∷ [] → new ≡ rest ++ t1 ∷ []
    → t1.word ≡ t0.word → args_from t1.arguments.items ≡ joined (args_from t0.arguments.items) (arg t end) → b ≡ 44 → count (args_from t0.arguments.items) < 4 → wide_open (frames ts) ≤ 4 → width t ≤ 4
    → (reading (frames new) begins ≡ behind_name (frames ts) t b) × (wide (frames new) begins ≤ 4)
comma_behind ts rest new t0 t1 t b p q e0 e1 hb hc hn ht =
    let was : frames ts ≡ frame_of t0 ∷ frames rest = frames_popped ts rest t0 p in
    let is : frames new ≡ (t0.word, joined (args_from t0.arguments.items) (arg t end)) ∷ frames rest = frames_popped new rest t1 q ∙ ap (λ f. f ∷ frames rest) (frame_equal t1 t0.word (joined (args_from t0.arguments.items) (arg t end)) e0 e1) in (
      ap (λ fs. reading fs begins) is ∙ sym (ap (λ fs. behind_name fs t b) was ∙ ap (behind_name (frame_of t0 ∷ frames rest) t) hb),
      subst (λ fs. wide fs begins ≤ 4) (sym is) (comma_core (frame_of t0) (frames rest) t hc (subst (λ fs. wide_open fs ≤ 4) was hn) ht),
    )

close_cases : (c k : Bool) (f : List ℕ × Args) (fs : List (List ℕ × Args)) (t : Tree) → (c ≡ true → ⊥)
    → IsFine (cond c (reading ((f.0, joined f.1 (arg t end)) ∷ fs) begins) (cond k (reading fs (closed (node f.0 (joined f.1 (arg t end))))) lost))
    → cond c (reading ((f.0, joined f.1 (arg t end)) ∷ fs) begins) (cond k (reading fs (closed (node f.0 (joined f.1 (arg t end))))) lost) ≡ reading fs (closed (node f.0 (joined f.1 (arg t end))))
close_cases true k f fs t h g = absurd (h refl)
close_cases false true f fs t h g = refl
close_cases false false f fs t h g = absurd g

close_core : (f : List ℕ × Args) (fs : List (List ℕ × Args)) (t : Tree) (b : ℕ) → (b ≡ 44 → ⊥) → IsFine (behind_name (f ∷ fs) t b) → behind_name (f ∷ fs) t b ≡ reading fs (closed (node f.0 (joined f.1 (arg t end))))
close_core f fs t b h g = close_cases (eqb b 44) (eqb b 41) f fs t (λ e. h (eqb-true b 44 e)) g

close_wide : (f : List ℕ × Args) (fs : List (List ℕ × Args)) (t : Tree) → count f.1 < 4 → wide_open (f ∷ fs) ≤ 4 → width t ≤ 4 → wide fs (closed (node f.0 (joined f.1 (arg t end)))) ≤ 4
close_wide f fs t hc hn ht = omega (arith, count_joined f.1 t, widest_joined f.1 t)

pub close_behind : (ts rest : List Template) (t0 : Template) (w : List ℕ) (a : Args) (t : Tree) (b : ℕ) → ts ≡ rest ++ t0 ∷ []
    → w ≡ t0.word → a ≡ joined (args_from t0.arguments.items) (arg t end) → (b ≡ 44 → ⊥) → IsFine (behind_name (frames ts) t b) → count (args_from t0.arguments.items) < 4 → wide_open (frames ts) ≤ 4 → width t ≤ 4
    → IsAllowed (node w a) × (reading (frames rest) (closed (node w a)) ≡ behind_name (frames ts) t b) × (wide (frames rest) (closed (node w a)) ≤ 4)
close_behind ts rest t0 w a t b p e0 e1 hb fine hc hn ht =
    let was : frames ts ≡ frame_of t0 ∷ frames rest = frames_popped ts rest t0 p in
    let is : node w a ≡ node t0.word (joined (args_from t0.arguments.items) (arg t end)) = ap (λ x. node x a) e0 ∙ ap (node t0.word) e1 in
    let fine' : IsFine (behind_name (frame_of t0 ∷ frames rest) t b) = subst (λ fs. IsFine (behind_name fs t b)) was fine in
    let got = close_core (frame_of t0) (frames rest) t b hb fine' in
    let narrow : wide_open (frame_of t0 ∷ frames rest) ≤ 4 = subst (λ fs. wide_open fs ≤ 4) was hn in (
      subst IsAllowed (sym is) (template_allowed (frames rest) t0.word (args_from t0.arguments.items) t (subst IsFine got fine') hc (omega arith) ht),
      ap (λ u. reading (frames rest) (closed u)) is ∙ sym (ap (λ fs. behind_name fs t b) was ∙ got),
      subst (λ u. wide (frames rest) (closed u) ≤ 4) (sym is) (close_wide (frame_of t0) (frames rest) t hc narrow ht),
    )
