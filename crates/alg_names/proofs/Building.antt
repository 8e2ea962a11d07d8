-- A text that is a name, read in part and whole.
use Rattle.std.proofs.Common.{◌≡◌, ℕ, ◌+◌, ◌<◌, ◌≤◌, List, [], ◌∷◌, ◌++◌, length, take, drop, get_or, refl, ap, sym, ◌∙◌, subst, append-nil, length-append, Result, Ok, Err, IfOk, IfErr, arith}
use Rattle.std.proofs.lemmas.List.{take_more, take-append-drop}
use Rattle.alg_names.specs.Name.{Tree, Args, node, end, arg, IsName, IsAllowed, depth, width, spelling}
use Rattle.alg_names.specs.Reader.{Place, begins, in_word, closed, Reading, lost, reading, step, run, start, reach, wide, IsFine, IsNarrow, Reaches, HasRead, here}
use Rattle.alg_names.specs.Refusal.{IsRefusedFor, IsReadAs, IsNotDeep}
use Rattle.alg_names.specs.Drafts.{StopsAt}
use Rattle.alg_names.specs.declared.name_errors.NameErr.{NameErr}
use Rattle.alg_names.specs.declared.name_errors.NameErr.TheVariants.{TooLong, Bad, TooDeep, TooMany, Memory}
use Rattle.alg_names.proofs.Complete.{place_behind, run_append, run_lost, run_name, one_tree}
use Rattle.alg_names.proofs.Growing.{name_reaches, wide_name}
use Rattle.alg_names.proofs.Sound.{start_reads}

-- Each name is spelled as its tree says.
here_behind : (t : Tree) → here (place_behind t) ≡ spelling t
here_behind (node w end) = sym (append-nil w)
here_behind (node w (arg t ts)) = refl

pub name_spelled : {a : List ℕ} {t : Tree} → IsName a t → a ≡ spelling t
name_spelled {a} {t} h =
    let k : HasRead a (reading [] (place_behind t)) = subst (HasRead a) (run_name h []) (start_reads a) in
    k.0 ∙ here_behind t

pub allowed : (text : List ℕ) (t : Tree) → IsName text t → length text ≤ 127 → depth t ≤ 8 → width t ≤ 4 → IsAllowed t
allowed text t h hl hd hw = record {
  named = subst (λ a. IsName a t) (name_spelled h) h;
  short = omega (arith, ap length (name_spelled h));
  levels = hd;
  arguments = hw;
}

fine_core : (front rest : List ℕ) (t : Tree) (r : Reading) → IsName (front ++ rest) t → depth t ≤ 8 → length (front ++ rest) ≤ 127 → run start front ≡ r → IsFine r
fine_core front rest t lost h hd hl e =
    let k : lost ≡ reading [] (place_behind t) = sym (run_lost rest) ∙ ap (λ r. run r rest) (sym e) ∙ sym (run_append start front rest) ∙ run_name h [] in cc
fine_core front rest t (reading fs place) h hd hl e =
    let k : HasRead front (reading fs place) = subst (HasRead front) e (start_reads front) in
    let n : (reach fs place ≤ depth t) × (0 ≤ width t) = name_reaches front rest t (reach fs place) 0 h (subst (Reaches (reach fs place) 0) (sym e) (omega arith, omega arith)) in
    (k.1, k.2, omega (arith, ap length k.0, length-append front rest), omega (arith, n.0))

pub fine_front : (text : List ℕ) (i : ℕ) → IsNotDeep text → IsFine (run start (take i text))
fine_front text i h =
    let e : text ≡ take i text ++ drop i text = sym (take-append-drop i text) in
    fine_core (take i text) (drop i text) h.1 (run start (take i text)) (subst (λ a. IsName a h.1) e h.2) h.3 (subst (λ a. length a ≤ 127) e h.0) refl

pub read_more : (text : List ℕ) (i : ℕ) (r : Reading) → i < length text → r ≡ run start (take i text) → step r (get_or text i 0) ≡ run start (take (i + 1) text)
read_more text i r h e = ap (λ x. step x (get_or text i 0)) e ∙ sym (run_append start (take i text) (get_or text i 0 ∷ [])) ∙ ap (run start) (sym (take_more text i 0 h))

pub stops_refused : (e : NameErr) (text : List ℕ) (i : ℕ) → IsNotDeep text → StopsAt e (run start (take i text)) → IsRefusedFor e text
stops_refused TooLong text i h k = absurd k
stops_refused (Bad p) text i h k = absurd k
stops_refused TooDeep text i h k = absurd k
stops_refused TooMany text i h k =
    let e : text ≡ take i text ++ drop i text = sym (take-append-drop i text) in
    let n : (0 ≤ depth h.1) × (5 ≤ width h.1) = name_reaches (take i text) (drop i text) h.1 0 5 (subst (λ a. IsName a h.1) e h.2) k in
    (h.0, h.1, h.2, h.3, omega (arith, n.1))
stops_refused Memory text i h k = tt

-- ---- at the end of a name

no_place : (t : Tree) → begins ≡ place_behind t → ⊥
no_place (node w end) e = cc
no_place (node w (arg t ts)) e = cc

word_place : (t : Tree) (w : List ℕ) → in_word w ≡ place_behind t → t ≡ node w end
word_place (node w end) v e = cc
word_place (node w (arg t ts)) v e = cc

whole_place : (t u : Tree) → closed u ≡ place_behind t → t ≡ u
whole_place (node w end) u e = cc
whole_place (node w (arg t ts)) u e = cc

end_place : (text : List ℕ) (h : IsNotDeep text) (fs : List (List ℕ × Args)) (place : Place) → reading fs place ≡ run start text → reading fs place ≡ reading [] (place_behind h.1)
end_place text h fs place e = e ∙ run_name h.2 []

pub end_begins : (text : List ℕ) → IsNotDeep text → (fs : List (List ℕ × Args)) → reading fs begins ≡ run start text → ⊥
end_begins text h fs e = no_place h.1 (let k = end_place text h fs begins e in cc)

end_name : (text : List ℕ) (h : IsNotDeep text) (fs : List (List ℕ × Args)) (place : Place) (u : Tree) → h.1 ≡ u → reading fs place ≡ run start text → wide fs place ≤ 4 → IsName text u × IsAllowed u
end_name text h fs place u k e n =
    let w : IsNarrow (reading [] (place_behind h.1)) = subst IsNarrow (end_place text h fs place e) n in
    subst (λ x. IsName text x × IsAllowed x) k (h.2, allowed text h.1 h.2 h.0 h.3 (omega (arith, w, wide_name h.1)))

pub end_word : (text : List ℕ) → IsNotDeep text → (fs : List (List ℕ × Args)) (w : List ℕ) → reading fs (in_word w) ≡ run start text → wide fs (in_word w) ≤ 4 → IsName text (node w end) × IsAllowed (node w end)
end_word text h fs w e n = end_name text h fs (in_word w) (node w end) (word_place h.1 w (let k = end_place text h fs (in_word w) e in cc)) e n

pub end_whole : (text : List ℕ) → IsNotDeep text → (fs : List (List ℕ × Args)) (t : Tree) → reading fs (closed t) ≡ run start text → wide fs (closed t) ≤ 4 → IsName text t × IsAllowed t
end_whole text h fs t e n = end_name text h fs (closed t) t (whole_place h.1 t (let k = end_place text h fs (closed t) e in cc)) e n

-- ---- a name within the limits isn't refused

only_memory : (e : NameErr) (text : List ℕ) (t : Tree) → IsName text t → IsAllowed t → IsRefusedFor e text → e ≡ Memory
only_memory TooLong text t h a k = absurd (omega (arith, a.short, ap length (name_spelled h), k))
only_memory (Bad p) text t h a k = absurd (k.1 t h)
only_memory TooDeep text t h a k = absurd (omega (arith, a.levels, ap depth (one_tree h k.2), k.3))
only_memory TooMany text t h a k = absurd (omega (arith, a.arguments, ap width (one_tree h k.2), k.4))
only_memory Memory text t h a k = refl

pub read_as : (r : Result Tree NameErr) (text : List ℕ) → IfOk r (λ n. IsName text n × IsAllowed n) → IfErr r (λ e. IsRefusedFor e text) → (t : Tree) → IsName text t → IsAllowed t → IsReadAs t r
read_as (Ok n) text ok err t h a = one_tree ok.0 h
read_as (Err e) text ok err t h a = only_memory e text t h a err
