-- What a scan tells of the text that it has gone over.
use Rattle.std.proofs.Common.{◌≡◌, ℕ, zero, suc, ◌+◌, ◌<◌, ◌≤◌, ◌⊎◌, inl, inr, List, [], ◌∷◌, ◌++◌, length, take, drop, get_or, refl, ap, sym, ◌∙◌, subst, length-append, arith}
use Rattle.std.proofs.lemmas.List.{take_more, take-append-drop, take_all}
use Rattle.alg_names.specs.Name.{Tree, Args, node, end, arg, IsName, IsNoName, BeginsName, IsLongestBeginning, depth}
use Rattle.alg_names.specs.Reader.{begins, in_word, closed, Reading, lost, reading, step, run, start, HasRead, opened, with_commas, here}
use Rattle.alg_names.specs.Scan.{Shows, IsAt}
use Rattle.alg_names.specs.declared.grammar.Spot.{Spot}
use Rattle.alg_names.specs.declared.grammar.Spot.TheVariants.{Begins, InWord, Closed}
use Rattle.alg_names.specs.declared.grammar.Scan.{Scan}
use Rattle.alg_names.proofs.Complete.{place_behind, run_append, run_lost, run_name, lost_begins_none, lost_none}
use Rattle.alg_names.proofs.Growing.{depth_positive}
use Rattle.alg_names.proofs.Sound.{start_reads, kept_begins, word_is_name, closed_is_name}

take_short : (i k : ℕ) (xs : List ℕ) → i ≤ k → take i (take k xs) ≡ take i xs
take_short zero k xs h = refl
take_short (suc i) zero xs h = absurd (omega (arith, h))
take_short (suc i) (suc k) [] h = refl
take_short (suc i) (suc k) (x ∷ xs) h = ap (λ ys. x ∷ ys) (take_short i k xs (omega (arith, h)))

-- Each open template takes a byte at least.
opened_long : (fs : List (List ℕ × Args)) → length fs ≤ length (opened fs)
opened_long [] = omega arith
opened_long (f ∷ fs) = omega (arith, opened_long fs, length-append (opened fs) (f.0 ++ 40 ∷ with_commas f.1), length-append f.0 (40 ∷ with_commas f.1))

read_room : (text : List ℕ) (r : Reading) (s : Scan) → HasRead text r → Shows r s → s.unclosed ≤ length text
read_room text lost s h k = absurd k
read_room text (reading fs place) s h k = omega (arith, k.0, opened_long fs, ap length h.0, length-append (opened fs) (here place))

pub shown_room : (text : List ℕ) (s : Scan) → Shows (run start text) s → s.unclosed ≤ length text
shown_room text s k = read_room text (run start text) s (start_reads text) k

pub shown_next : (text : List ℕ) (i : ℕ) (s : Scan) → i < length text → Shows (step (run start (take i text)) (get_or text i 0)) s → Shows (run start (take (i + 1) text)) s
shown_next text i s h k = subst (λ r. Shows r s) (sym (ap (run start) (take_more text i 0 h) ∙ run_append start (take i text) (get_or text i 0 ∷ []))) k

shown_kept : (text : List ℕ) (r : Reading) (s : Scan) → run start text ≡ r → Shows r s → BeginsName text
shown_kept text lost s e k = absurd k
shown_kept text (reading fs place) s e k = kept_begins text fs place e

pub shown_begins : (text : List ℕ) (s : Scan) → Shows (run start text) s → BeginsName text
shown_begins text s k = shown_kept text (run start text) s refl k

-- What is lost stays lost.
lost_longer : (text : List ℕ) (i k : ℕ) → i ≤ k → run start (take i text) ≡ lost → run start (take k text) ≡ lost
lost_longer text i k h e =
    ap (run start) (sym (take-append-drop i (take k text)) ∙ ap (λ x. x ++ drop i (take k text)) (take_short i k text h))
    ∙ run_append start (take i text) (drop i (take k text))
    ∙ ap (λ r. run r (drop i (take k text))) e
    ∙ run_lost (drop i (take k text))

pub lost_place : (text : List ℕ) (i : ℕ) (s : Scan) → i < length text → Shows (run start (take i text)) s → step (run start (take i text)) (get_or text i 0) ≡ lost → IsNoName text × IsLongestBeginning i text
lost_place text i s h k e =
    let gone : run start (take (i + 1) text) ≡ lost = ap (run start) (take_more text i 0 h) ∙ run_append start (take i text) (get_or text i 0 ∷ []) ∙ e in
    let all : run start text ≡ lost = ap (run start) (sym (take_all (length text) text (omega arith))) ∙ lost_longer text (i + 1) (length text) (omega arith) gone in
    (lost_none text all, (omega arith, shown_begins (take i text) s k, λ longer l m. lost_begins_none (take longer text) (lost_longer text (i + 1) longer (omega (arith, l)) gone)))

begun : (spot : Spot) → IsAt begins spot → spot ≡ Begins
begun Begins h = refl
begun InWord h = absurd h
begun Closed h = absurd h

-- behind a name
named_end : (text : List ℕ) (r : Reading) (s : Scan) → run start text ≡ r → Shows r s → s.unclosed ≡ 0 → (s.spot ≡ Begins → ⊥) → (t : Tree) × IsName text t × (s.levels ≡ depth t)
named_end text lost s e k z b = absurd k
named_end text (reading (f ∷ fs) place) s e k z b = absurd (omega (arith, k.0, z))
named_end text (reading [] begins) s e k z b = absurd (b (begun s.spot k.2))
named_end text (reading [] (in_word w)) s e k z b = (node w end, word_is_name text w e, omega (arith, k.1))
named_end text (reading [] (closed t)) s e k z b = (t, closed_is_name text t e, omega (arith, k.1, depth_positive t))

pub shown_name : (text : List ℕ) (s : Scan) → Shows (run start text) s → s.unclosed ≡ 0 → (s.spot ≡ Begins → ⊥) → (t : Tree) × IsName text t × (s.levels ≡ depth t)
shown_name text s k z b = named_end text (run start text) s refl k z b

behind_begins : (t : Tree) → IsAt (place_behind t) Begins → ⊥
behind_begins (node w end) h = h
behind_begins (node w (arg t ts)) h = h

pub shown_none : (text : List ℕ) (s : Scan) → Shows (run start text) s → ((s.unclosed ≡ 0 → ⊥) ⊎ (s.spot ≡ Begins)) → IsNoName text × IsLongestBeginning (length text) text
shown_none text s k h = (
  λ t name.
      let p : Shows (reading [] (place_behind t)) s = subst (λ r. Shows r s) (run_name name []) k in
      elim h [ inl z ↦ z p.0 | inr b ↦ behind_begins t (subst (IsAt (place_behind t)) b p.2) ],
  (omega arith, subst BeginsName (sym (take_all (length text) text (omega arith))) (shown_begins text s k), λ longer l m. absurd (omega arith)),
)
