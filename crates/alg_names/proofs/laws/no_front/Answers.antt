use Rattle.std.proofs.Common.{◌≡◌, ℕ, List, [], ◌∷◌, ◌++◌, ◌⊎◌, inl, inr, refl, ap, sym, ◌∙◌, subst, append-nil}
use Rattle.alg_names.specs.Name.{Tree, IsName, MayFollow}
use Rattle.alg_names.specs.Reader.{lost, reading, step, run, start}
use Rattle.alg_names.proofs.Complete.{place_behind, run_append, run_lost, run_name, one_tree, step_comma, step_close}
use Rattle.alg_names.proofs.laws.no_front.Goals as goal

split : (a b x y : List ℕ) → a ++ x ≡ b ++ y → ((z : List ℕ) × (b ≡ a ++ z) × (x ≡ z ++ y)) ⊎ ((z : List ℕ) × (a ≡ b ++ z) × (y ≡ z ++ x))
split [] b x y e = inl (b, refl, e)
split (h ∷ a) [] x y e = inr (h ∷ a, refl, sym e)
split (h ∷ a) (k ∷ b) x y e =
    let heads : h ≡ k = cc in
    let tails : a ++ x ≡ b ++ y = cc in
    elim (split a b x y tails) [
      | inl p ↦ inl (p.0, ap (λ c. c ∷ b) (sym heads) ∙ ap (λ v. h ∷ v) p.1, p.2)
      | inr p ↦ inr (p.0, ap (λ c. c ∷ a) heads ∙ ap (λ v. k ∷ v) p.1, p.2)
    ]

lost_behind : (t : Tree) (b : ℕ) → (b ≡ 44) ⊎ (b ≡ 41) → step (reading [] (place_behind t)) b ≡ lost
lost_behind t b (inl e) = ap (step (reading [] (place_behind t))) e ∙ step_comma [] t
lost_behind t b (inr e) = ap (step (reading [] (place_behind t))) e ∙ step_close [] t

nothing_more : (a z y : List ℕ) (t u : Tree) → IsName a t → IsName (a ++ z) u → MayFollow (z ++ y) → z ≡ []
nothing_more a [] y t u h k m = refl
nothing_more a (b ∷ z) y t u h k m =
    let e : lost ≡ reading [] (place_behind u) =
    sym (run_lost z) ∙ ap (λ r. run r z) (sym (lost_behind t b m)) ∙ ap (λ r. run r (b ∷ z)) (sym (run_name h [])) ∙ sym (run_append start a (b ∷ z)) ∙ run_name k [] in cc

one_side : (a b z x y : List ℕ) (t u : Tree) → IsName a t → IsName b u → b ≡ a ++ z → x ≡ z ++ y → MayFollow x → (a ≡ b) × (t ≡ u)
one_side a b z x y t u h k e f m =
    let none : z ≡ [] = nothing_more a z y t u h (subst (λ v. IsName v u) e k) (subst MayFollow f m) in
    let same : a ≡ b = sym (e ∙ ap (λ v. a ++ v) none ∙ append-nil a) in
    (same, one_tree (subst (λ v. IsName v t) same h) k)

pub returns : goal.returns
returns c a b x y t u h k e m n = elim (split a b x y e) [
  | inl p ↦ one_side a b p.0 x y t u h k p.1 p.2 m
  | inr p ↦ (let q : (b ≡ a) × (u ≡ t) = one_side b a p.0 y x u t k h p.1 p.2 n in (sym q.0, sym q.1))
]
