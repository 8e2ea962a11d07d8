-- When a tree that is made of others is within the limits.
use Rattle.std.proofs.Common.{ℕ, ◌≤◌, List, [], ◌∷◌, ◌++◌, length}
use Rattle.std.proofs.Common.{arith, length-append, subst, sym, append-nil}
use Rattle.alg_names.specs.Name.{Args, node, end, IsName, IsWord, IsAllowed, a_word, a_template, in_parentheses}
use Rattle.alg_names.proofs.Building.{name_spelled}

renamed : {a w : List ℕ} {ts : Args} → IsName a (node w ts) → (v : List ℕ) → IsWord v → (b : List ℕ) × IsName b (node v ts)
renamed (a_word h) v k = (v, a_word k)
renamed (a_template {w} {inner} h hs) v k = (v ++ (40 ∷ inner ++ 41 ∷ []), a_template k hs)

-- a word alone
pub word_allowed : (v : List ℕ) → IsWord v → length v ≤ 127 → IsAllowed (node v end)
word_allowed v k h = record {
  named = subst (λ a. IsName a (node v end)) (sym (append-nil v)) (a_word k);
  short = omega (arith, length-append v []);
  levels = omega arith;
  arguments = omega arith;
}

-- another word, of no greater length, before the same arguments
pub renamed_allowed : (w v : List ℕ) (ts : Args) → IsAllowed (node w ts) → IsWord v → length v ≤ length w → IsAllowed (node v ts)
renamed_allowed w v ts h k l =
    let r = renamed h.named v k in
    record {
      named = subst (λ a. IsName a (node v ts)) (name_spelled r.1) r.1;
      short = omega (arith, h.short, length-append w (in_parentheses ts), length-append v (in_parentheses ts));
      levels = h.levels;
      arguments = h.arguments;
    }
