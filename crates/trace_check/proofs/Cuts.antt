-- Lines of a text.
use Rattle.std.proofs.Common.{◌≡◌, ℕ, ◌≤◌, true, not, List, [], ◌∷◌, ◌++◌, length, refl, sym, ◌∙◌, subst, arith, append_assoc}
use Rattle.std.specs.Prelude.{◌==◌}
use Rattle.std.specs.List.{list_all, flat_map}
use Rattle.std.proofs.lemmas.Bool.{and_parts}
use Rattle.trace_check.specs.TraceReader.{IsOneLine}

-- Lines, each with a line feed behind it.
abbrev pub fed : List ℕ → List ℕ
fed line = line ++ 10 ∷ []

abbrev pub text_of : List (List ℕ) → List ℕ
text_of lines = flat_map fed lines

abbrev pub AreLines : List (List ℕ) → Type 0
AreLines lines = list_all (list_all (λ b. not (b == 10))) lines ≡ true

-- two texts that begin with a line are alike where they begin alike
pub record SameCut (a b x y : List ℕ) : Type 0 where
  pub line : a ≡ b
  pub rest : x ≡ y

no_feed : (b : ℕ) → not (b == 10) ≡ true → b ≡ 10 → ⊥
no_feed b h e = (let f : not (10 == 10) ≡ true = subst (λ n. not (n == 10) ≡ true) e h in cc)

pub same_cut : (a b x y : List ℕ) → IsOneLine a → IsOneLine b → a ++ 10 ∷ x ≡ b ++ 10 ∷ y → SameCut a b x y
same_cut [] [] x y p q e = record { line = refl; rest = (let h : x ≡ y = cc in h) }
same_cut [] (c ∷ b) x y p q e = absurd (no_feed c (and_parts (not (c == 10)) (list_all (λ d. not (d == 10)) b) q).0 (let h : 10 ≡ c = cc in sym h))
same_cut (c ∷ a) [] x y p q e = absurd (no_feed c (and_parts (not (c == 10)) (list_all (λ d. not (d == 10)) a) p).0 (let h : c ≡ 10 = cc in h))
same_cut (c ∷ a) (d ∷ b) x y p q e =
    let h : c ≡ d = cc in
    let t : a ++ 10 ∷ x ≡ b ++ 10 ∷ y = cc in
    let r = same_cut a b x y (and_parts (not (c == 10)) (list_all (λ k. not (k == 10)) a) p).1 (and_parts (not (d == 10)) (list_all (λ k. not (k == 10)) b) q).1 t in
    let l = r.line in
    record { line = (let g : c ∷ a ≡ d ∷ b = cc in g); rest = r.rest }

pub feed_then : (line more : List ℕ) → fed line ++ more ≡ line ++ 10 ∷ more
feed_then line more = append_assoc line (10 ∷ []) more

-- a text that begins with these lines and also with one more of those: they are the same, and then comes that line
pub record NextLine (ls : List (List ℕ)) (x : List ℕ) (ms : List (List ℕ)) (line y : List ℕ) : Type 0 where
  pub lines : ls ≡ ms
  pub rest : x ≡ fed line ++ y

pub next_line : (ls ms : List (List ℕ)) (line x y : List ℕ) → AreLines ls → AreLines ms → length ls ≡ length ms → text_of ls ++ x ≡ text_of ms ++ (fed line ++ y) → NextLine ls x ms line y
next_line [] [] line x y p q n e = record { lines = refl; rest = e }
next_line [] (m ∷ ms) line x y p q n e = absurd (omega arith)
next_line (l ∷ ls) [] line x y p q n e = absurd (omega arith)
next_line (l ∷ ls) (m ∷ ms) line x y p q n e =
    let pl = and_parts (list_all (λ b. not (b == 10)) l) (list_all (list_all (λ b. not (b == 10))) ls) p in
    let qm = and_parts (list_all (λ b. not (b == 10)) m) (list_all (list_all (λ b. not (b == 10))) ms) q in
    let left : (fed l ++ text_of ls) ++ x ≡ l ++ 10 ∷ (text_of ls ++ x) = append_assoc (fed l) (text_of ls) x ∙ feed_then l (text_of ls ++ x) in
    let right : (fed m ++ text_of ms) ++ (fed line ++ y) ≡ m ++ 10 ∷ (text_of ms ++ (fed line ++ y)) = append_assoc (fed m) (text_of ms) (fed line ++ y) ∙ feed_then m (text_of ms ++ (fed line ++ y)) in
    let c = same_cut l m (text_of ls ++ x) (text_of ms ++ (fed line ++ y)) pl.0 qm.0 (sym left ∙ (e ∙ right)) in
    let r = next_line ls ms line x y pl.1 qm.1 (omega arith) c.rest in
    let a = c.line in let b = r.lines in
    record { lines = (let g : l ∷ ls ≡ m ∷ ms = cc in g); rest = r.rest }

pub some_fed : (line more : List ℕ) → fed line ++ more ≡ [] → ⊥
some_fed [] more e = cc
some_fed (c ∷ line) more e = cc

-- a text of no more lines than these has nothing behind them
pub none_behind : (ls ms : List (List ℕ)) (x : List ℕ) → AreLines ls → AreLines ms → length ms ≤ length ls → text_of ls ++ x ≡ text_of ms → x ≡ []
none_behind [] [] x p q n e = e
none_behind [] (m ∷ ms) x p q n e = absurd (omega arith)
none_behind (l ∷ ls) [] x p q n e = absurd (some_fed l (text_of ls ++ x) (sym (append_assoc (fed l) (text_of ls) x) ∙ e))
none_behind (l ∷ ls) (m ∷ ms) x p q n e =
    let pl = and_parts (list_all (λ b. not (b == 10)) l) (list_all (list_all (λ b. not (b == 10))) ls) p in
    let qm = and_parts (list_all (λ b. not (b == 10)) m) (list_all (list_all (λ b. not (b == 10))) ms) q in
    let left : (fed l ++ text_of ls) ++ x ≡ l ++ 10 ∷ (text_of ls ++ x) = append_assoc (fed l) (text_of ls) x ∙ feed_then l (text_of ls ++ x) in
    let c = same_cut l m (text_of ls ++ x) (text_of ms) pl.0 qm.0 (sym left ∙ (e ∙ feed_then m (text_of ms))) in
    none_behind ls ms x pl.1 qm.1 (omega arith) c.rest
