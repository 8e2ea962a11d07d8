-- What the collects of a pipeline handed out.
use Rattle.std.proofs.Common.{◌≡◌, ℕ, zero, suc, ◌<◌, ◌≤◌, true, List, [], ◌∷◌, ◌++◌, length, take, refl, sym, ◌∙◌, ap, subst, arith, zero-add, inl, inr, ◌⊎◌, append-nil}
use Rattle.std.specs.List.{filter_map}
use Rattle.std.proofs.lemmas.Bool.{cases_lt}
use Rattle.std.proofs.lemmas.List.{take-append-le, take_all}
use Rattle.std.proofs.Math.Seq.{take-length}
use Rattle.board.specs.declared.entry.BoardEntry.{BoardEntry}
use Rattle.board.specs.declared.entry.BoardEntry.TheVariants.{Collect}
use Rattle.board.specs.Entries.{Notice, Starts, Completes, submissions, finished, has, front, told, collected_in, collected, last_or}
use Rattle.board.specs.Order.{handed_out, AreRightForAfter, AreAllFinished, completed, numbers_below}
use Rattle.board.proofs.Lists.{filter_map-some, last_or-append, length-numbers}
use Rattle.board.proofs.Fronts.{unbroken-all}
use Rattle.board.proofs.Transfer.{right_last}
use Rattle.board.proofs.Keeping.{orderly, told-more, front-same}

-- the completions of a front are a front of the completions
completed_front : (c : ℕ) (ns : List Notice) → (k : ℕ) × (k ≤ length (completed ns)) × (completed (take c ns) ≡ take k (completed ns))
completed_front zero [] = (0, omega arith, refl)
completed_front zero (n ∷ ns) = (0, omega arith, refl)
completed_front (suc c) [] = (0, omega arith, refl)
completed_front (suc c) (Starts n ∷ ns) = completed_front c ns
completed_front (suc c) (Completes n ∷ ns) = (let r = completed_front c ns in let l = r.1 in (suc r.0, omega arith, ap (λ xs. n ∷ xs) r.2))

front_cases : (k m : ℕ) → k ≤ suc m → (k < suc m) ⊎ (suc m ≤ k) → (k ≤ m → take k (numbers_below m) ≡ numbers_below k) → take k (numbers_below m ++ m ∷ []) ≡ numbers_below k
front_cases k m l (inl s) ih =
    let n = length-numbers m in
    let le : k ≤ length (numbers_below m) = omega arith in
    take-append-le k (numbers_below m) (m ∷ []) le ∙ ih (omega arith)
front_cases k m l (inr g) ih =
    let e : k ≡ suc m = omega arith in
    let n = length-numbers (suc m) in
    rw e (take_all (suc m) (numbers_below (suc m)) (omega arith))

front_below : (k m : ℕ) → k ≤ m → take k (numbers_below m) ≡ numbers_below k
front_below k zero l = (let e : k ≡ 0 = omega arith in rw e refl)
front_below k (suc m) l = front_cases k m l (cases_lt k (suc m)) (front_below k m)

-- what was handed out completes 0, 1, 2 and so on, up to the front at most
handed : {A : Type 0} (es : List (BoardEntry A)) → AreRightForAfter [] es → (k : ℕ) × (k ≤ front es) × (completed (handed_out es) ≡ numbers_below k)
handed es r =
    let o = (orderly es r).telling in
    let f = completed_front (collected es) (told es) in
    let m : length (completed (told es)) ≡ front es = ap length o.said ∙ length-numbers (front es) in
    let l = f.1 in
    let le : f.0 ≤ front es = omega arith in
    (f.0, le, ap completed o.front_of ∙ (f.2 ∙ (ap (take f.0) o.said ∙ front_below f.0 (front es) le)))

pub handed_in_order : {A : Type 0} (es : List (BoardEntry A)) → AreRightForAfter [] es → completed (handed_out es) ≡ numbers_below (length (completed (handed_out es)))
handed_in_order es r = (let h = handed es r in h.2 ∙ ap numbers_below (sym (ap length h.2 ∙ length-numbers h.0)))

pub handed_below : {A : Type 0} (es : List (BoardEntry A)) → AreRightForAfter [] es → length (completed (handed_out es)) ≤ front es
handed_below es r = (let h = handed es r in let l = h.1 in let e : length (completed (handed_out es)) ≡ h.0 = ap length h.2 ∙ length-numbers h.0 in omega arith)

-- a collect after which all is finished hands out the rest
pub all_out : {A : Type 0} (es : List (BoardEntry A)) (caller pipe to : ℕ) → AreRightForAfter [] (es ++ Collect caller pipe to ∷ []) → AreAllFinished es → completed (handed_out (es ++ Collect caller pipe to ∷ [])) ≡ numbers_below (length (submissions es))
all_out {A} es caller pipe to r all =
    let e : BoardEntry A = Collect caller pipe to in
    let o = (orderly (es ++ e ∷ []) r).telling in
    let right = right_last [] es e r in
    let te : told (es ++ e ∷ []) ≡ told es = told-more es e ∙ append-nil (told es) in
    let ce : collected (es ++ e ∷ []) ≡ to = ap (last_or 0) (filter_map-some collected_in es e to refl) ∙ last_or-append 0 (filter_map collected_in es) to in
    let whole : take (collected (es ++ e ∷ [])) (told (es ++ e ∷ [])) ≡ told (es ++ e ∷ []) = ap (λ n. take n (told (es ++ e ∷ []))) (ce ∙ (right.2 ∙ sym (ap length te))) ∙ take-length (told (es ++ e ∷ [])) in
    let f : front es ≡ length (submissions es) = unbroken-all (finished es) 0 (length (submissions es)) (λ i l. subst (λ m. has m (finished es) ≡ true) (sym (zero-add i)) (all i l)) in
    ap completed (o.front_of ∙ whole) ∙ (o.said ∙ ap numbers_below (front-same es e refl refl ∙ f))
