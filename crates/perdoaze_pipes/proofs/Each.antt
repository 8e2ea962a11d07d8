-- What one more request adds to those that were run.
use Rattle.std.proofs.Common.{◌≡◌, ℕ, suc, ◌+◌, ◌<◌, List, [], ◌∷◌, ◌++◌, length, take, drop, get_or, set, sym, ◌∙◌, ap, subst, arith}
use Rattle.std.specs.Prelude.{Option, Result}
use Rattle.std.specs.List.{AllZip}
use Rattle.std.proofs.Math.Seq.{drop-cons}
use Rattle.std.proofs.lemmas.List.{take_more, take_more_set}
use Rattle.std.proofs.lemmas.List.Elements.{AllZip-push}
use Rattle.perdoaze_calls.specs.declared.transform.Transform.{Transform}
use Rattle.perdoaze_pipes.specs.Ops.{Runs, RunsOrStays}
use Rattle.perdoaze_pipes.specs.declared.op.Op.{Op}
use Rattle.perdoaze_pipes.specs.declared.pipe_error.PipeErr.{PipeErr}

same_head : {X : Type 0} (x y : X) (xs ys : List X) → x ∷ xs ≡ y ∷ ys → x ≡ y
same_head x y xs ys e = cc

-- the next is as it was
pub next_same : {X : Type 0} (olds news : List X) (i : ℕ) (d : X) → i < length news → length news ≡ length olds → drop i news ≡ drop i olds
    → get_or news i d ≡ get_or olds i d
next_same olds news i d l n e =
    same_head (get_or news i d) (get_or olds i d) (drop (suc i) news) (drop (suc i) olds)
    (sym (drop-cons news i d l) ∙ (e ∙ drop-cons olds i d (omega arith)))

each_more : {X : Type 0} (R : X → X → Type 0) (olds news : List X) (i : ℕ) (y d : X) → i < length news → length news ≡ length olds
    → drop i news ≡ drop i olds → AllZip R (take i olds) (take i news) → R (get_or news i d) y
    → AllZip R (take (i + 1) olds) (take (i + 1) (set news i y))
each_more R olds news i y d l n e done one =
    let r : R (get_or olds i d) y = subst (λ z. R z y) (next_same olds news i d l n e) one in
    subst (λ xs. AllZip R xs (take (i + 1) (set news i y))) (sym (take_more olds i d (omega arith)))
    (subst (AllZip R (take i olds ++ get_or olds i d ∷ [])) (sym (take_more_set news i y l))
    (AllZip-push R (take i olds) (take i news) (get_or olds i d) y done r))

pub run_more : (was now : Option Transform) (olds news : List Op) (i : ℕ) (y d : Op) (r : Result Unit PipeErr) → now ≡ was
    → i < length news → length news ≡ length olds → drop i news ≡ drop i olds → AllZip (RunsOrStays was) (take i olds) (take i news)
    → Runs now (get_or news i d) y r → AllZip (RunsOrStays was) (take (i + 1) olds) (take (i + 1) (set news i y))
run_more was now olds news i y d r k l n e done one =
    each_more (RunsOrStays was) olds news i y d l n e done (r, subst (λ h. Runs h (get_or news i d) y r) k one)
