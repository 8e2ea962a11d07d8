-- what is told of an answer
use Rattle.std.specs.Prelude.{◌≡◌, ℕ, Bool, List, [], length, take, bytes_eq, Some, None, Result, MatchResult, refl}
use Rattle.std.proofs.Common.{Ok, Err, ap, sym, cond, ◌∙◌}
use Rattle.std_defs.specs.Blocks.{with_stream}
use Rattle.std_defs.specs.Gcm.{BlockFunction, gctr, gcm_text, gcm_tag, gcm_seal, gcm_open}

pub told_more : {X E : Type 0} (r : Result X E) (P Q : X → Type 0) (F : E → Type 0) → ((x : X) → P x → Q x) → MatchResult r P F → MatchResult r Q F
told_more (Ok x) P Q F f h = f x h
told_more (Err e) P Q F f h = h

pub no_text : (cipher : BlockFunction) (iv : List ℕ) → gcm_text cipher iv [] ≡ []
unfolding gcm_text gctr with_stream
no_text cipher iv = refl

pub opened_so : (cipher : BlockFunction) (iv a t full tag : List ℕ) (b : Bool) → full ≡ gcm_tag cipher iv a t → bytes_eq (take (length tag) full) tag ≡ b
    → gcm_open cipher iv a t tag ≡ cond b (Some (gcm_text cipher iv t)) None
unfolding gcm_open
opened_so cipher iv a t full tag b is same =
    ap (λ (f : List ℕ). cond (bytes_eq (take (length tag) f) tag) (Some (gcm_text cipher iv t)) None) (sym is)
    ∙ ap (λ (c : Bool). cond c (Some (gcm_text cipher iv t)) None) same

pub sealed_so : (cipher : BlockFunction) (iv a t made tag : List ℕ) → made ≡ gcm_text cipher iv t → tag ≡ gcm_tag cipher iv a made → (made, tag) ≡ gcm_seal cipher iv a t
unfolding gcm_seal
sealed_so cipher iv a t made tag is told = let both : tag ≡ gcm_tag cipher iv a (gcm_text cipher iv t) = told ∙ ap (gcm_tag cipher iv a) is in λ i. (is i, both i)
