-- What one more entry leaves of who made a pipeline, of its marks and of who submitted to it.
use Rattle.std.proofs.Common.{◌≡◌, ◌≢◌, ℕ, true, false, ◌||◌, List, [], ◌∷◌, ◌++◌, Option, Some, None, is_some, refl, sym, ◌∙◌, ap, subst, inl, inr, ◌⊎◌}
use Rattle.std.specs.Prelude.{◌^◌, ◌-◌, ◌==◌}
use Rattle.std.specs.List.{filter_map}
use Rattle.std.proofs.Math.Bool.{or-false}
use Rattle.std.proofs.lemmas.Bool.{cases_eq, or_right}
use Rattle.std.proofs.lemmas.List.Folds.{list_any-append}
use Rattle.board.specs.declared.entry.Shape.{Shape}
use Rattle.board.specs.declared.entry.BoardEntry.{BoardEntry}
use Rattle.board.specs.declared.pipeline.Pipeline.{Pipeline}
use Rattle.board.specs.declared.stage.Stage.{Stage}
use Rattle.board.specs.Shapes.{width_born}
use Rattle.board.specs.Entries.{birth, is_close, is_closed, is_share, is_shared, collected, collected_in, masked_in, mask, submitter_in, submitters, has, last_or, maker_is, IsMaker}
use Rattle.board.specs.RunQueue.{IsNoQueue}
use Rattle.board.specs.Kept.{IsKeptStage, IsKeptPipe, HasLists, lists_in, shape_of}
use Rattle.board.proofs.Lists.{filter_map-none, filter_map-some, last_or-append, has-more}
use Rattle.board.proofs.Keeping.{birth_stays}
use Rattle.board.proofs.Admitting.{queue_shape}
use Rattle.board.proofs.KeptLists.{lists_like}
use Rattle.board.proofs.Kept.{closed-same, shared-same, collected-same}

pub mask-same : {A : Type 0} (es : List (BoardEntry A)) (e : BoardEntry A) → is_some (birth es) ≡ true → masked_in e ≡ None → mask (es ++ e ∷ []) ≡ mask es
mask-same es e b m = rw (birth_stays es e b, filter_map-none masked_in es e m) refl

pub mask-new : {A : Type 0} (es : List (BoardEntry A)) (e : BoardEntry A) (m : ℕ) → masked_in e ≡ Some m → mask (es ++ e ∷ []) ≡ m
mask-new es e m h =
    ap (last_or (2 ^ width_born (birth (es ++ e ∷ [])) - 1)) (filter_map-some masked_in es e m h)
    ∙ last_or-append (2 ^ width_born (birth (es ++ e ∷ [])) - 1) (filter_map masked_in es) m

pub closed-now : {A : Type 0} (es : List (BoardEntry A)) (e : BoardEntry A) → is_close e ≡ true → is_closed (es ++ e ∷ []) ≡ true
closed-now es e h = list_any-append is_close es (e ∷ []) ∙ or_right (is_closed es) (is_close e || false) (ap (λ b. b || false) h)

pub shared-now : {A : Type 0} (es : List (BoardEntry A)) (e : BoardEntry A) → is_share e ≡ true → is_shared (es ++ e ∷ []) ≡ true
shared-now es e h = list_any-append is_share es (e ∷ []) ∙ or_right (is_shared es) (is_share e || false) (ap (λ b. b || false) h)

-- who submitted, but for the maker
noted_cases : {J O A : Type 0} (asked : J → A) (meaning : A → O) (pipe : Pipeline J O) (es : List (BoardEntry A)) (caller : ℕ) → IsKeptPipe asked meaning pipe es → caller ≢ pipe.maker → IsMaker es caller ⊎ (has caller pipe.submitters.items ≡ has caller (submitters es)) → has caller pipe.submitters.items ≡ has caller (submitters es)
noted_cases asked meaning pipe es caller k n (inl m) = absurd (n (sym (subst (λ b. maker_is b caller) k.born m)))
noted_cases asked meaning pipe es caller k n (inr e) = e

pub noted : {J O A : Type 0} (asked : J → A) (meaning : A → O) (pipe : Pipeline J O) (es : List (BoardEntry A)) (caller : ℕ) → IsKeptPipe asked meaning pipe es → IsNoQueue pipe → caller ≢ pipe.maker → has caller pipe.submitters.items ≡ has caller (submitters es)
noted asked meaning pipe es caller k q n = noted_cases asked meaning pipe es caller k n (k.submitting q caller)

-- after an entry that accepts nothing
pub noted_same : {J O A : Type 0} (asked : J → A) (meaning : A → O) (pipe : Pipeline J O) (es : List (BoardEntry A)) (e : BoardEntry A) → IsKeptPipe asked meaning pipe es → submitter_in e ≡ None → IsNoQueue pipe → (caller : ℕ) → caller ≢ pipe.maker → has caller pipe.submitters.items ≡ has caller (submitters (es ++ e ∷ []))
noted_same asked meaning pipe es e k s q caller n = noted asked meaning pipe es caller k q n ∙ ap (has caller) (sym (filter_map-none submitter_in es e s))

-- and after one that accepts a request of this caller's
pub noted_more : {J O A : Type 0} (asked : J → A) (meaning : A → O) (pipe : Pipeline J O) (es : List (BoardEntry A)) (e : BoardEntry A) (by : ℕ) (after : List ℕ) → IsKeptPipe asked meaning pipe es → submitter_in e ≡ Some by → (IsNoQueue pipe → (c : ℕ) → c ≢ pipe.maker → has c after ≡ (has c pipe.submitters.items || by == c)) → IsNoQueue pipe → (caller : ℕ) → caller ≢ pipe.maker → has caller after ≡ has caller (submitters (es ++ e ∷ []))
noted_more asked meaning pipe es e by after k s more q caller n =
    more q caller n
    ∙ (ap (λ b. b || by == caller) (noted asked meaning pipe es caller k q n)
    ∙ (ap (λ b. has caller (submitters es) || b) (sym (or-false (by == caller)))
    ∙ (sym (has-more (submitters es) by caller) ∙ ap (has caller) (sym (filter_map-some submitter_in es e by s)))))

by_cases : {J O A : Type 0} (asked : J → A) (meaning : A → O) (pipe : Pipeline J O) (es after : List (BoardEntry A)) (items : List ℕ) → IsKeptPipe asked meaning pipe es → birth after ≡ birth es → ((caller : ℕ) → caller ≢ pipe.maker → has caller items ≡ has caller (submitters after)) → (caller : ℕ) → (caller ≡ pipe.maker) ⊎ (caller ≡ pipe.maker → ⊥)
    → IsMaker after caller ⊎ (has caller items ≡ has caller (submitters after))
by_cases asked meaning pipe es after items k be su caller (inl m) = inl (subst (λ b. maker_is b caller) (sym (be ∙ k.born)) (sym m))
by_cases asked meaning pipe es after items k be su caller (inr n) = inr (su caller n)

pub made_same : {m n : ℕ} {f g : Shape} → n ≡ m → g ≡ f → ◌≡◌ {A = Option (ℕ × Shape)} (Some (m, f)) (Some (n, g))
made_same h e = rw (h, e) refl

-- a pipeline after one more entry
pub pipe_more : {J O A : Type 0} (asked : J → A) (meaning : A → O) (pipe new : Pipeline J O) (es : List (BoardEntry A)) (e : BoardEntry A) → IsKeptPipe asked meaning pipe es
    → new.maker ≡ pipe.maker → ((w : ℕ) → shape_of new.stage w ≡ shape_of pipe.stage w) → HasLists new
    → is_closed (es ++ e ∷ []) ≡ false → is_shared (es ++ e ∷ []) ≡ new.shared → mask (es ++ e ∷ []) ≡ new.mask
    → (IsNoQueue pipe → (caller : ℕ) → caller ≢ pipe.maker → has caller new.submitters.items ≡ has caller (submitters (es ++ e ∷ [])))
    → collected (es ++ e ∷ []) ≡ new.collected → IsKeptStage asked meaning new.stage new.collected (es ++ e ∷ [])
    → IsKeptPipe asked meaning new (es ++ e ∷ [])
pipe_more asked meaning pipe new es e k m s li cl sh ma su co st =
    let be = birth_stays es e (ap is_some k.born) in
    record {
      born = be ∙ (k.born ∙ made_same m (ap (λ b. shape_of new.stage (width_born b)) be ∙ s (width_born (birth es))));
      closing = cl;
      sharing = sh;
      masking = ma;
      submitting = λ q caller. by_cases asked meaning pipe es (es ++ e ∷ []) new.submitters.items k be (su (sym (queue_shape new.stage pipe.stage s) ∙ q)) caller (cases_eq caller pipe.maker);
      place = co;
      stage = st;
      lists = li;
    }

-- after an entry that leaves the marks: the stage alone is another
pub stage_more : {J O A : Type 0} (asked : J → A) (meaning : A → O) (pipe : Pipeline J O) (after : Stage J O) (es : List (BoardEntry A)) (e : BoardEntry A) → IsKeptPipe asked meaning pipe es
    → ((w : ℕ) → shape_of after w ≡ shape_of pipe.stage w) → lists_in after ≡ lists_in pipe.stage
    → is_close e ≡ false → is_share e ≡ false → masked_in e ≡ None → submitter_in e ≡ None → collected_in e ≡ None
    → IsKeptStage asked meaning after pipe.collected (es ++ e ∷ [])
    → IsKeptPipe asked meaning (record pipe { stage = after }) (es ++ e ∷ [])
stage_more asked meaning pipe after es e k s li cl sh ma su co st =
    pipe_more asked meaning pipe (record pipe { stage = after }) es e k refl s (lists_like pipe (record pipe { stage = after }) refl li s k.lists) (closed-same es e cl ∙ k.closing) (shared-same es e sh ∙ k.sharing) (mask-same es e (ap is_some k.born) ma ∙ k.masking) (noted_same asked meaning pipe es e k su) (collected-same es e co ∙ k.place) st
