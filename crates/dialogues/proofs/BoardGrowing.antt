-- The calls of a caller on the board stay as its history grows.
use Rattle.std.proofs.Common.{◌≡◌, ℕ, Bool, true, false, List, [], ◌∷◌, ◌++◌, Option, Some, None, refl, sym, ap, ◌∙◌, append_assoc, append-nil}
use Rattle.std.specs.Prelude.{if◌then◌else◌, filter}
use Rattle.board.specs.declared.entry.BoardEntry.{BoardEntry}
use Rattle.board.specs.declared.entry.BoardEntry.TheVariants as event
use Rattle.transforms.specs.declared.ask.Ask.{Ask}
use Rattle.dialogues.specs.RegistryCalls.{prepend}
use Rattle.dialogues.specs.BoardCalls.{BoardCall, is_called, board_call_of, board_calls, board_calls_from}

prepend-append : (call : Option BoardCall) (a b : List BoardCall) → prepend call (a ++ b) ≡ prepend call a ++ b
prepend-append None a b = refl
prepend-append (Some call) a b = refl

pub board_calls_from-append : (n : ℕ) (before a b : List (BoardEntry Ask)) → board_calls_from n before (a ++ b) ≡ board_calls_from n before a ++ board_calls_from n (before ++ a) b
board_calls_from-append n before [] b = ap (λ front. board_calls_from n front b) (sym (append-nil before))
board_calls_from-append n before (x ∷ a) b =
    ap (prepend (board_call_of n before x)) (board_calls_from-append n (before ++ x ∷ []) a b
    ∙ ap (λ front. board_calls_from n (before ++ x ∷ []) a ++ board_calls_from n front b) (append_assoc before (x ∷ []) a))
    ∙ prepend-append (board_call_of n before x) _ _

pub board_calls-append : (n : ℕ) (h more : List (BoardEntry Ask)) → board_calls n (h ++ more) ≡ board_calls n h ++ board_calls_from n h more
unfolding board_calls
board_calls-append n h more = board_calls_from-append n [] h more

-- ---- where the caller called nothing

if-other : (b : Bool) (call : BoardCall) → b ≡ false → (if b then Some call else None) ≡ None
if-other true call e = absurd cc
if-other false call e = refl

no-call : (n : ℕ) (before : List (BoardEntry Ask)) (e : BoardEntry Ask) → is_called n e ≡ false → board_call_of n before e ≡ None
no-call n before (event.Born by pipe shape) e = if-other _ _ e
no-call n before (event.Submit by pipe number ask) e = if-other _ _ e
no-call n before (event.Enq by pipe ask backlog answer) e = if-other _ _ e
no-call n before (event.Hold by pipe) e = if-other _ _ e
no-call n before (event.Go by pipe) e = if-other _ _ e
no-call n before (event.Collect by pipe to) e = if-other _ _ e
no-call n before (event.Close by pipe) e = if-other _ _ e
no-call n before (event.Share by pipe) e = if-other _ _ e
no-call n before (event.Mask by pipe mask) e = if-other _ _ e
no-call n before (event.Shut by) e = if-other _ _ e
no-call n before (event.Take by pipe number) e = refl
no-call n before (event.Finish by pipe number) e = refl
no-call n before (event.Deq by pipe number started) e = refl
no-call n before (event.Done by pipe number) e = refl

none-pass : {E : Type 0} → (b : Bool) (x : E) (xs : List E) → (if b then x ∷ xs else xs) ≡ [] → (b ≡ false) × (xs ≡ [])
none-pass true x xs e = absurd cc
none-pass false x xs e = (refl, e)

pub none-called : (n : ℕ) (before more : List (BoardEntry Ask)) → filter (is_called n) more ≡ [] → board_calls_from n before more ≡ []
none-called n before [] none = refl
none-called n before (next ∷ later) none =
    let rest = none-pass (is_called n next) next (filter (is_called n) later) none in
    ap (λ call. prepend call (board_calls_from n (before ++ next ∷ []) later)) (no-call n before next rest.0) ∙ none-called n (before ++ next ∷ []) later rest.1
