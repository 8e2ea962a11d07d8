-- A pipeline is made, and with it a transform.
use Rattle.std.proofs.Common.{◌≡◌, ℕ, ◌+◌, ◌≤◌, Bool, true, false, cond, List, [], ◌∷◌, ◌++◌, length, Option, Some, None, refl, sym, ap, subst, ◌∙◌, append-nil, arith}
use Rattle.std.specs.Prelude.{◌==◌, All, sum_by}
use Rattle.std.proofs.lemmas.List.Elements.{All-nil, All-cons, All-head, All-tail, All-append}
use Rattle.std.proofs.lemmas.Bool.{eqb-true}
use Rattle.board.specs.declared.entry.BoardEntry.{BoardEntry}
use Rattle.board.specs.declared.entry.Shape.{Shape}
use Rattle.board.specs.Allowance.{accepted_by}
use Rattle.board.specs.Legal.{IsNoWorker}
use Rattle.templates.specs.declared.driver_plans.Plan.{Plan}
use Rattle.transforms.specs.declared.ask.Ask.{Ask}
use Rattle.transforms.specs.AskValue.{ask_size}
use Rattle.turn_lock.specs.Turns.{Known}
use Rattle.dialogues.specs.AllocAndFree.{new_pipe, new_live, and_live}
use Rattle.dialogues.specs.ScriptState.{ScriptState, Live, PipelineState}
use Rattle.recorded_calls.specs.Pipelines.{Opened, Owns}
use Rattle.script_session.specs.Creation.{Created}
use Rattle.script_session.specs.States.{HasPipe, PipelinesMatch, is_at, owners}
use Rattle.script_session.proofs.Changing.{IsOn, eq-swap, owners-append}

module _ (k l : Known (BoardEntry Ask)) (number : ℕ) (shape : Shape) (opened : Opened k l number shape) where
  stays : (other : Option PipelineState) → HasPipe k other → HasPipe l other
  stays None on = tt
  stays (Some other) on = opened.changed.others other (opened.fresh other on) on

  all-stay : (lives : List Live) → All (IsOn k) lives → All (IsOn l) lives
  all-stay [] all = All-nil (IsOn l)
  all-stay (x ∷ xs) all = All-cons (IsOn l) x xs (stays x.pipe (All-head (IsOn k) x xs all)) (all-stay xs (All-tail (IsOn k) x xs all))

  not-at : (other : Option PipelineState) → HasPipe k other → is_at number other ≡ false
  not-at None on = refl
  not-at (Some other) on = opened.fresh other on

  none-own : (lives : List Live) → All (IsOn k) lives → owners number lives ≡ 0
  none-own [] all = refl
  none-own (x ∷ xs) all =
      let counted : Bool → ℕ = λ t. cond t 1 0 in
      let zero : counted (is_at number x.pipe) ≡ 0 = ap counted (not-at x.pipe (All-head (IsOn k) x xs all)) in
      let rest = none-own xs (All-tail (IsOn k) x xs all) in
      omega (arith, zero, rest)

own-or-free : (t : Bool) (n : ℕ) → n ≤ 1 → (t ≡ true → n ≡ 0) → n + (cond t 1 0 + 0) ≤ 1
own-or-free true n few free = let z = free refl in omega (arith, z)
own-or-free false n few free = omega (arith, few)

-- what is known of the board is that of the state with the new transform
pub created-posted : (script_state : ScriptState) (label : List ℕ) (id : ℕ) (plan : Plan) (shape : Option Shape) (pipe : Option PipelineState) (k l : Known (BoardEntry Ask)) → PipelinesMatch script_state k → Created shape pipe k l
    → PipelinesMatch (and_live script_state (new_live label id plan pipe)) l
created-posted script_state label id plan None pipe k l posted created =
    let live : Live = new_live label id plan pipe in
    let on : HasPipe k pipe = subst (HasPipe k) (sym created.0) tt in
    subst (PipelinesMatch (and_live script_state live)) (sym created.1)
    (record {
      outsider = posted.outsider;
      legal = posted.legal;
      pipes = All-append (IsOn k) script_state.lives (live ∷ []) posted.pipes (All-cons (IsOn k) live [] on (All-nil (IsOn k)));
      apart = λ number.
          (let all = owners-append number script_state.lives (live ∷ []) in
          let counted : Option PipelineState → ℕ = λ p. cond (is_at number p) 1 0 in
          let none : counted pipe ≡ 0 = ap counted created.0 in
          let few = posted.apart number in
          let goal : owners number (script_state.lives ++ live ∷ []) ≤ 1 = omega (arith, all, none, few) in
          goal);
      owned = λ number owns.
          (let all = owners-append number script_state.lives (live ∷ []) in
          let had = posted.owned number owns in
          let goal : 1 ≤ owners number (script_state.lives ++ live ∷ []) = omega (arith, all, had) in
          goal);
      requests = posted.requests;
      bytes = posted.bytes;
      unshut = posted.unshut;
    })
created-posted script_state label id plan (Some shape) pipe k l posted created =
    let number = created.0 in
    let opened = created.2 in
    let changed = opened.changed in
    let live : Live = new_live label id plan (Some (new_pipe number shape)) in
    let free = none-own k l number shape opened script_state.lives posted.pipes in
    let same : accepted_by l.number l.seen ≡ accepted_by k.number k.seen = changed.accepted ∙ append-nil (accepted_by k.number k.seen) in
    let there : PipelinesMatch (and_live script_state live) l = record {
      outsider = subst IsNoWorker (sym changed.called.number) posted.outsider;
      legal = changed.legal;
      pipes = All-append (IsOn l) script_state.lives (live ∷ []) (all-stay k l number shape opened script_state.lives posted.pipes) (All-cons (IsOn l) live [] changed.now (All-nil (IsOn l)));
      apart = λ n.
          (let all = owners-append n script_state.lives (live ∷ []) in
          let few = own-or-free (number == n) (owners n script_state.lives) (posted.apart n) (λ same_n. ap (λ m. owners m script_state.lives) (sym (eqb-true number n same_n)) ∙ free) in
          let goal : owners n (script_state.lives ++ live ∷ []) ≤ 1 = omega (arith, all, few) in
          goal);
      owned = λ n owns. by_number n (number == n) refl owns;
      requests = ap length same ∙ posted.requests;
      bytes = ap (sum_by ask_size) same ∙ posted.bytes;
      unshut = λ zero_is. changed.unshut (sym changed.called.number ∙ zero_is) ∙ posted.unshut (sym changed.called.number ∙ zero_is);
    } in
    subst (λ p. PipelinesMatch (and_live script_state (new_live label id plan p)) l) (sym created.1) there
  where
    made : Live
    made = new_live label id plan (Some (new_pipe created.0 shape))

    by_number : (n : ℕ) (t : Bool) → (created.0 == n) ≡ t → Owns l n → 1 ≤ owners n (script_state.lives ++ made ∷ [])
    by_number n true same owns =
        let all = owners-append n script_state.lives (made ∷ []) in
        let counted : Bool → ℕ = λ t. cond t 1 0 in
        let one : counted (is_at n made.pipe) ≡ 1 = ap counted same in
        omega (arith, all, one)
    by_number n false apart owns =
        let all = owners-append n script_state.lives (made ∷ []) in
        let had = posted.owned n (created.2.changed.owned n (eq-swap created.0 n apart) owns) in
        omega (arith, all, had)
