-- Calls of a caller in turn, one by one.
use Rattle.std.proofs.Common.{◌≡◌, ℕ, true, false, List, [], ◌∷◌, ◌++◌, refl, ap, sym, ◌∙◌, Some, None, subst, append-nil, append_assoc, eq-eqb}
use Rattle.std.specs.Prelude.{filter, if◌then◌else◌}
use Rattle.std.proofs.lemmas.List.Elements.{filter-append}
use Rattle.alg_registry.specs.declared.entry.RegEntry.{RegEntry}
use Rattle.alg_registry.specs.declared.entry.RegEntry.TheVariants.{Look}
use Rattle.templates.specs.LookResults.{LooksFor, Found, found_in, is_asked}
use Rattle.dialogues.specs.RegistryCalls.{RegCall, Looks, reg_call_of, reg_calls, reg_calls_from, prepend, is_settled, AllSettled}
use Rattle.dialogues.specs.InTurn.{IsMade, AsksNothing, AreInTurn, AreMade, AreCalls}
use Rattle.dialogues.proofs.RegistryGrowing.{reg_calls-append, reg_calls_from-append, none-asked}

pub no_call : (caller : ℕ) (r : List RegEntry) → AreInTurn caller [] r r
no_call caller r = ([], sym (append-nil r), refl)

-- a call of one entry
pub one_entry : (caller : ℕ) (call : RegCall) (r r' : List RegEntry) (e : RegEntry) → r' ≡ r ++ e ∷ [] → reg_call_of r' caller r e ≡ Some call → is_settled call ≡ true → AreInTurn caller (call ∷ []) r r'
one_entry caller call r r' e grown is settles = (
  r',
  record {
    before = [];
    entry = e;
    after = [];
    history = grown ∙ (ap (λ h. h ++ e ∷ []) (sym (append-nil r)) ∙ sym (append-nil ((r ++ []) ++ e ∷ [])));
    call_is = ap (λ h. reg_call_of r' caller h e) (append-nil r) ∙ is;
    settled = settles;
    none_before = refl;
    none_after = refl;
  },
  no_call caller r',
)

-- a look, and what it came to
pub one_look : (caller : ℕ) (r r' : List RegEntry) (text : List ℕ) (found : Found) → LooksFor r r' caller text false found → AreInTurn caller (Looks text (Some found) ∷ []) r r'
one_look caller r r' text found look = (
  r',
  record {
    before = [];
    entry = Look caller text false look.answer;
    after = look.work;
    history = look.history ∙ (sym (append_assoc r (Look caller text false look.answer ∷ []) look.work) ∙ ap (λ h. (h ++ Look caller text false look.answer ∷ []) ++ look.work) (sym (append-nil r)));
    call_is = ap (λ own. if own then Some (Looks text (found_in r' look.answer)) else None) (eq-eqb caller caller refl) ∙ ap (λ f. Some (Looks text f)) look.found_is;
    settled = refl;
    none_before = refl;
    none_after = look.all_work;
  },
  no_call caller r',
)

-- what came before the first call
pub waits_first : (caller : ℕ) (calls : List RegCall) (r m r' : List RegEntry) → AsksNothing caller r m → AreInTurn caller calls m r' → AreInTurn caller calls r r'
waits_first caller [] r m r' waits takes = (
  waits.0 ++ takes.0,
  takes.1 ∙ (ap (λ h. h ++ takes.0) waits.1 ∙ append_assoc r waits.0 takes.0),
  filter-append (is_asked caller) waits.0 takes.0 ∙ (ap (λ xs. xs ++ filter (is_asked caller) takes.0) waits.2 ∙ takes.2),
)
waits_first caller (call ∷ calls) r m r' waits takes =
    let t = takes.1 in (
      takes.0,
      record {
        before = waits.0 ++ t.before;
        entry = t.entry;
        after = t.after;
        history = t.history ∙ ap (λ h. (h ++ t.entry ∷ []) ++ t.after) (ap (λ h. h ++ t.before) waits.1 ∙ append_assoc r waits.0 t.before);
        call_is = ap (λ h. reg_call_of takes.0 caller h t.entry) (sym (append_assoc r waits.0 t.before) ∙ ap (λ h. h ++ t.before) (sym waits.1)) ∙ t.call_is;
        settled = t.settled;
        none_before = filter-append (is_asked caller) waits.0 t.before ∙ (ap (λ xs. xs ++ filter (is_asked caller) t.before) waits.2 ∙ t.none_before);
        none_after = t.none_after;
      },
      takes.2,
    )

-- calls after calls
pub one_after : (caller : ℕ) (calls later : List RegCall) (r m r' : List RegEntry) → AreInTurn caller calls r m → AreInTurn caller later m r' → AreInTurn caller (calls ++ later) r r'
one_after caller [] later r m r' takes rest = waits_first caller later r m r' takes rest
one_after caller (call ∷ calls) later r m r' takes rest = (takes.0, takes.1, one_after caller calls later takes.0 m r' takes.2 rest)

-- ---- what such calls are to the history

pub AllSettled-append : (a b : List RegCall) → AllSettled a → AllSettled b → AllSettled (a ++ b)
AllSettled-append [] b x y = y
AllSettled-append (call ∷ a) b x y = (x.0, AllSettled-append a b x.1 y)

pub nothing-are : (n : ℕ) (r r' : List RegEntry) → AllSettled (reg_calls n r) → AsksNothing n r r' → AreCalls n [] r r'
nothing-are n r r' settled none =
    let same : reg_calls n r' ≡ reg_calls n r ++ [] =
    ap (reg_calls n) none.1
    ∙ (reg_calls-append n r none.0 settled ∙ ap (λ cs. reg_calls n r ++ cs) (none-asked (r ++ none.0) n r none.0 none.2)) in
    record {
      more = none.0;
      goes_on = none.1;
      calls_are = same;
      settled = tt;
      all_settled = subst AllSettled (sym same) (AllSettled-append (reg_calls n r) [] settled tt);
    }

-- one call is made as several are
pub made-alone : (n : ℕ) (call : RegCall) (r r' : List RegEntry) → IsMade n call r r' → AreMade n (call ∷ []) r r'
made-alone n call r r' made =
    let b = made.before in
    let e = made.entry in
    let a = made.after in
    record {
      more = b ++ e ∷ a;
      history = made.history ∙ (append_assoc (r ++ b) (e ∷ []) a ∙ append_assoc r b (e ∷ a));
      calls_are =
          reg_calls_from-append r' n r b (e ∷ a)
          ∙ (ap (λ cs. cs ++ reg_calls_from r' n (r ++ b) (e ∷ a)) (none-asked r' n r b made.none_before)
          ∙ (ap (λ c. prepend c (reg_calls_from r' n ((r ++ b) ++ e ∷ []) a)) made.call_is
          ∙ ap (λ cs. call ∷ cs) (none-asked r' n ((r ++ b) ++ e ∷ []) a made.none_after)));
      settled = (made.settled, tt);
    }

pub made-are : (n : ℕ) (calls : List RegCall) (r r' : List RegEntry) → AllSettled (reg_calls n r) → AreMade n calls r r' → AreCalls n calls r r'
made-are n calls r r' settled made =
    let are : reg_calls n r' ≡ reg_calls n r ++ calls =
    ap (reg_calls n) made.history
    ∙ (reg_calls-append n r made.more settled
    ∙ ap (λ cs. reg_calls n r ++ cs) (ap (λ h. reg_calls_from h n r made.more) (sym made.history) ∙ made.calls_are)) in
    record {
      more = made.more;
      goes_on = made.history;
      calls_are = are;
      settled = made.settled;
      all_settled = subst AllSettled (sym are) (AllSettled-append (reg_calls n r) calls settled made.settled);
    }

-- calls, and then further calls
pub are-then : (n : ℕ) (a b : List RegCall) (r m r' : List RegEntry) → AreCalls n a r m → AreCalls n b m r' → AreCalls n (a ++ b) r r'
are-then n a b r m r' first rest = record {
  more = first.more ++ rest.more;
  goes_on = rest.goes_on ∙ (ap (λ h. h ++ rest.more) first.goes_on ∙ append_assoc r first.more rest.more);
  calls_are = rest.calls_are ∙ (ap (λ cs. cs ++ b) first.calls_are ∙ append_assoc (reg_calls n r) a b);
  settled = AllSettled-append a b first.settled rest.settled;
  all_settled = rest.all_settled;
}

pub calls-are : (n : ℕ) (calls : List RegCall) (r r' : List RegEntry) → AllSettled (reg_calls n r) → AreInTurn n calls r r' → AreCalls n calls r r'
calls-are n [] r r' settled takes = nothing-are n r r' settled takes
calls-are n (call ∷ calls) r r' settled takes =
    let first = made-are n (call ∷ []) r takes.0 settled (made-alone n call r takes.0 takes.1) in
    are-then n (call ∷ []) calls r takes.0 r' first (calls-are n calls takes.0 r' first.all_settled takes.2)
