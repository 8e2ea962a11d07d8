-- What a run writes, and what it leaves.
use Rattle.std.proofs.Common.{◌≡◌, ◌≤◌, ◌⊎◌, ℕ, Bool, true, false, List, [], ◌++◌, map, Option, Some, None, Result, Ok, Err, sym, refl, ap, ◌∙◌, subst, inl, inr, append-nil, append_assoc, arith, rules}
use Rattle.std.specs.Prelude.{IfOk, IfErr, IfSome, IsOk, IsTrue, OnOk, OnErr, ⊤}
use Rattle.std.specs.List.{list_any}
use Rattle.std.specs.Io.KnownBytes.{Appends, Keeps, Consumes, IsAtEnd}
use Rattle.std.proofs.KnownBytes.{Appends-trans, Keeps-refl}
use Rattle.std.proofs.lemmas.List.Elements.{All-nil}
use Rattle.alg_registry.specs.declared.entry.RegEntry.{RegEntry}
use Rattle.board.specs.declared.entry.BoardEntry.{BoardEntry}
use Rattle.client_texts.specs.Outputs.{IsOutput, IsOutputBy, scripts_of}
use Rattle.kc_base.specs.Streams.{AppendsFront}
use Rattle.script_run.specs.Endings.{traced, CanBeRead, IsShutOnce}
use Rattle.script_run.specs.Runs.{GainsThen}
use Rattle.script_run.specs.Statuses.{status_of}
use Rattle.script_run.specs.Text.{is_malformed}
use Rattle.script_run.specs.declared.errors.RunError.{RunError}
use Rattle.script_run.specs.declared.errors.RunError.TheVariants.{Usage, ReadFault, WriteFault, NoMemory, TooLong}
use Rattle.script_text.specs.Script.{script_of}
use Rattle.trace_text.specs.Asks.{ask_origin}
use Rattle.trace_text.specs.Trace.{FitTypes}
use Rattle.trace_laws.specs.Clients.{ClientTracesCanBeRead}
use Rattle.transforms.specs.declared.ask.Ask.{Ask}
use Rattle.client_run.specs.declared.with_workers.Output.{Output}
use Rattle.client_run.specs.WithWorkers.{PartsRan, printed_by}
use Rattle.client_run.specs.Clients.{RanClients, RanParts, IsCut, GainsFrontOrNone, has_malformed}

-- ---- what is written

pub on-err : {X E : Type 0} (r : Result X E) (T : Type 0) → T → OnErr r T
on-err (Ok x) T t = tt
on-err (Err e) T t = t

pub ok-is : {X E : Type 0} (r : Result X E) (x : X) (P : X → Type 0) → r ≡ Ok x → P x → IsOk r × IfOk r P
ok-is r x P is p = subst (λ y. IsOk y × IfOk y P) (sym is) (refl, p)

-- a front of a text is one of the text with more behind it
pub front-more : (a b : Option (List ℕ)) (text trace : List ℕ) → AppendsFront a b text → AppendsFront a b (text ++ trace)
front-more a b text trace f = (f.0, (f.1.0 ++ trace, sym (append_assoc f.0 f.1.0 trace) ∙ ap (λ t. t ++ trace) f.1.1), f.2)

-- and so is the text, with a front of that
pub front-then : (a b c : Option (List ℕ)) (text trace : List ℕ) → Appends a b text → AppendsFront b c trace → AppendsFront a c (text ++ trace)
front-then a b c text trace grown f = (text ++ f.0, (f.1.0, append_assoc text f.0 f.1.0 ∙ ap (λ t. text ++ t) f.1.1), Appends-trans a b c text f.0 grown f.2)

-- ---- the parts

module _ (workers clients : ℕ) (trace : Bool) (parts : List (List ℕ)) (held held' : Option (List ℕ)) (r : List RegEntry) (b : List (BoardEntry Ask)) where
  abbrev Closed : Result Bool RunError → Type 0
  Closed answer = IsShutOnce workers b ⊎ ((answer ≡ Err NoMemory) × (r ≡ []) × (b ≡ []))

  pub ran-parts : {F : Type 0} (output : Result Output F) (answer : Result Bool RunError) → PartsRan workers clients parts r b output
      → IfOk answer (λ bad. IsOk output × IfOk output (λ o. (bad ≡ o.malformed) × Appends held held' (printed_by o ++ traced trace r b)))
      → OnErr output (answer ≡ Err NoMemory)
      → (trace ≡ true → OnOk answer (FitTypes ask_origin r b))
      → OnErr answer (Keeps held held' ⊎ (IsOk output × IfOk output (λ o. AppendsFront held held' (printed_by o ++ traced trace r b))))
      → IfErr answer (λ e. (e ≡ WriteFault) ⊎ (e ≡ NoMemory)) → RanParts workers clients trace parts held held' r b answer
  ran-parts (Ok o) (Ok bad) ran whole nothing fits front causes = record {
    whole = (printed_by o, ran.printed, whole.1.1);
    front = tt;
    fits = fits;
    malformed = whole.1.0 ∙ ran.malformed;
    shut = ran.shut;
    one_list = ran.one_list;
    closed = by_closed ran.closed;
    callers = ran.callers;
    legal = ran.legal;
    legal_board = ran.legal_board;
    faithful = ran.faithful;
    causes = tt;
  }
    where
      by_closed : IsShutOnce workers b ⊎ (⊥ × (r ≡ []) × (b ≡ [])) → Closed (Ok bad)
      by_closed (inl once) = inl once
      by_closed (inr none) = absurd none.0
  ran-parts (Ok o) (Err e) ran whole nothing fits front causes = record {
    whole = tt;
    front = by_front front;
    fits = λ asked. tt;
    malformed = tt;
    shut = tt;
    one_list = tt;
    closed = by_closed ran.closed;
    callers = ran.callers;
    legal = ran.legal;
    legal_board = ran.legal_board;
    faithful = ran.faithful;
    causes = causes;
  }
    where
      by_front : Keeps held held' ⊎ ((true ≡ true) × AppendsFront held held' (printed_by o ++ traced trace r b)) → GainsFrontOrNone held held' (IsOutputBy workers (map script_of parts) r b) (traced trace r b)
      by_front (inl kept) = inl kept
      by_front (inr grown) = inr (printed_by o, ran.printed, grown.1)

      by_closed : IsShutOnce workers b ⊎ (⊥ × (r ≡ []) × (b ≡ [])) → Closed (Err e)
      by_closed (inl once) = inl once
      by_closed (inr none) = absurd none.0
  ran-parts (Err f) (Ok bad) ran whole nothing fits front causes = (let not : false ≡ true = whole.0 in absurd cc)
  ran-parts (Err f) (Err e) ran whole nothing fits front causes = record {
    whole = tt;
    front = by_front front;
    fits = λ asked. tt;
    malformed = tt;
    shut = tt;
    one_list = tt;
    closed = by_closed ran.closed;
    callers = ran.callers;
    legal = ran.legal;
    legal_board = ran.legal_board;
    faithful = ran.faithful;
    causes = causes;
  }
    where
      by_front : Keeps held held' ⊎ ((false ≡ true) × ⊤) → GainsFrontOrNone held held' (IsOutputBy workers (map script_of parts) r b) (traced trace r b)
      by_front (inl kept) = inl kept
      by_front (inr grown) = (let not : false ≡ true = grown.0 in absurd cc)

      by_closed : IsShutOnce workers b ⊎ (⊤ × (r ≡ []) × (b ≡ [])) → Closed (Err e)
      by_closed (inl once) = inl once
      by_closed (inr none) = inr (nothing, none.1, none.2)

-- where memory was wanting before anything ran
pub no-parts : (workers clients : ℕ) (trace : Bool) (parts : List (List ℕ)) (held : Option (List ℕ)) → RanParts workers clients trace parts held held [] [] (Err NoMemory)
no-parts workers clients trace parts held = record {
  whole = tt;
  front = inl (Keeps-refl held);
  fits = λ asked. tt;
  malformed = tt;
  shut = tt;
  one_list = tt;
  closed = inr (refl, refl, refl);
  callers = (All-nil _, All-nil _);
  legal = search rules;
  legal_board = search rules;
  faithful = search rules;
  causes = inr refl;
}

-- ---- the whole run

-- what holds where it reached its end holds under its status
on-low : (A : Type 0) (answer : Result Bool RunError) → OnOk answer A → status_of answer ≤ 1 → A
on-low A (Ok bad) a low = a
on-low A (Err Usage) a low = absurd (omega arith)
on-low A (Err ReadFault) a low = absurd (omega arith)
on-low A (Err WriteFault) a low = absurd (omega arith)
on-low A (Err NoMemory) a low = absurd (omega arith)
on-low A (Err TooLong) a low = absurd (omega arith)

on-fault : (A : Type 0) (answer : Result Bool RunError) → OnErr answer A → (status_of answer ≡ 4) ⊎ (status_of answer ≡ 5) → A
on-fault A (Ok false) a (inl is) = absurd (omega arith)
on-fault A (Ok false) a (inr is) = absurd (omega arith)
on-fault A (Ok true) a (inl is) = absurd (omega arith)
on-fault A (Ok true) a (inr is) = absurd (omega arith)
on-fault A (Err e) a is = a

no-read : (answer : Result Bool RunError) → IfErr answer (λ e. (e ≡ WriteFault) ⊎ (e ≡ NoMemory)) → (status_of answer ≡ 3) ⊎ (status_of answer ≡ 6) → ⊥
no-read (Ok false) causes (inl is) = (omega arith)
no-read (Ok false) causes (inr is) = (omega arith)
no-read (Ok true) causes (inl is) = (omega arith)
no-read (Ok true) causes (inr is) = (omega arith)
no-read (Err e) (inl write) (inl is) = (let s = ap (λ x. status_of (Err x)) write in omega arith)
no-read (Err e) (inl write) (inr is) = (let s = ap (λ x. status_of (Err x)) write in omega arith)
no-read (Err e) (inr memory) (inl is) = (let s = ap (λ x. status_of (Err x)) memory in omega arith)
no-read (Err e) (inr memory) (inr is) = (let s = ap (λ x. status_of (Err x)) memory in omega arith)

by-malformed : (answer : Result Bool RunError) (any : Bool) → IfOk answer (λ bad. bad ≡ any) → status_of answer ≤ 1 → (status_of answer ≡ 1 → IsTrue any) × (IsTrue any → status_of answer ≡ 1)
by-malformed (Ok false) any is low = (λ one. absurd (omega arith), λ t. (let bad : false ≡ true = is ∙ t in absurd cc))
by-malformed (Ok true) any is low = (λ one. sym is, λ t. refl)
by-malformed (Err Usage) any is low = absurd (omega arith)
by-malformed (Err ReadFault) any is low = absurd (omega arith)
by-malformed (Err WriteFault) any is low = absurd (omega arith)
by-malformed (Err NoMemory) any is low = absurd (omega arith)
by-malformed (Err TooLong) any is low = absurd (omega arith)

module _ (clients : ℕ) (left left' : Option (List ℕ)) (parts : List (List ℕ)) (c : IsCut clients left left' parts) where
  -- what holds of what was read holds of what the source told
  told : (P : List ℕ → Type 0) → P c.input → IfSome left P
  told P holds = by left left' c.read c.at_end
    where
      by : (o o' : Option (List ℕ)) → Consumes o o' c.input → IsAtEnd o' → IfSome o P
      by None o' read at_end = tt
      by (Some xs) None read at_end = absurd read
      by (Some xs) (Some ys) read at_end = subst P (sym (read ∙ (ap (λ zs. c.input ++ zs) at_end ∙ append-nil c.input))) holds

  at-end : IfSome left (λ input. left' ≡ Some [])
  at-end = by left left' c.read c.at_end
    where
      by : (o o' : Option (List ℕ)) → Consumes o o' c.input → IsAtEnd o' → IfSome o (λ input. o' ≡ Some [])
      by None o' read at_end = tt
      by (Some xs) None read at_end = absurd read
      by (Some xs) (Some ys) read at_end = ap (λ zs. Some zs) at_end

  same-scripts : map script_of parts ≡ scripts_of clients c.input
  same-scripts = ap (λ ps. map script_of ps) c.cut

  pub ran-clients : (workers : ℕ) (trace : Bool) (held held' : Option (List ℕ)) (r : List RegEntry) (b : List (BoardEntry Ask)) (answer : Result Bool RunError) → workers ≤ 16 → ClientTracesCanBeRead
      → RanParts workers clients trace parts held held' r b answer → RanClients workers clients trace (status_of answer) left left' held held' r b
  ran-clients workers trace held held' r b answer few read ran = record {
    legal = ran.legal;
    legal_board = ran.legal_board;
    faithful = ran.faithful;
    callers = ran.callers;
    closed = by_closed ran.closed;
    ended = λ low. at-end;
    whole = λ low. told (λ input. GainsThen held held' (IsOutput workers clients input r b) (traced trace r b)) (gained low);
    readable = λ asked low. told (λ input. CanBeRead r b) (let g = gained low in read workers clients c.input r b g.0 few ran.legal ran.faithful ran.callers.0 g.1 (on-low (FitTypes ask_origin r b) answer (ran.fits asked) low));
    shut = λ low. on-low _ answer ran.shut low;
    one_list = λ low. on-low _ answer ran.one_list low;
    malformed = λ low. told (λ input. (status_of answer ≡ 1 → IsTrue (has_malformed clients input)) × (IsTrue (has_malformed clients input) → status_of answer ≡ 1))
        (by-malformed answer (has_malformed clients c.input) (subst (λ scripts. IfOk answer (λ bad. bad ≡ list_any (list_any is_malformed) scripts)) same-scripts ran.malformed) low);
    unrun = λ is. absurd (no-read answer ran.causes is);
    unwritten = λ is. absurd (no-read answer ran.causes is);
    front = λ is. told (λ input. GainsFrontOrNone held held' (IsOutput workers clients input r b) (traced trace r b))
        (on-fault _ answer (subst (λ scripts. OnErr answer (GainsFrontOrNone held held' (IsOutputBy workers scripts r b) (traced trace r b))) same-scripts ran.front) is);
  }
    where
      gained : status_of answer ≤ 1 → GainsThen held held' (IsOutput workers clients c.input r b) (traced trace r b)
      gained low = on-low _ answer (subst (λ scripts. OnOk answer (GainsThen held held' (IsOutputBy workers scripts r b) (traced trace r b))) same-scripts ran.whole) low

      by_closed : IsShutOnce workers b ⊎ ((answer ≡ Err NoMemory) × (r ≡ []) × (b ≡ [])) → IsShutOnce workers b ⊎ (((status_of answer ≡ 3) ⊎ (status_of answer ≡ 5) ⊎ (status_of answer ≡ 6)) × (r ≡ []) × (b ≡ []))
      by_closed (inl once) = inl once
      by_closed (inr none) = inr (inr (inl (ap status_of none.0)), none.1, none.2)

-- where the input wasn't read whole nothing ran
pub nothing-ran : (workers clients : ℕ) (trace : Bool) (status : ℕ) (left left' held : Option (List ℕ)) → (status ≡ 3) ⊎ (status ≡ 5) ⊎ (status ≡ 6) → RanClients workers clients trace status left left' held held [] []
nothing-ran workers clients trace status left left' held is = record {
  legal = search rules;
  legal_board = search rules;
  faithful = search rules;
  callers = (All-nil _, All-nil _);
  closed = inr (is, refl, refl);
  ended = λ low. absurd (high is low);
  whole = λ low. absurd (high is low);
  readable = λ asked low. absurd (high is low);
  shut = λ low. absurd (high is low);
  one_list = λ low. absurd (high is low);
  malformed = λ low. absurd (high is low);
  unrun = λ read. (refl, refl);
  unwritten = λ read. Keeps-refl held;
  front = λ fault. none left;
}
  where
    high : (status ≡ 3) ⊎ (status ≡ 5) ⊎ (status ≡ 6) → status ≤ 1 → ⊥
    high (inl three) low = (omega arith)
    high (inr (inl five)) low = (omega arith)
    high (inr (inr six)) low = (omega arith)

    none : (o : Option (List ℕ)) → IfSome o (λ input. GainsFrontOrNone held held (IsOutput workers clients input [] []) (traced trace [] []))
    none None = tt
    none (Some input) = inl (Keeps-refl held)

pub read-status : (e : RunError) → (e ≡ ReadFault) ⊎ (e ≡ NoMemory) ⊎ (e ≡ TooLong) → (status_of (Err e) ≡ 3) ⊎ (status_of (Err e) ≡ 5) ⊎ (status_of (Err e) ≡ 6)
read-status e (inl is) = inl (ap (λ x. status_of (Err x)) is)
read-status e (inr (inl is)) = inr (inl (ap (λ x. status_of (Err x)) is))
read-status e (inr (inr is)) = inr (inr (ap (λ x. status_of (Err x)) is))
