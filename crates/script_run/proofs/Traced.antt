-- What was answered before the trace, and what after it.
use Rattle.std.proofs.Common.{◌≡◌, ℕ, ◌-◌, ◌⊎◌, Bool, List, [], ◌++◌, length, take, Option, Some, None, Result, Ok, Err, inl, inr, sym, ap, subst, ◌∙◌, append_assoc, append-nil}
use Rattle.std.specs.Prelude.{OnOk, IfOk, IfErr, IfSome, IsErrOf}
use Rattle.std.specs.Io.KnownBytes.{Appends, Keeps}
use Rattle.std.proofs.KnownBytes.{Appends-trans, Appends-kept}
use Rattle.alg_registry.specs.declared.entry.RegEntry.{RegEntry}
use Rattle.board.specs.declared.entry.BoardEntry.{BoardEntry}
use Rattle.dialogues.specs.Texts.{IsText}
use Rattle.kc_base.specs.Streams.{AppendsFront}
use Rattle.script_text.specs.Whole.{whole_script}
use Rattle.script_text.specs.declared.commands.Line.{Line}
use Rattle.transforms.specs.declared.ask.Ask.{Ask}
use Rattle.script_run.specs.Answered.{BeginsWithText, RanSource}
use Rattle.script_run.specs.Runs.{Gains, GainsThen, GainsFront}
use Rattle.script_run.specs.declared.errors.RunError.{RunError}
use Rattle.script_run.specs.declared.errors.RunError.TheVariants.{ReadFault, WriteFault, NoMemory, TooLong}

-- what is written after a text is no matter to the lines that it begins with
begins-more : (workers : ℕ) (lines : List Line) (r : List RegEntry) (b : List (BoardEntry Ask)) (text more : List ℕ) → BeginsWithText workers lines r b text → BeginsWithText workers lines r b (text ++ more)
begins-more workers lines r b text more x = record {
  registry = x.registry;
  board = x.board;
  ended = x.ended;
  front = (x.front.0 ++ more, sym (append_assoc _ x.front.0 more) ∙ ap (λ xs. xs ++ more) x.front.1);
}

-- an answer is no error
ok-not : (bad : Bool) (e : RunError) (r : Result Bool RunError) → r ≡ Ok bad → r ≡ Err e → ⊥
ok-not bad e (Ok b) ok is = cc
ok-not bad e (Err x) ok is = cc

-- The script answered before, and the run answers after, when the trace was to be written.
module _ (before after : Result Bool RunError) (held held' held'' : Option (List ℕ)) (trace : List ℕ)
    (whole : IfOk after (λ bad. (before ≡ Ok bad) × Appends held' held'' trace)) where
  abbrev IsWhole : Result Bool RunError → Type 0
  IsWhole r = IfOk r (λ bad. (before ≡ Ok bad) × Appends held' held'' trace)

  pub then-ok : (A : Type 0) → OnOk before A → OnOk after A
  then-ok A on = by after whole
    where
      by : (r : Result Bool RunError) → IsWhole r → OnOk r A
      by (Ok bad) w = subst (λ x. OnOk x A) w.0 on
      by (Err e) w = tt

  -- what holds of a script and of the trace holds of both together
  pub then-both : (left : Option (List ℕ)) (A C : Type 0) (B : List ℕ → Type 0) → OnOk before (IfSome left B) → OnOk after A → ((script : List ℕ) → B script → A → C) → OnOk after (IfSome left (λ _. C))
  then-both left A C B on has joins = by after (then-ok (IfSome left B) on) has
    where
      told : (o : Option (List ℕ)) → IfSome o B → A → IfSome o (λ _. C)
      told None is a = tt
      told (Some script) is a = joins script is a

      by : (r : Result Bool RunError) → OnOk r (IfSome left B) → OnOk r A → OnOk r (IfSome left (λ _. C))
      by (Ok bad) is a = told left is a
      by (Err e) is a = tt

  pub then-if : (P : Bool → Type 0) → IfOk before P → IfOk after P
  then-if P on = by after whole
    where
      by : (r : Result Bool RunError) → IsWhole r → IfOk r P
      by (Ok bad) w = subst (λ x. IfOk x P) w.0 on
      by (Err e) w = tt

  -- ---- the text, and then the trace

  gains-then : (P : List ℕ → Type 0) → Gains held held' P → Appends held' held'' trace → GainsThen held held'' P trace
  gains-then P gained grown = (gained.0, gained.1, Appends-trans held held' held'' gained.0 trace gained.2 grown)

  pub then-gains : (left : Option (List ℕ)) (P : List ℕ → List ℕ → Type 0) → OnOk before (IfSome left (λ script. Gains held held' (P script))) → OnOk after (IfSome left (λ script. GainsThen held held'' (P script) trace))
  then-gains left P on = by after whole
    where
      told : (o : Option (List ℕ)) → Appends held' held'' trace → IfSome o (λ script. Gains held held' (P script)) → IfSome o (λ script. GainsThen held held'' (P script) trace)
      told None grown gained = tt
      told (Some script) grown gained = gains-then (P script) gained grown

      by : (r : Result Bool RunError) → IsWhole r → OnOk r (IfSome left (λ script. GainsThen held held'' (P script) trace))
      by (Ok bad) w = told left w.1 (subst (λ x. OnOk x (IfSome left (λ script. Gains held held' (P script)))) w.0 on)
      by (Err e) w = tt

  pub then-gains_if : (left : Option (List ℕ)) (A : List ℕ → Type 0) (P : List ℕ → List ℕ → Type 0) → OnOk before (IfSome left (λ script. A script → Gains held held' (P script)))
      → OnOk after (IfSome left (λ script. A script → GainsThen held held'' (P script) trace))
  then-gains_if left A P on = by after whole
    where
      told : (o : Option (List ℕ)) → Appends held' held'' trace → IfSome o (λ script. A script → Gains held held' (P script)) → IfSome o (λ script. A script → GainsThen held held'' (P script) trace)
      told None grown gained = tt
      told (Some script) grown gained = λ a. gains-then (P script) (gained a) grown

      by : (r : Result Bool RunError) → IsWhole r → OnOk r (IfSome left (λ script. A script → GainsThen held held'' (P script) trace))
      by (Ok bad) w = told left w.1 (subst (λ x. OnOk x (IfSome left (λ script. A script → Gains held held' (P script)))) w.0 on)
      by (Err e) w = tt

  -- ---- a front of both

  abbrev IsPart : RunError → Type 0
  IsPart e = ((before ≡ Err e) × Keeps held' held'') ⊎ ((bad : Bool) × (before ≡ Ok bad) × AppendsFront held' held'' trace)

  module _ (front : IfErr after IsPart) where
    -- of a text of a script
    module _ (IsFront IsText : List ℕ → Type 0) (gained : Gains held held' IsFront) (on : OnOk before (Gains held held' IsText)) where
      gains-front : GainsFront held held'' IsFront IsText trace
      gains-front = by after whole front
        where
          at_ok : (bad : Bool) → before ≡ Ok bad → Gains held held' IsText
          at_ok bad is = subst (λ x. OnOk x (Gains held held' IsText)) is on

          part : (e : RunError) → IsPart e → GainsFront held held'' IsFront IsText trace
          part e (inl kept) = inl (gained.0, gained.1, Appends-kept held held' held'' gained.0 gained.2 kept.1)
          part e (inr some) =
              let text = at_ok some.0 some.1 in
              let grown = some.2 in
              inr (grown.0, grown.1, (text.0, text.1, Appends-trans held held' held'' text.0 grown.0 text.2 grown.2))

          by : (r : Result Bool RunError) → IsWhole r → IfErr r IsPart → GainsFront held held'' IsFront IsText trace
          by (Ok bad) w f = inr (trace, ([], append-nil trace), gains-then IsText (at_ok bad w.0) w.1)
          by (Err e) w f = part e f

    pub then-front : (left : Option (List ℕ)) (IsFront IsText : List ℕ → List ℕ → Type 0) → IfSome left (λ script. Gains held held' (IsFront script)) → OnOk before (IfSome left (λ script. Gains held held' (IsText script)))
        → IfSome left (λ script. GainsFront held held'' (IsFront script) (IsText script) trace)
    then-front None IsFront IsText gained on = tt
    then-front (Some script) IsFront IsText gained on = gains-front (IsFront script) (IsText script) gained on

    -- of a text that was cut off, for this cause
    module _ (cause : RunError) (is : after ≡ Err cause) where
      cut-front : (IsCut IsText : List ℕ → Type 0) → (before ≡ Err cause → Gains held held' IsCut) → OnOk before (Gains held held' IsText) → GainsFront held held'' IsCut IsText trace
      cut-front IsCut IsText cut on = by (subst (λ x. IfErr x IsPart) is front)
        where
          by : IsPart cause → GainsFront held held'' IsCut IsText trace
          by (inl kept) = let gained = cut kept.0 in inl (gained.0, gained.1, Appends-kept held held' held'' gained.0 gained.2 kept.1)
          by (inr some) =
              let text = subst (λ x. OnOk x (Gains held held' IsText)) some.1 on in
              let grown = some.2 in
              inr (grown.0, grown.1, (text.0, text.1, Appends-trans held held' held'' text.0 grown.0 text.2 grown.2))

    pub then-cut : (cause : RunError) (left : Option (List ℕ)) (IsCut IsText : List ℕ → List ℕ → Type 0) → (IsErrOf before cause → IfSome left (λ script. Gains held held' (IsCut script))) → OnOk before (IfSome left (λ script. Gains held held' (IsText script)))
        → IsErrOf after cause → IfSome left (λ script. GainsFront held held'' (IsCut script) (IsText script) trace)
    then-cut cause None IsCut IsText cut on failed = tt
    then-cut cause (Some script) IsCut IsText cut on failed = cut-front cause failed (IsCut script) (IsText script) (λ is. cut is) on

    -- ---- the first lines

    module _ (causes : IfErr after (λ e. (before ≡ Err e) ⊎ (e ≡ WriteFault) ⊎ (e ≡ NoMemory))) where
      -- an error that writing a trace can't make is the script's own
      own : (e : RunError) → after ≡ Err e → ((e ≡ WriteFault) ⊎ (e ≡ NoMemory) → ⊥) → (before ≡ Err e) × Keeps held' held''
      own e is other = elim (subst (λ x. IfErr x IsPart) is front) [
        | inl kept ↦ kept
        | inr some ↦ elim (subst (λ x. IfErr x (λ y. (before ≡ Err y) ⊎ (y ≡ WriteFault) ⊎ (y ≡ NoMemory))) is causes) [
          | inl same ↦ absurd (ok-not some.0 e before some.1 same)
          | inr made ↦ absurd (other made)
        ]
      ]

      -- and it stays
      pub stays : (e : RunError) → before ≡ Err e → after ≡ Err e
      stays e is = by after whole front
        where
          by : (r : Result Bool RunError) → IsWhole r → IfErr r IsPart → r ≡ Err e
          by (Ok bad) w f = absurd (ok-not bad e before w.0 is)
          by (Err x) w (inl kept) = sym kept.0 ∙ is
          by (Err x) w (inr some) = absurd (ok-not some.0 e before some.1 is)

      gains-kept : (P : List ℕ → Type 0) → Gains held held' P → Keeps held' held'' → Gains held held'' P
      gains-kept P gained kept = (gained.0, gained.1, Appends-kept held held' held'' gained.0 gained.2 kept)

      module _ (workers : ℕ) (left left' : Option (List ℕ)) (r : List RegEntry) (b : List (BoardEntry Ask)) (ran : RanSource workers left left' r b before held held') where
        abbrev ones : List Line
        ones = whole_script (take (length ran.given - 65536) ran.given)

        abbrev Begins : Option (List ℕ) → Type 0
        Begins now = Gains held now (BeginsWithText workers ones r b)

        begins-then : Begins held' → (more : List ℕ) → Appends held' held'' more → Begins held''
        begins-then begun more grown = (begun.0 ++ more, begins-more workers ones r b begun.0 more begun.1, Appends-trans held held' held'' begun.0 more begun.2 grown)

        at_ok : (bad : Bool) → before ≡ Ok bad → Begins held'
        at_ok bad is = subst (λ x. OnOk x (Begins held')) is ran.first.whole

        unread : (ReadFault ≡ WriteFault) ⊎ (ReadFault ≡ NoMemory) → ⊥
        unread (inl same) = cc
        unread (inr same) = cc

        unbound : (TooLong ≡ WriteFault) ⊎ (TooLong ≡ NoMemory) → ⊥
        unbound (inl same) = cc
        unbound (inr same) = cc

        wrote : IsPart WriteFault → Begins held''
        wrote (inl kept) = gains-kept (BeginsWithText workers ones r b) (ran.first.written kept.0) kept.1
        wrote (inr some) = let grown = some.2 in begins-then (at_ok some.0 some.1) grown.0 grown.2

        wrote-all : (x : Result Bool RunError) → IsWhole x → OnOk x (Begins held'')
        wrote-all (Ok bad) w = begins-then (at_ok bad w.0) trace w.1
        wrote-all (Err e) w = tt

        pub then-ran : RanSource workers left left' r b after held held''
        then-ran = record {
          given = ran.given;
          reads = record { read = ran.reads.read; at_end = then-ok _ ran.reads.at_end };
          first = record {
            failed = λ is. let o = own ReadFault is unread in gains-kept _ (ran.first.failed o.0) o.1;
            too_long = (λ is. ran.first.too_long.0 (own TooLong is unbound).0, λ lt. stays TooLong (ran.first.too_long.1 lt));
            up_to = λ is. let o = own TooLong is unbound in let u = ran.first.up_to o.0 in (u.0, u.1, u.2, gains-kept _ u.3 o.1);
            written = λ is. wrote (subst (λ x. IfErr x IsPart) is front);
            whole = wrote-all after whole;
          };
        }
