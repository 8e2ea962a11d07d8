-- The search for the next line, from read to read.
use Rattle.std.proofs.Common.{◌≡◌, ℕ, ◌+◌, ◌<◌, ◌≤◌, Bool, true, false, List, [], ◌∷◌, length, Option, Some, None, Result, Ok, Err, inl, inr, refl, sym, ap, ◌∙◌, arith, ◌++◌, subst, append-nil, append_assoc, length-append}
use Rattle.std.specs.Prelude.{IsErrOf, Contains, IfOk, IfErr}
use Rattle.std.proofs.lemmas.Bool.{cases_Bool}
use Rattle.std.specs.Io.KnownBytes.{Consumes}
use Rattle.std.proofs.KnownBytes.{Consumes-nil, Consumes-trans}
use Rattle.kc_base.specs.declared.transfer.InputError.{InputError}
use Rattle.kc_base.specs.declared.transfer.InputError.TheVariants.{Failed, TooLong, NoMemory}
use Rattle.script_text.specs.NextLine.{Place, StandsAt, ReadsOn, ReadsPiece, IsNext, FindsNext}
use Rattle.script_text.specs.LineCutter.{CutterState, IsPending, EndsLine, CutsNext, CutsLast}
use Rattle.script_text.specs.Script.{line_of, script_of}
use Rattle.script_text.specs.Whole.{whole_script}
use Rattle.script_text.specs.declared.commands.Line.{Line}
use Rattle.script_text.proofs.LineLemmas.{lone_script}
use Rattle.script_text.proofs.PendingLemmas.{none_in_none, script_cut, whole_cut}

-- ---- the next line of some bytes

pub next_whole : (bytes rest : List ℕ) (ended : Bool) (said : Line) → EndsLine bytes said rest → IsNext bytes ended said rest
next_whole bytes rest ended said e =
    let on : (more : List ℕ) → bytes ++ more ≡ e.text ++ 10 ∷ (rest ++ more) = λ more. ap (λ xs. xs ++ more) e.bytes_are ∙ append_assoc e.text (10 ∷ rest) more in
    let size = ap length e.bytes_are in
    let sum = length-append e.text (10 ∷ rest) in
    record {
      script = λ more stop. ap script_of (on more) ∙ (script_cut e.text (rest ++ more) e.no_feed ∙ ap (λ l. l ∷ script_of (rest ++ more)) (sym e.said_is));
      whole = λ still more. ap whole_script (on more) ∙ (whole_cut e.text (rest ++ more) e.no_feed ∙ ap (λ l. l ∷ whole_script (rest ++ more)) (sym e.said_is));
      shorter = omega arith;
    }

pub next_last : (bytes : List ℕ) (ended : Bool) (said : Line) → ended ≡ true → (Contains bytes 10 → ⊥) → said ≡ line_of bytes → 0 < length bytes → IsNext bytes ended said []
next_last bytes ended said at_end none said_is some = record {
  script = λ more stop.
      subst (λ m. script_of (bytes ++ m) ≡ said ∷ script_of ([] ++ m)) (sym (stop at_end))
      (ap script_of (append-nil bytes) ∙ lone_script bytes said some none said_is);
  whole = λ still more. absurd (let bad : true ≡ false = sym at_end ∙ still in cc);
  shorter = some;
}

-- ---- what a cutter was fed

fed : (bytes piece : List ℕ) (old new : CutterState) → new ≡ record { begun = old.begun; unseen = old.unseen ++ piece } → IsPending bytes old → IsPending (bytes ++ piece) new
fed bytes piece old new is p = record {
  begun = p.begun;
  no_feed = p.no_feed;
  kept_is = ap (λ (k : CutterState). k.begun) is ∙ p.kept_is;
  bytes_are = ap (λ xs. xs ++ piece) p.bytes_are ∙ (append_assoc p.begun old.unseen piece ∙ ap (λ xs. p.begun ++ xs) (sym (ap (λ (k : CutterState). k.unseen) is)));
}

-- ---- the search

-- so far no line was found
pub record Searched (pending : List ℕ) (old now : Place) (left left' : Option (List ℕ)) : Type 0 where
  pub reads : ReadsOn pending left left'
  pub room : now.room + length (reads.before ++ reads.piece) ≡ old.room
  pub stands : StandsAt (pending ++ (reads.before ++ reads.piece)) now left'
  pub still : old.ended ≡ true → (reads.before ++ reads.piece ≡ []) × (now.ended ≡ true) × (left' ≡ left)

pub search_begins : (pending : List ℕ) (old : Place) (left : Option (List ℕ)) → StandsAt pending old left → Searched pending old old left left
search_begins pending old left stands = record {
  reads = record { before = []; piece = []; read = Consumes-nil left; one_piece = omega arith; needed = inl refl };
  room = omega arith;
  stands = subst (λ xs. StandsAt xs old left) (sym (append-nil pending)) stands;
  still = λ e. (refl, e, refl);
}

module _ (pending : List ℕ) (old now : Place) (left left' : Option (List ℕ)) (s : Searched pending old now left left') where
  abbrev taken : List ℕ
  taken = s.reads.before ++ s.reads.piece

  abbrev bytes : List ℕ
  bytes = pending ++ taken

  no_more : length s.reads.before ≤ length taken
  no_more = let n = length-append s.reads.before s.reads.piece in omega arith

  within : length s.reads.before ≤ old.room
  within = let n = no_more in let r = s.room in omega arith

  -- a whole line was there
  pub search_finds : (new : Place) (said : Line) → CutsNext now.kept new.kept (Some said) → new.room ≡ now.room → new.ended ≡ now.ended → now.ended ≡ false
      → FindsNext pending old new left left' (Ok (Some said))
  search_finds new said cuts room ended still =
      let found = cuts bytes s.stands.pending_is in
      let no : new.ended ≡ true → ⊥ = λ e. (let bad : true ≡ false = sym e ∙ (ended ∙ still) in cc) in
      record {
        reads = s.reads;
        still = λ f. ((s.still f).0, ended ∙ (s.still f).1, (s.still f).2);
        room = ap (λ n. n + length taken) room ∙ s.room;
        line = (found.0, next_whole bytes found.0 new.ended said found.1, record { pending_is = found.2; no_feed = λ e. absurd (no e); at_end = λ e. absurd (no e) });
        failed = λ e. absurd cc;
        too_long = (λ e. absurd cc, λ lt. absurd (let r = s.room in omega arith));
        within = within;
      }

  -- memory is wanting
  pub search_stops : (new : Place) (e : InputError) → e ≡ NoMemory → new.ended ≡ now.ended → FindsNext pending old new left left' (Err e)
  search_stops new e is ended = record {
    reads = s.reads;
    still = λ f. ((s.still f).0, ended ∙ (s.still f).1, (s.still f).2);
    room = tt;
    line = tt;
    failed = λ f. absurd cc;
    too_long = (λ f. absurd cc, λ lt. absurd (let r = s.room in omega arith));
    within = within;
  }

  -- the source has ended
  last_stands : (new : Place) → IsPending [] new.kept → now.ended ≡ true → StandsAt [] new left'
  last_stands new is at_end = record { pending_is = is; no_feed = λ e. none_in_none; at_end = λ e. s.stands.at_end at_end }

  pub search_ends : (new : Place) (r : Result (Option Line) InputError) → IfOk r (CutsLast now.kept new.kept) → IfErr r (λ e. e ≡ NoMemory) → new.room ≡ now.room → new.ended ≡ now.ended → now.ended ≡ true
      → FindsNext pending old new left left' r
  search_ends new (Err e) cuts memory room ended at_end = search_stops new e memory ended
  search_ends new (Ok None) cuts memory room ended at_end =
      let c = cuts bytes s.stands.pending_is (s.stands.no_feed at_end) in
      record {
        reads = s.reads;
        still = λ f. ((s.still f).0, ended ∙ (s.still f).1, (s.still f).2);
        room = ap (λ n. n + length taken) room ∙ s.room;
        line = (c.1, ended ∙ at_end, last_stands new c.0 at_end);
        failed = λ f. absurd cc;
        too_long = (λ f. absurd cc, λ lt. absurd (let r = s.room in omega arith));
        within = within;
      }
  search_ends new (Ok (Some said)) cuts memory room ended at_end =
      let none = s.stands.no_feed at_end in
      let c = cuts bytes s.stands.pending_is none in
      record {
        reads = s.reads;
        still = λ f. ((s.still f).0, ended ∙ (s.still f).1, (s.still f).2);
        room = ap (λ n. n + length taken) room ∙ s.room;
        line = ([], next_last bytes new.ended said (ended ∙ at_end) none c.1.0 c.1.1, last_stands new c.0 at_end);
        failed = λ f. absurd cc;
        too_long = (λ f. absurd cc, λ lt. absurd (let r = s.room in omega arith));
        within = within;
      }

  module _ (mid new : Place) (left'' : Option (List ℕ)) (cuts : CutsNext now.kept mid.kept None) (room : mid.room ≡ now.room) (ended : mid.ended ≡ now.ended) (still : now.ended ≡ false) where
    none_left : Contains bytes 10 → ⊥
    none_left = (cuts bytes s.stands.pending_is).0

    not_ended : old.ended ≡ true → ⊥
    not_ended e = let bad : true ≡ false = sym (s.still e).1 ∙ still in cc

    open_ : old.ended ≡ false
    open_ = elim (cases_Bool old.ended) [ inl e ↦ absurd (not_ended e) | inr e ↦ e ]

    abbrev reads_on : (piece : List ℕ) → Consumes left' left'' piece → length piece ≤ 65536 → ReadsOn pending left left''
    reads_on piece read one = record { before = taken; piece = piece; read = Consumes-trans left left' left'' taken piece s.reads.read read; one_piece = one; needed = inr none_left }

    joined : (piece : List ℕ) → bytes ++ piece ≡ pending ++ (taken ++ piece)
    joined piece = append_assoc pending taken piece

    -- one read more
    pub search_on : ReadsPiece mid new left' left'' (Ok tt) → Searched pending old new left left''
    search_on r =
        let sum = length-append taken r.piece in
        record {
          reads = reads_on r.piece r.read r.one_piece;
          room = let a = r.room in let b = s.room in omega arith;
          stands = subst (λ xs. StandsAt xs new left'') (joined r.piece) (record {
            pending_is = fed bytes r.piece mid.kept new.kept r.kept (cuts bytes s.stands.pending_is).1;
            no_feed = λ e. subst (λ xs. Contains xs 10 → ⊥) (sym (append-nil bytes) ∙ ap (λ p. bytes ++ p) (sym (r.at_end e).0)) none_left;
            at_end = λ e. (r.at_end e).1;
          });
          still = λ e. absurd (not_ended e);
        }

    pub search_fails : (e : InputError) → ReadsPiece mid new left' left'' (Err e) → FindsNext pending old new left left'' (Err e)
    search_fails e r =
        let sum = length-append taken r.piece in
        let size = s.room in
        record {
          reads = reads_on r.piece r.read r.one_piece;
          still = λ f. absurd (not_ended f);
          room = tt;
          line = tt;
          failed = λ f.
              let same : e ≡ Failed = cc in
              (open_, subst (λ xs. Contains xs 10 → ⊥) (sym (append-nil bytes) ∙ (ap (λ p. bytes ++ p) (sym (r.failed (ap (λ x. Err x) same))) ∙ joined r.piece)) none_left);
          too_long = (
            λ f.
                let same : e ≡ TooLong = cc in
                let lt = r.too_long.0 (ap (λ x. Err x) same) in
                omega arith,
            λ lt.
                let is : IsErrOf {T = Unit {0}} (Err e) TooLong = r.too_long.1 (omega arith) in
                let same : e ≡ TooLong = cc in
                ap (λ x. Err x) same,
          );
          within = omega arith;
        }
