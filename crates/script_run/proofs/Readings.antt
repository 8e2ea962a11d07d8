-- What a source gave, and the lines that were made of it.
use Rattle.std.proofs.Common.{◌≡◌, ℕ, ◌+◌, ◌-◌, ◌^◌, ◌<◌, ◌≤◌, ◌⊎◌, Bool, true, false, List, [], ◌∷◌, ◌++◌, length, take, Option, Some, None, Result, inl, inr, refl, sym, ap, subst, ◌∙◌, append_assoc, append-nil, arith, length-append}
use Rattle.std.specs.Prelude.{Contains, IsErrOf, ◌↔◌}
use Rattle.std.specs.Io.KnownBytes.{Consumes, IsAtEnd}
use Rattle.std.proofs.KnownBytes.{Consumes-nil, Consumes-trans}
use Rattle.std.proofs.lemmas.Bool.{cases_Bool, false≢true}
use Rattle.std.proofs.lemmas.List.{take-append-le, take_at}
use Rattle.kc_base.specs.declared.transfer.InputError.{InputError}
use Rattle.kc_base.specs.declared.transfer.InputError.TheVariants.{Failed, TooLong}
use Rattle.script_text.specs.NextLine.{Place, StandsAt, IsNext, FindsNext}
use Rattle.script_text.specs.Script.{script_of}
use Rattle.script_text.specs.Whole.{whole_script, AreFirst, WholeLinesStay, NoWholeLine}
use Rattle.script_text.specs.declared.commands.Line.{Line}
use Rattle.script_run.specs.Answered.{script_in}

-- ---- bytes and lines

-- Of these bytes these lines were made, and these are left; at the end nothing comes.
pub record Cut (ended : Bool) (left left' : Option (List ℕ)) (given : List ℕ) (done : List Line) (pending : List ℕ) : Type 0 where
  pub read : Consumes left left' given
  pub at_end : ended ≡ true → IsAtEnd left'
  pub script : (more : List ℕ) → (ended ≡ true → more ≡ []) → script_of (given ++ more) ≡ done ++ script_of (pending ++ more)
  pub whole : ended ≡ false → (more : List ℕ) → whole_script (given ++ more) ≡ done ++ whole_script (pending ++ more)

-- the script that the source tells begins with these lines
pub cut-told : (ended : Bool) (left left' : Option (List ℕ)) (given : List ℕ) (done : List Line) (pending : List ℕ) → Cut ended left left' given done pending
    → AreFirst done (script_of (script_in left given))
cut-told ended None left' given done pending c = (script_of (pending ++ []), ap script_of (sym (append-nil given)) ∙ c.script [] (λ e. refl))
cut-told ended (Some script) None given done pending c = absurd c.read
cut-told ended (Some script) (Some rest) given done pending c = (script_of (pending ++ rest), ap script_of c.read ∙ c.script rest c.at_end)

-- and it is what was given, at the end
pub told-whole : (left left' : Option (List ℕ)) (given : List ℕ) → Consumes left left' given → IsAtEnd left' → script_in left given ≡ given
told-whole None left' given read at_end = refl
told-whole (Some script) None given read at_end = absurd read
told-whole (Some script) (Some rest) given read at_end = read ∙ (ap (λ xs. given ++ xs) at_end ∙ append-nil given)

module _ (ended : Bool) (left left' : Option (List ℕ)) (given : List ℕ) (done : List Line) (pending : List ℕ) (c : Cut ended left left' given done pending) where
  -- more was read
  pub cut-reads : (left'' : Option (List ℕ)) (taken : List ℕ) → Consumes left' left'' taken → (ended ≡ true → (taken ≡ []) × (left'' ≡ left')) → Cut ended left left'' (given ++ taken) done (pending ++ taken)
  cut-reads left'' taken read still = record {
    read = Consumes-trans left left' left'' given taken c.read read;
    at_end = λ e. subst IsAtEnd (sym (still e).1) (c.at_end e);
    script = λ more stop.
        ap script_of (append_assoc given taken more)
        ∙ (c.script (taken ++ more) (λ e. ap (λ xs. xs ++ more) (still e).0 ∙ stop e) ∙ ap (λ xs. done ++ script_of xs) (sym (append_assoc pending taken more)));
    whole = λ e more.
        ap whole_script (append_assoc given taken more)
        ∙ (c.whole e (taken ++ more) ∙ ap (λ xs. done ++ whole_script xs) (sym (append_assoc pending taken more)));
  }

  -- one line more was made
  pub cut-line : (ended' : Bool) (said : Line) (rest : List ℕ) → IsNext pending ended' said rest → (ended ≡ true → ended' ≡ true) → (ended' ≡ true → IsAtEnd left') → Cut ended' left left' given (done ++ said ∷ []) rest
  cut-line ended' said rest next on at_end = record {
    read = c.read;
    at_end = at_end;
    script = λ more stop.
        c.script more (λ e. stop (on e)) ∙ (ap (λ ls. done ++ ls) (next.script more stop) ∙ sym (append_assoc done (said ∷ []) (script_of (rest ++ more))));
    whole = λ e more.
        c.whole (open_ e) more ∙ (ap (λ ls. done ++ ls) (next.whole e more) ∙ sym (append_assoc done (said ∷ []) (whole_script (rest ++ more))));
  }
    where
      open_ : ended' ≡ false → ended ≡ false
      open_ e = elim (cases_Bool ended) [ inl hit ↦ absurd (let bad : true ≡ false = sym (on hit) ∙ e in cc) | inr miss ↦ miss ]

  -- the end was found
  pub cut-end : (ended' : Bool) → pending ≡ [] → ended' ≡ true → IsAtEnd left' → Cut ended' left left' given done []
  cut-end ended' none is at_end = record {
    read = c.read;
    at_end = λ e. at_end;
    script = λ more stop. c.script more (λ e. stop is) ∙ ap (λ xs. done ++ script_of (xs ++ more)) none;
    whole = λ e more. absurd (let bad : true ≡ false = sym is ∙ e in cc);
  }

  -- at the end
  pub cut-all : pending ≡ [] → script_of given ≡ done
  cut-all none =
      ap script_of (sym (append-nil given))
      ∙ (c.script [] (λ e. refl) ∙ (ap (λ xs. done ++ script_of (xs ++ [])) none ∙ append-nil done))

  -- where no line feed is left each whole line was made
  pub cut-whole : NoWholeLine → ended ≡ false → (Contains pending 10 → ⊥) → whole_script given ≡ done
  cut-whole none e free =
      ap whole_script (sym (append-nil given))
      ∙ (c.whole e [] ∙ (ap (λ xs. done ++ whole_script xs) (append-nil pending) ∙ (ap (λ ls. done ++ ls) (none pending free) ∙ append-nil done)))

-- ---- a reader

-- What is so before each line: its number, and how far the lines go behind what was read.
pub record Reading (place : Place) (left left' : Option (List ℕ)) (given : List ℕ) (done : List Line) (pending : List ℕ) (number : ℕ) : Type 0 where
  pub cut : Cut place.ended left left' given done pending
  pub stands : StandsAt pending place left'
  pub behind : AreFirst (whole_script (take (length given - 65536) given)) done
  pub room : place.room + length given ≡ 2 ^ 28
  pub counted : number + length pending ≤ length given + 1

pub reading-begins : (place : Place) (left : Option (List ℕ)) → place ≡ record { kept = record { begun = Some []; unseen = [] }; room = 268435456; ended = false } → Reading place left left [] [] [] 1
reading-begins place left is = subst (λ p. Reading p left left [] [] [] 1) (sym is) (record {
  cut = record { read = Consumes-nil left; at_end = λ e. absurd (false≢true e); script = λ more stop. refl; whole = λ e more. refl };
  stands = record { pending_is = record { begun = []; no_feed = λ has. absurd (omega (arith, has.1)); kept_is = refl; bytes_are = refl }; no_feed = λ e. absurd (false≢true e); at_end = λ e. absurd (false≢true e) };
  behind = ([], refl);
  room = refl;
  counted = omega arith;
})

first-more : (ones done : List Line) (said : Line) → AreFirst ones done → AreFirst ones (done ++ said ∷ [])
first-more ones done said are = (are.0 ++ said ∷ [], ap (λ ls. ls ++ said ∷ []) are.1 ∙ append_assoc ones are.0 (said ∷ []))

module _ (stay : WholeLinesStay) (none : NoWholeLine) (place place' : Place) (left left' left'' : Option (List ℕ)) (given : List ℕ) (done : List Line) (pending : List ℕ) (number : ℕ) (result : Result (Option Line) InputError)
    (reading : Reading place left left' given done pending number) (found : FindsNext pending place place' left' left'' result) where
  abbrev taken : List ℕ
  taken = found.reads.before ++ found.reads.piece

  abbrev all : List ℕ
  all = given ++ taken

  -- what was read before the last piece
  abbrev front : List ℕ
  front = given ++ found.reads.before

  all-are : all ≡ front ++ found.reads.piece
  all-are = sym (append_assoc given found.reads.before found.reads.piece)

  pub after-read : Cut place.ended left left'' all done (pending ++ taken)
  after-read = cut-reads place.ended left left' given done pending reading.cut left'' taken found.reads.read (λ e. ((found.still e).0, (found.still e).2))

  -- where more than nothing was read each whole line of what came before the last piece was made
  front-whole : place.ended ≡ false → (Contains (pending ++ found.reads.before) 10 → ⊥) → whole_script front ≡ done
  front-whole e free =
      reading.cut.whole e found.reads.before ∙ (ap (λ ls. done ++ ls) (none (pending ++ found.reads.before) free) ∙ append-nil done)

  pub after-behind : AreFirst (whole_script (take (length all - 65536) all)) done
  after-behind =
      elim (cases_Bool place.ended) [
        | inl e ↦ same (found.still e).0
        | inr e ↦ elim found.reads.needed [
          | inl nothing ↦ same nothing
          | inr free ↦ (
              let size = ap length all-are in
              let sum = length-append front found.reads.piece in
              let one = found.reads.one_piece in
              let n = length all - 65536 in
              let is : take n all ≡ take n front = ap (take n) all-are ∙ take-append-le n front found.reads.piece (omega arith) in
              let first = stay front n in (
                first.0,
                sym (front-whole e free) ∙ (first.1 ∙ ap (λ xs. whole_script xs ++ first.0) (sym is)),
              ))
        ]
      ]
    where
      same : taken ≡ [] → AreFirst (whole_script (take (length all - 65536) all)) done
      same nothing = subst (λ xs. AreFirst (whole_script (take (length xs - 65536) xs)) done) (sym (ap (λ xs. given ++ xs) nothing ∙ append-nil given)) reading.behind

  -- ---- where the search failed

  pub failed-whole : IsErrOf result Failed → whole_script all ≡ done
  failed-whole e = let f = found.failed e in cut-whole place.ended left left'' all done (pending ++ taken) after-read none f.0 f.1

  sizes : length all ≡ length given + length taken
  sizes = length-append given taken

  pub too_long-is : IsErrOf result TooLong ↔ (2 ^ 28 < length all)
  too_long-is = (
    λ e. let lt = found.too_long.0 e in let r = reading.room in let n = sizes in omega arith,
    λ lt. found.too_long.1 (let r = reading.room in let n = sizes in omega arith),
  )

  pub too_long-whole : IsErrOf result TooLong → (m : ℕ) × (2 ^ 28 - 65535 ≤ m) × (m ≤ 2 ^ 28) × (whole_script (take m all) ≡ done)
  too_long-whole e =
      let lt = found.too_long.0 e in
      let more : 2 ^ 28 < length all = too_long-is.0 e in
      let sum = length-append front found.reads.piece in
      let total = ap length all-are in
      let part = length-append given found.reads.before in
      let one = found.reads.one_piece in
      let within = found.within in
      let room = reading.room in (
        length front,
        omega arith,
        omega arith,
        ap whole_script (ap (take (length front)) all-are ∙ take_at front found.reads.piece (length front) refl) ∙ whole-of found.reads.needed,
      )
    where
      some : taken ≡ [] → ⊥
      some nothing = let lt = found.too_long.0 e in let n = ap length nothing in omega arith

      open_ : place.ended ≡ false
      open_ = elim (cases_Bool place.ended) [ inl hit ↦ absurd (some (found.still hit).0) | inr miss ↦ miss ]

      whole-of : (taken ≡ []) ⊎ (Contains (pending ++ found.reads.before) 10 → ⊥) → whole_script front ≡ done
      whole-of (inl nothing) = absurd (some nothing)
      whole-of (inr free) = front-whole open_ free

  -- ---- where it found a line, or the end

  module _ (room : place'.room + length taken ≡ place.room) where
    new-room : place'.room + length all ≡ 2 ^ 28
    new-room = let r = reading.room in let n = sizes in omega arith

    pub after-short : 2 ^ 28 < length all → ⊥
    after-short lt = let r = new-room in omega arith

    pub reading-line : (said : Line) (rest : List ℕ) → IsNext (pending ++ taken) place'.ended said rest → StandsAt rest place' left'' → Reading place' left left'' all (done ++ said ∷ []) rest (number + 1)
    reading-line said rest next stands = record {
      cut = cut-line place.ended left left'' all done (pending ++ taken) after-read place'.ended said rest next (λ e. (found.still e).1) stands.at_end;
      stands = stands;
      behind = first-more (whole_script (take (length all - 65536) all)) done said after-behind;
      room = new-room;
      counted = let n = sizes in let p = length-append pending taken in let c = reading.counted in let s = next.shorter in omega arith;
    }

    pub reading-end : pending ++ taken ≡ [] → place'.ended ≡ true → StandsAt [] place' left'' → Reading place' left left'' all done [] number
    reading-end nothing ended stands = record {
      cut = cut-end place.ended left left'' all done (pending ++ taken) after-read place'.ended nothing ended (stands.at_end ended);
      stands = stands;
      behind = after-behind;
      room = new-room;
      counted = let n = sizes in let c = reading.counted in omega arith;
    }
