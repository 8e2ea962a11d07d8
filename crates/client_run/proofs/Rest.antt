-- What is known once the clients have ended, and once the board is shut.
use Rattle.std.proofs.Common.{◌≡◌, ◌<◌, ◌≤◌, ◌+◌, ◌-◌, ℕ, suc, Bool, false, ◌||◌, List, [], ◌∷◌, ◌++◌, length, map, Some, Ok, sym, refl, ap, ◌∙◌, subst, arith, inl, inr, append_assoc}
use Rattle.std.specs.Prelude.{◌==◌, if◌then◌else◌, Result, IfOk, slice_get}
use Rattle.std.specs.List.{list_any}
use Rattle.std.proofs.lemmas.Bool.{eq-eqb}
use Rattle.std.proofs.lemmas.List.{length-append}
use Rattle.std.proofs.lemmas.List.Elements.{filter-append}
use Rattle.alg_registry.specs.declared.entry.RegEntry.{RegEntry}
use Rattle.alg_registry.specs.Rows.{caller_of as reg_caller}
use Rattle.board.specs.declared.entry.BoardEntry.{BoardEntry}
use Rattle.board.specs.declared.entry.BoardEntry.TheVariants.{Shut}
use Rattle.board.specs.Alone.{PeersGone}
use Rattle.board.specs.Entries.{caller_of as board_caller}
use Rattle.board.specs.Legal.{LegalBoard, is_shut}
use Rattle.client_texts.specs.Outputs.{AreClientTexts}
use Rattle.crew.specs.Crews.{Crewed}
use Rattle.crew.specs.declared.passes.Passes.{Passes}
use Rattle.crew.specs.Peers.{HasEnded, Peered, OthersFollow, RunsOnBoth}
use Rattle.dialogues.specs.ScriptState.{Live}
use Rattle.script_run.specs.Text.{is_malformed}
use Rattle.script_session.specs.EndOfInput.{EndsDelivered}
use Rattle.script_session.specs.SharedEnd.{IsJoined}
use Rattle.script_session.specs.Loans.{AreLent}
use Rattle.script_session.specs.States.{owners}
use Rattle.script_text.specs.Script.{script_of}
use Rattle.recorded_calls.specs.declared.stop.Stop.{Stop}
use Rattle.recorded_calls.specs.Pipelines.{Owns}
use Rattle.recorded_calls.specs.SharedCalls.{HaveEnded}
use Rattle.transforms.specs.declared.ask.Ask.{Ask}
use Rattle.turn_lock.specs.TurnLaws.{starts_through}
use Rattle.turn_lock.specs.PassLaws.{AtTurn, Enters, Leaves, IsOwn}
use Rattle.turn_lock.specs.Passes.{knows}
use Rattle.turn_lock.specs.Turns.{Known, Each, Has, StartsWith, Shows}
use Rattle.client_run.specs.declared.client.ClientText.{ClientText}
use Rattle.client_run.specs.WithWorkers.{IsHistoryOf, GaveNumbers, HasShutLast, texts_in, is_bad}
use Rattle.client_run.specs.EndLaws.{PeerLaws, ShutLaws}
use Rattle.client_run.specs.Parts.{ClientRan, ClientAnswers}
use Rattle.client_run.proofs.Paid.{HasPaid, numbers-of, pick}

-- ---- passes

module _ {E : Type 0} where
  -- workers were joined into a pass
  pub history-of : (by : E → ℕ) (is_work : E → Bool) (from count : ℕ) (k l : Known E) (log : List E) → Crewed is_work from count k l → Shows by l log → IsHistoryOf by k log
  history-of by is_work from count k l log c shows = record {
    last = l;
    number = c.number;
    next = c.next;
    made = c.made;
    seen = c.seen;
    ended = (c.more, c.ended);
    shows = shows;
  }

  pub next-of : PeerLaws E → (count : ℕ) (ws : List (Known E)) (k l : Known E) → 1 ≤ count → length ws ≡ count → Peered 17 ws k l → l.next ≡ 17 + count
  next-of laws count [] k l some is peered = absurd (omega arith)
  next-of laws count (w ∷ ws) k l some is peered = (laws.numbers 17 w ws k l peered).0 ∙ ap (λ c. 17 + c) is

  pub numbers-after : PeerLaws E → (workers count : ℕ) (ws : List (Known E)) (k l : Known E) → 1 ≤ count → length ws ≡ count → k.next ≡ workers + 1 → Peered 17 ws k l → GaveNumbers workers count l
  numbers-after laws workers count [] k l some is next peered = absurd (omega arith)
  numbers-after laws workers count (w ∷ ws) k l some is next peered =
      let n = laws.numbers 17 w ws k l peered in
      inr (n.0 ∙ ap (λ c. 17 + c) is, λ j low high. n.1 j (subst (λ m. m ≤ j) (sym next) low) high)

  pub numbers-then : (workers count : ℕ) (k l : Known E) → l.next ≡ k.next → l.ended ≡ k.ended → GaveNumbers workers count k → GaveNumbers workers count l
  numbers-then workers count k l next ended (inl few) = inl (next ∙ few)
  numbers-then workers count k l next ended (inr gave) = inr (next ∙ gave.0, λ j low high. subst (Has (λ x. x ≡ (j, []))) (sym ended) (gave.1 j low high))

  pub each-of-map : {X : Type 0} (P : E → Type 0) (f : X → E) (xs : List X) → Each P (map f xs) → Each (λ x. P (f x)) xs
  each-of-map P f [] each = tt
  each-of-map P f (x ∷ xs) each = (each.0, each-of-map P f xs each.1)

  pub length-of-map : {X : Type 0} (f : X → E) (xs : List X) → length (map f xs) ≡ length xs
  length-of-map f [] = refl
  length-of-map f (x ∷ xs) = (let e = length-of-map f xs in omega arith)

-- each number above the workers' has ended in the pass into which the clients' were joined
pub have-ended : PeerLaws (BoardEntry Ask) → (count : ℕ) (ws : List (Known (BoardEntry Ask))) (k l : Known (BoardEntry Ask)) → k.number ≡ 0 → 1 ≤ count → length ws ≡ count → Peered 17 ws k l → HaveEnded l
have-ended laws count [] k l zero_is some is peered = absurd (omega arith)
have-ended laws count (w ∷ ws) k l zero_is some is peered =
    let each : Each (λ v. HasEnded v l) (w ∷ ws) = laws.ended 17 (w ∷ ws) k l peered in
    let numbers = laws.numbers 17 w ws k l peered in
    record {
      first = (laws.leave 17 (w ∷ ws) k l peered).0 ∙ zero_is;
      ended = λ n low high.
          let found = pick (λ v. HasEnded v l) 17 (w ∷ ws) n (numbers-of 17 (w ∷ ws) k l peered) low (subst (λ m. n < m) numbers.0 high) each in
          (found.0.made, subst (λ m. Has (λ x. x ≡ (m, found.0.made)) l.ended) found.1 found.2.kept);
    }

-- ---- the turn at which the clients have ended

module _ (peers : PeerLaws (BoardEntry Ask)) (shuts : ShutLaws) (o j m : Known (BoardEntry Ask)) (o_zero : o.number ≡ 0) (own : IsOwn board_caller o) (legal : LegalBoard o.seen) (unshut : is_shut o.seen ≡ false)
    (number : j.number ≡ o.number) (made : j.made ≡ o.made) (seen : StartsWith j.seen o.seen) (ended : HaveEnded j) (turn : AtTurn board_caller LegalBoard j (λ h. Leaves j h m)) where
  abbrev h : List (BoardEntry Ask)
  h = turn.0

  seen-all : m.seen ≡ h
  seen-all = ap (λ (x : Known (BoardEntry Ask)). x.seen) turn.2

  -- others alone have gone on since the clients began
  pub met-others : OthersFollow board_caller o m.seen
  met-others = subst (OthersFollow board_caller o) (sym seen-all) (peers.first board_caller o j h own number made seen turn.1.shows)

  pub met-legal : LegalBoard m.seen
  met-legal = subst (λ xs. LegalBoard xs) (sym seen-all) turn.1.kept

  pub met-unshut : is_shut m.seen ≡ false
  met-unshut =
      let others = met-others in
      ap (λ xs. is_shut xs) others.1
      ∙ ((shuts.own o.seen others.0 o.number (shuts.others o.seen others.0 o.number (subst (λ xs. LegalBoard xs) others.1 met-legal, others.2))).1 o_zero ∙ unshut)

  pub met-gone : PeersGone m
  met-gone = subst PeersGone (sym turn.2) (shuts.gone j h turn.1 ended.first ended.ended)

  pub met-starts : StartsWith m.seen j.seen
  met-starts = (turn.1.others, seen-all ∙ turn.1.goes_on)

  pub met-joined : (lives : List Live) → AreLent lives o → ((p : ℕ) → owners p lives ≤ 1) → ((p : ℕ) → Owns o p → 1 ≤ owners p lives) → IsJoined lives m
  met-joined lives lent apart owned = record {
    ended = subst HaveEnded (sym turn.2) (record { first = ended.first; ended = ended.ended });
    before = o;
    own = own;
    rejoined = record {
      number = ap (λ (x : Known (BoardEntry Ask)). x.number) turn.2 ∙ number;
      made = ap (λ (x : Known (BoardEntry Ask)). x.made) turn.2 ∙ made;
      seen = starts_through m.seen j.seen o.seen met-starts seen;
    };
    legal = legal;
    lent = lent;
    apart = apart;
    owned = owned;
    unshut = unshut;
  }

-- ---- the board is shut

module _ (shuts : ShutLaws) (k l : Known (BoardEntry Ask)) (gone : PeersGone k) (turn : AtTurn board_caller LegalBoard k (λ h. Enters LegalBoard k h (Shut k.number) l)) where
  shut-own : IsOwn board_caller l
  shut-own =
      subst (λ (x : Known (BoardEntry Ask)). IsOwn board_caller x) (sym turn.2.0)
      (filter-append (λ e. board_caller e == k.number) turn.0 (Shut k.number ∷ [])
      ∙ (λ i. turn.1.shows.made i ++ (if eq-eqb k.number k.number refl i then Shut k.number ∷ [] else [])))

  pub shut-last : HasShutLast l
  shut-last = record {
    gone = subst PeersGone (sym turn.2.0) ((shuts.stay k turn.0 (Shut k.number) turn.1 gone).1 gone.first);
    own = shut-own;
    before = turn.0;
    shut = ap (λ (x : Known (BoardEntry Ask)). x.seen) turn.2.0 ∙ ap (λ n. turn.0 ++ Shut n ∷ []) gone.first;
  }

  pub shut-next : l.next ≡ k.next
  shut-next = ap (λ (x : Known (BoardEntry Ask)). x.next) turn.2.0

-- where no client began, none is left
pub none-began : (workers : ℕ) (k : Known (BoardEntry Ask)) → workers ≤ 16 → k.number ≡ 0 → k.next ≡ workers + 1 → PeersGone k
none-began workers k few zero_is next = record { first = zero_is; gone = λ n low high. absurd (omega arith) }

-- ---- the clients' texts

module _ {A : Type 0} where
  head-or : A → List A → A
  head-or d [] = d
  head-or d (x ∷ xs) = x

  tail-of : List A → List A
  tail-of [] = []
  tail-of (x ∷ xs) = xs

  pub get-at : (before : List A) (x : A) (xs : List A) → slice_get (before ++ x ∷ xs) (length before) ≡ Some x
  get-at [] x xs = refl
  get-at (y ∷ before) x xs = get-at before x xs

pub paid-of : (k : Known (BoardEntry Ask)) → EndsDelivered k → HasPaid k
paid-of k p = record { own = p.own; unshared = p.unshared; drained = p.drained }

module _ (workers : ℕ) (shared : List Live) (parts : List (List ℕ)) (o : Passes Ask) (r : List RegEntry) (b : List (BoardEntry Ask)) (kr : Known RegEntry) (kb : Known (BoardEntry Ask))
    (on_r : (w : Known RegEntry) → IsOwn reg_caller w → HasEnded w kr → OthersFollow reg_caller w r)
    (on_b : (w : Known (BoardEntry Ask)) → IsOwn board_caller w → HasEnded w kb → OthersFollow board_caller w b) where
  abbrev One : Type 0
  One = Passes Ask × Result ClientText Stop

  abbrev EndedIn : One → Type 0
  EndedIn x = HasEnded (knows x.0.registry) kr × HasEnded (knows x.0.board) kb

  pub record SaidAll (client : ℕ) (ps : List (List ℕ)) (rs : List One) (said : List ClientText) : Type 0 where
    pub texts : AreClientTexts workers client shared (map script_of ps) r b (texts_in said)
    pub malformed : list_any is_bad said ≡ list_any (list_any is_malformed) (map script_of ps)
    pub paid : Each (λ x. HasPaid (knows x.0.board)) rs

  one-said : (n client : ℕ) (part : List ℕ) (x : One) (said : ClientText) → client ≡ n - 16 → x.1 ≡ Ok said → IfOk x.1 (λ text. ClientAnswers workers (n - 16) shared (script_of part) x.0 text.reply.text text.malformed) → ClientAnswers workers client shared (script_of part) x.0 said.reply.text said.malformed
  one-said n client part x said is out answers =
      subst (λ c. ClientAnswers workers c shared (script_of part) x.0 said.reply.text said.malformed) (sym is)
      (subst (λ y. IfOk y (λ text. ClientAnswers workers (n - 16) shared (script_of part) x.0 text.reply.text text.malformed)) out answers)

  pub all-said : (before ps : List (List ℕ)) (n client : ℕ) (rs : List One) (said : List ClientText) → n ≡ 17 + length before → client ≡ 1 + length before → parts ≡ before ++ ps → length rs ≡ length ps
      → RunsOnBoth (λ n p q x. ClientRan workers shared parts n p q x) n o rs → map (λ x. x.1) rs ≡ map (λ x. Ok x) said → Each EndedIn rs → SaidAll client ps rs said
  unfolding head-or tail-of
  all-said before [] n client [] [] n_is c_is cut count runs all ended = record { texts = refl; malformed = refl; paid = tt }
  all-said before [] n client [] (s ∷ said) n_is c_is cut count runs all ended = absurd cc
  all-said before [] n client (x ∷ rs) said n_is c_is cut count runs all ended = absurd (omega arith)
  all-said before (part ∷ ps) n client [] said n_is c_is cut count runs all ended = absurd (omega arith)
  all-said before (part ∷ ps) n client (x ∷ rs) [] n_is c_is cut count runs all ended = absurd cc
  all-said before (part ∷ ps) n client (x ∷ rs) (s ∷ said) n_is c_is cut count runs all ended =
      let out : x.1 ≡ Ok s = ap (head-or x.1) all in
      let place : n - 17 ≡ length before = omega arith in
      let at : slice_get parts (n - 17) ≡ Some part = (λ i. slice_get (cut i) (place i)) ∙ get-at before part ps in
      let a = one-said n client part x s (omega arith) out (runs.0.2.answers part (omega arith) at) in
      let later =
      all-said (before ++ part ∷ []) ps (suc n) (client + 1) rs said (let e = length-append before (part ∷ []) in omega arith) (let e = length-append before (part ∷ []) in omega arith)
      (cut ∙ sym (append_assoc before (part ∷ []) ps)) (omega arith) runs.1 (ap tail-of all) ended.1 in
      record {
        texts = (a.text_after r b (on_r (knows x.0.registry) a.own_registry ended.0.0) (on_b (knows x.0.board) a.own_board ended.0.1), later.texts);
        malformed = (λ i. a.malformed i || later.malformed i);
        paid = (paid-of (knows x.0.board) a.paid, later.paid);
      }
