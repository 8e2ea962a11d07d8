-- What the histories of several scripts at once are.
use Rattle.std.proofs.Common.{◌≡◌, ◌<◌, ◌≤◌, ◌⊎◌, ◌+◌, ℕ, zero, suc, Bool, true, false, ◌||◌, List, [], ◌∷◌, ◌++◌, length, map, sym, refl, ap, ◌∙◌, subst, arith, inl, inr, append-nil}
use Rattle.std.specs.Prelude.{All}
use Rattle.std.specs.List.{list_any}
use Rattle.std.proofs.lemmas.List.Elements.{All-nil, All-cons, filter-append}
use Rattle.std.proofs.Math.Nat.{eq-or-lt_of_le}
use Rattle.alg_registry.specs.declared.entry.RegEntry.{RegEntry}
use Rattle.alg_registry.specs.Rows.{caller_of as reg_caller}
use Rattle.board.specs.declared.entry.BoardEntry.{BoardEntry}
use Rattle.board.specs.declared.entry.BoardEntry.TheVariants.{Shut}
use Rattle.board.specs.Allowance.{accepted_by}
use Rattle.board.specs.Entries.{is_of, entries_of, submissions, front, is_closed, is_shared, caller_of as board_caller}
use Rattle.board.specs.Legal.{MayManage, LegalBoard}
use Rattle.board.specs.Order.{completed, handed_out, numbers_below}
use Rattle.client_texts.specs.Outputs.{AreClientTexts, IsOutputOf}
use Rattle.client_texts.specs.OneList.{AreInOrder, AreOneList, AreCallersBeside, IsOneOf, caller_for}
use Rattle.crew.specs.declared.passes.Passes.{Passes}
use Rattle.crew.specs.Peers.{HasEnded, OthersFollow}
use Rattle.dialogues.specs.Texts.{IsClientText, AreFirstTexts}
use Rattle.dialogues.specs.ScriptState.{Live}
use Rattle.reply_text.specs.Answers.{text_of}
use Rattle.script_run.specs.Endings.{EndsShut, IsShutOnce}
use Rattle.script_run.specs.Text.{is_malformed}
use Rattle.script_text.specs.declared.commands.Line.{Line}
use Rattle.script_text.specs.Script.{script_of}
use Rattle.std.specs.List.{flat_map}
use Rattle.transforms.specs.declared.ask.Ask.{Ask}
use Rattle.turn_lock.specs.TurnLaws.{starts_through}
use Rattle.turn_lock.specs.Passes.{knows}
use Rattle.turn_lock.specs.Turns.{Known, Each, StartsWith}
use Rattle.client_run.specs.WithWorkers.{IsHistoryOf, HaveLeft, AnswersParts, AnswersRest, texts_in}
use Rattle.client_run.specs.EndLaws.{EndLaws}
use Rattle.client_run.proofs.Ended.{each-map, each-left, begins, client-alone, first-alone, callers-beside}
use Rattle.client_run.proofs.FirstText.{first-texts}
use Rattle.client_run.proofs.Paid.{HasPaid, numbers-of, finished-by, shared-is-first}
use Rattle.client_run.proofs.Rest.{each-of-map, length-of-map, met-others, have-ended, next-of, SaidAll, all-said}
use Rattle.client_run.proofs.ShutLast.{IsBeside, crews-follow, shut-is-last, seen-whole, goes-on, legal-front}

all-of-each : {A : Type 0} (P Q : A → Type 0) → ((x : A) → P x → Q x) → (xs : List A) → Each P xs → All Q xs
all-of-each P Q f [] each = All-nil Q
all-of-each P Q f (x ∷ xs) each = All-cons Q x xs (f x each.0) (all-of-each P Q f xs each.1)

each-both : {A : Type 0} (P Q : A → Type 0) (xs : List A) → Each P xs → Each Q xs → Each (λ x. P x × Q x) xs
each-both P Q [] p q = tt
each-both P Q (x ∷ xs) p q = ((p.0, q.0), each-both P Q xs p.1 q.1)

map-of-each : {A B : Type 0} (P : B → Type 0) (f : A → B) (xs : List A) → Each (λ x. P (f x)) xs → Each P (map f xs)
map-of-each P f [] each = tt
map-of-each P f (x ∷ xs) each = (each.0, map-of-each P f xs each.1)

-- the text of a client among those of all
pub record OneText (workers client : ℕ) (shared : List Live) (r : List RegEntry) (b : List (BoardEntry Ask)) : Type 0 where
  pub lines : List Line
  pub text : List ℕ
  pub is : IsClientText workers client shared lines r b text

one-text : (workers client n : ℕ) (shared : List Live) (parts : List (List Line)) (r : List RegEntry) (b : List (BoardEntry Ask)) (texts : List (List ℕ)) → AreClientTexts workers client shared parts r b texts
    → client ≤ n → n < client + length parts → OneText workers n shared r b
one-text workers client n shared [] r b texts are low high = absurd (omega arith)
one-text workers client n shared (lines ∷ parts) r b [] are low high = absurd are
one-text workers client n shared (lines ∷ parts) r b (text ∷ texts) are low high = by_place (eq-or-lt_of_le low) (one-text workers (client + 1) n shared parts r b texts are.1)
  where
    by_place : (client ≡ n) ⊎ (client < n) → (client + 1 ≤ n → n < client + 1 + length parts → OneText workers n shared r b) → OneText workers n shared r b
    by_place (inl is) later = record { lines = lines; text = text; is = subst (λ c. IsClientText workers c shared lines r b text) is are.0 }
    by_place (inr lt) later = later (omega arith) (omega arith)

-- the shut is of no pipeline
same-but-shut : (p n : ℕ) (xs before : List (BoardEntry Ask)) → xs ≡ before ++ Shut n ∷ [] → entries_of p xs ≡ entries_of p before
same-but-shut p n xs before is = ap (λ es. entries_of p es) is ∙ (filter-append (is_of p) before (Shut n ∷ []) ∙ append-nil (entries_of p before))

module _ (laws : EndLaws) (workers clients : ℕ) (few : workers ≤ 16) (q : Passes Ask) (left : HaveLeft workers clients q) (r : List RegEntry) (b : List (BoardEntry Ask))
    (hr : IsHistoryOf reg_caller (knows q.registry) r) (hb : IsHistoryOf board_caller (knows q.board) b) (legal : LegalBoard b) where
  abbrev kr : Known RegEntry
  kr = knows q.registry

  abbrev kb : Known (BoardEntry Ask)
  kb = knows q.board

  beside-r : Each (λ e. IsOneOf workers clients (reg_caller e)) r
  beside-r = callers-beside reg_caller kr r hr laws.registry.callers workers clients left.registry left.gave_registry

  beside-b : Each (λ e. IsOneOf workers clients (board_caller e)) b
  beside-b = callers-beside board_caller kb b hb laws.board.callers workers clients left.shut.gone.first left.gave_board

  pub callers-are : AreCallersBeside workers clients r b
  callers-are = (
    all-of-each (λ e. IsOneOf workers clients (reg_caller e)) (λ e. IsOneOf workers clients (reg_caller e)) (λ e x. x) r beside-r,
    all-of-each (λ e. IsOneOf workers clients (board_caller e)) (λ e. IsOneOf workers clients (board_caller e)) (λ e x. x) b beside-b,
  )

  pub shut-once : IsShutOnce workers b
  shut-once =
      let follow = crews-follow kb b hb left.shut legal laws.shut.work workers clients beside-b in
      record { before = left.shut.before; after = (begins board_caller kb b hb).0; history = follow.0; work = follow.1 }

  -- ---- where all parts were answered

  module _ (first : List Line) (parts : List (List ℕ)) (some : 1 ≤ clients) (count : length parts ≡ clients) (text : List ℕ) (bad : Bool) (all : AnswersParts workers first parts q text bad) where
    abbrev rest : AnswersRest workers all.shared parts all.opened q all.opening text all.bad_first bad
    rest = all.rest

    abbrev jr : Known RegEntry
    jr = knows rest.joined.registry

    abbrev jb : Known (BoardEntry Ask)
    jb = knows rest.joined.board

    abbrev or_ : Known RegEntry
    or_ = knows all.opened.registry

    abbrev ob : Known (BoardEntry Ask)
    ob = knows all.opened.board

    abbrev ws-r : List (Known RegEntry)
    ws-r = map (λ x. knows x.0.registry) rest.rs

    abbrev ws-b : List (Known (BoardEntry Ask))
    ws-b = map (λ x. knows x.0.board) rest.rs

    left-b : (jb.number ≡ ob.number) × (jb.made ≡ ob.made) × StartsWith jb.seen ob.seen × StartsWith jb.ended ob.ended
    left-b = laws.board.leave 17 ws-b ob jb rest.ran.2

    left-r : (jr.number ≡ or_.number) × (jr.made ≡ or_.made) × StartsWith jr.seen or_.seen × StartsWith jr.ended or_.ended
    left-r = laws.registry.leave 17 ws-r or_ jr rest.ran.3

    -- the pass at its end has what it had when the clients had ended
    seen-b : StartsWith kb.seen jb.seen
    seen-b =
        starts_through kb.seen rest.met.seen jb.seen rest.ends.called.seen
        (rest.turn.1.others, ap (λ (x : Known (BoardEntry Ask)). x.seen) rest.turn.2 ∙ rest.turn.1.goes_on)

    ended-b : kb.ended ≡ jb.ended
    ended-b = rest.ends.ended ∙ ap (λ (x : Known (BoardEntry Ask)). x.ended) rest.turn.2

    have-r : Each (λ x. HasEnded (knows x.0.registry) kr) rest.rs
    have-r =
        each-of-map (λ w. HasEnded w kr) (λ x. knows x.0.registry) rest.rs
        (subst (λ k. Each (λ w. HasEnded w k) ws-r) (sym rest.registry) (laws.registry.ended 17 ws-r or_ jr rest.ran.3))

    have-b : Each (λ x. HasEnded (knows x.0.board) kb) rest.rs
    have-b =
        each-of-map (λ w. HasEnded w kb) (λ x. knows x.0.board) rest.rs
        (each-map (λ w. HasEnded w jb) (λ w. HasEnded w kb) (λ w. λ ended. laws.board.stays w jb kb ended seen-b ([], ended-b ∙ sym (append-nil jb.ended))) ws-b (laws.board.ended 17 ws-b ob jb rest.ran.2))

    have : Each (λ x. HasEnded (knows x.0.registry) kr × HasEnded (knows x.0.board) kb) rest.rs
    have = each-both (λ x. HasEnded (knows x.0.registry) kr) (λ x. HasEnded (knows x.0.board) kb) rest.rs have-r have-b

    said-all : SaidAll workers all.shared parts all.opened r b kr kb
        (client-alone reg_caller kr r hr laws.registry.stays laws.registry.alone) (client-alone board_caller kb b hb laws.board.stays laws.board.alone) 1 parts rest.rs rest.said
    said-all = all-said workers all.shared parts all.opened r b kr kb
        (client-alone reg_caller kr r hr laws.registry.stays laws.registry.alone) (client-alone board_caller kb b hb laws.board.stays laws.board.alone)
        [] parts 17 1 rest.rs rest.said refl refl refl rest.ran.0 rest.ran.1 rest.all have

    -- ---- the shut is last, and what it shares the first one has

    number-b : kb.number ≡ 0
    number-b = left.shut.gone.first

    rs-count : length ws-b ≡ clients
    rs-count = length-of-map (λ x. knows x.0.board) rest.rs ∙ (rest.ran.0 ∙ count)

    next-b : kb.next ≡ 17 + clients
    next-b = rest.ends.called.next ∙ (ap (λ (x : Known (BoardEntry Ask)). x.next) rest.turn.2 ∙ next-of laws.board clients ws-b ob jb some rs-count rest.ran.2)

    paid : Each (λ w. HasEnded w kb × HasPaid w) ws-b
    paid = map-of-each (λ w. HasEnded w kb × HasPaid w) (λ x. knows x.0.board) rest.rs
        (each-both (λ x. HasEnded (knows x.0.board) kb) (λ x. HasPaid (knows x.0.board)) rest.rs have-b said-all.paid)

    on-b : b ≡ kb.seen ++ (begins board_caller kb b hb).0
    on-b = goes-on kb b hb left.shut legal

    legal-seen : LegalBoard kb.seen
    legal-seen = legal-front [] kb.seen (begins board_caller kb b hb).0 (subst (λ xs. LegalBoard xs) on-b legal)

    beside-seen : Each (IsBeside workers clients) kb.seen
    beside-seen = each-left (IsBeside workers clients) kb.seen (begins board_caller kb b hb).0 (subst (Each (IsBeside workers clients)) on-b beside-b)

    -- the first one's pipelines were finished when it shut the board
    own-finished : (p : ℕ) → MayManage (entries_of p kb.seen) 0 → is_closed (entries_of p kb.seen) ≡ false → front (entries_of p kb.seen) ≡ length (submissions (entries_of p kb.seen))
    own-finished p may opened =
        let e = rest.ends.shut in
        let same = same-but-shut p kb.number kb.seen e.before e.shut in
        subst (λ es. front es ≡ length (submissions es)) (sym same)
        (e.finished p (subst (λ es. MayManage es kb.number) same (subst (λ n. MayManage (entries_of p kb.seen) n) (sym number-b) may)) (subst (λ es. is_closed es ≡ false) same opened))

    finished : (p caller : ℕ) → MayManage (entries_of p kb.seen) caller → is_closed (entries_of p kb.seen) ≡ false → front (entries_of p kb.seen) ≡ length (submissions (entries_of p kb.seen))
    finished = finished-by b kb hb left.shut legal-seen laws.shut.others laws.shut.mine laws.shut.drained legal workers clients few beside-seen next-b ws-b (numbers-of 17 ws-b ob jb rest.ran.2) rs-count paid own-finished

    pub ends-shut : EndsShut b
    ends-shut = (left.shut.before, shut-is-last kb b hb left.shut legal laws.shut.work laws.shut.makers laws.shut.last finished)

    whole : b ≡ kb.seen
    whole = seen-whole kb b hb left.shut legal laws.shut.work laws.shut.makers laws.shut.last finished

    -- ---- the texts

    -- since the clients began others alone had gone on when they had ended
    others-met : OthersFollow board_caller ob rest.met.seen
    others-met =
        let o = all.opens in
        met-others laws.board laws.shut ob jb rest.met all.board_zero o.own_board o.legal o.unshut left-b.0 left-b.1 left-b.2 (have-ended laws.board clients ws-b ob jb all.board_zero some rs-count rest.ran.2) rest.turn

    met-zero : rest.met.number ≡ 0
    met-zero = ap (λ (x : Known (BoardEntry Ask)). x.number) rest.turn.2 ∙ (left-b.0 ∙ all.board_zero)

    first-are : AreFirstTexts workers first all.opens.script_state r b all.opening (flat_map text_of rest.ends.said)
    first-are =
        let o = all.opens in
        first-texts laws.calls workers first r b or_ ob rest.met kb o.script_state all.shared o.turn o.shares rest.ends.calls rest.ends.said all.opening (flat_map text_of rest.ends.said)
        o.is o.makes o.lives o.text_is o.registry o.settled all.registry_zero
        (first-alone reg_caller kr r hr laws.registry.first or_ o.own_registry (ap (λ (x : Known RegEntry). x.number) rest.registry ∙ left-r.0) (ap (λ (x : Known RegEntry). x.made) rest.registry ∙ left-r.1) (subst (λ x. StartsWith x.seen or_.seen) (sym rest.registry) left-r.2))
        o.leads o.board all.board_zero others-met met-zero number-b rest.ends.called.calls_are whole (rest.ends.is o.script_state o.lives) refl

    pub printed : IsOutputOf workers first (map script_of parts) r b text
    printed = record {
      made = all.opens.script_state;
      opening = all.opening;
      texts = texts_in rest.said;
      ending = flat_map text_of rest.ends.said;
      alone = first-are;
      clients = subst (λ lives. AreClientTexts workers 1 lives (map script_of parts) r b (texts_in rest.said)) (sym all.opens.lives) said-all.texts;
      output_is = rest.ends.says;
    }

    pub malformed-is : bad ≡ list_any is_malformed first || list_any (list_any is_malformed) (map script_of parts)
    malformed-is = rest.malformed ∙ (λ i. all.opens.malformed i || said-all.malformed i)

    -- ---- the one list of each pipeline that is shared

    ordered : (p client : ℕ) → client ≤ clients → AreInOrder client 1 (accepted_by (caller_for client) (entries_of p b))
    ordered p zero le = laws.first_in_order workers first all.opens.script_state r b all.opening (flat_map text_of rest.ends.said) p first-are
    ordered p (suc client) le =
        let one = one-text workers 1 (suc client) all.shared (map script_of parts) r b (texts_in rest.said) said-all.texts (omega arith) (let e = length-of-map script_of parts in omega arith) in
        let same : 16 + suc client ≡ 17 + client = omega arith in
        subst (λ n. AreInOrder (suc client) 1 (accepted_by n (entries_of p b))) same (laws.clients_in_order workers (suc client) all.shared one.lines r b one.text p one.is)

    pub one-lists : AreOneList clients b
    one-lists p shared =
        let first_ = shared-is-first b kb hb left.shut legal-seen laws.shut.others laws.shut.mine laws.shut.drained legal workers clients few beside-seen next-b ws-b (numbers-of 17 ws-b ob jb rest.ran.2) rs-count paid laws.shut.right p
        (subst (λ xs. is_shared (entries_of p xs) ≡ true) whole shared) in
        record {
          ordered = ordered p;
          handed = subst (λ xs. completed (handed_out (entries_of p xs)) ≡ numbers_below (length (submissions (entries_of p xs)))) (sym whole)
              (rest.ends.handed p (subst (λ n. MayManage (entries_of p kb.seen) n) (sym number-b) first_.0, first_.1));
        }
