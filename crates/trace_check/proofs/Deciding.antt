-- The checker's tests on a pipeline decide what its entries say.
use Rattle.std.proofs.Common.{◌≡◌, ℕ, zero, suc, ◌+◌, ◌-◌, ◌^◌, ◌<◌, ◌≤◌, Bool, true, false, not, cond, ◌&&◌, ◌||◌, List, [], ◌∷◌, length, Option, Some, None, refl, sym, ◌∙◌, ap, subst, arith, inl, inr, ◌⊎◌}
use Rattle.std.specs.Prelude.{◌==◌, nat_lt, nat_le, slice_get}
use Rattle.std.specs.Bool.{Decides}
use Rattle.std.specs.Option.{option_map_or}
use Rattle.std.specs.Int.{bit_at}
use Rattle.std.proofs.lemmas.Bool.{cases_lt, le-leb, lt-leb, leb-true}
use Rattle.std.proofs.lemmas.Bool.Decides.{Decides-eqb, Decides-ltb, Decides-and, Decides-or, Decides-like}
use Rattle.alg_registry.specs.Legal.{is_worker}
use Rattle.board.specs.declared.entry.Shape.{Shape}
use Rattle.board.specs.declared.entry.Shape.TheVariants.{Pad, Queue, Chain}
use Rattle.board.specs.declared.entry.Entered.{Entered}
use Rattle.board.specs.declared.entry.Entered.TheVariants.{InProgress, Busy, NoSpace}
use Rattle.board.specs.declared.entry.BoardEntry.{BoardEntry}
use Rattle.board.specs.Shapes.{is_pad, has_queue, is_serial, bound_of, lists_of, is_born, has_queue_born, max_born, width_born, AreLists, IsShape}
use Rattle.board.specs.Entries.{birth, submissions, submitters, dequeued, passed_on, takers, has, front, told, verdict, waiting, starts, is_held, is_closed, is_shared, mask, IsMasked, IsMaker, maker_is, MayTake}
use Rattle.board.specs.Legal.{IsNoWorker, MaySubmit, MayManage, Is, IsOpenAs, IsOpen}
use Rattle.board.proofs.KeptCalls.{not_closed}
use Rattle.trace_check.specs.declared.pipe.Progress.{Progress}
use Rattle.trace_check.specs.declared.pipe.Progress.TheVariants.{Waits, Runs, Ended}
use Rattle.trace_check.specs.BoardReasons.{IsUntaken, IsRunning, MayServe, MayClose, IsNumbered, verdict_word}
use Rattle.trace_check.specs.Pipes.{PipeState, are_lists, is_shape, is_open_as, waits, runs, runs_by, passes, backlog_of, passed_by, starts_by, may_serve, may_close, may_manage, may_submit, has_submitted, is_masked, may_take, has_bits, same_number, is_numbered, is_answered}
use Rattle.trace_check.proofs.Standing.{IsAt, IsPipe}
use Rattle.trace_check.proofs.Requests.{front_is}

pub decides_true : {P : Type 0} → P → Decides true P
decides_true p = (λ h. p, λ h. refl)

pub decides_false : {P : Type 0} → (P → ⊥) → Decides false P
decides_false n = (λ h. cc, λ p. absurd (n p))

dec_eq : (x y m n : ℕ) → m ≡ x → n ≡ y → Decides (x == y) (m ≡ n)
dec_eq x y m n e f = Decides-like (x == y) (λ h. e ∙ (h ∙ sym f)) (λ h. sym e ∙ (h ∙ f)) (Decides-eqb x y)

dec_lt : (x y m n : ℕ) → m ≡ x → n ≡ y → Decides (nat_lt x y) (m < n)
dec_lt x y m n e f = Decides-like (nat_lt x y) (λ h. omega arith) (λ h. omega arith) (Decides-ltb x y)

dec_flag : (b c : Bool) → c ≡ b → Decides b (c ≡ true)
dec_flag b c e = (λ h. e ∙ h, λ h. sym e ∙ h)

dec_no_flag : (b c : Bool) → c ≡ b → Decides (not b) (c ≡ false)
dec_no_flag true c e = (λ h. cc, λ h. cc)
dec_no_flag false c e = (λ h. e, λ h. refl)

decides3 : {P Q R : Type 0} (a b c : Bool) → Decides a P → Decides b Q → Decides c R → Decides (a && (b && c)) (P × Q × R)
decides3 a b c p q r =
    Decides-like (a && (b && c)) (λ t. (t.0, t.1.0, t.1.1)) (λ t. (t.0, (t.1, t.2))) (Decides-and a (b && c) p (Decides-and b c q r))

dec_le : (x y : ℕ) → Decides (nat_le x y) (x ≤ y)
dec_le x y = (leb-true x y, le-leb x y)

-- What the pipeline is.
dec_lists : (lists : ℕ) → Decides (are_lists lists) (AreLists lists)
dec_lists lists = Decides-and _ _ (dec_le 1 lists) (dec_le lists 16)

pub dec_shape : (shape : Shape) → Decides (is_shape shape) (IsShape shape)
dec_shape (Pad lists) = dec_lists lists
dec_shape (Queue max) = dec_le 1 max
dec_shape (Chain max lists) = Decides-and _ _ (dec_le 1 max) (dec_lists lists)

pub few_lists : (shape : Shape) → IsShape shape → lists_of shape ≤ 16
few_lists (Pad lists) k = k.1
few_lists (Queue max) k = omega arith
few_lists (Chain max lists) k = k.1.1

pub dec_is : {A : Type 0} (such : Shape → Bool) (es : List (BoardEntry A)) (s : PipeState) → IsPipe es s → Decides (such s.shape) (Is such es)
dec_is such es s k = dec_flag (such s.shape) (is_born such (birth es)) (ap (is_born such) k.marks.born)

dec_unclosed : {A : Type 0} (es : List (BoardEntry A)) (s : PipeState) → IsPipe es s → Decides (not s.closed) (is_closed es ≡ false)
dec_unclosed es s k = dec_no_flag s.closed (is_closed es) k.marks.closing

pub dec_unshared : {A : Type 0} (es : List (BoardEntry A)) (s : PipeState) → IsPipe es s → Decides (not s.shared) (is_shared es ≡ false)
dec_unshared es s k = dec_no_flag s.shared (is_shared es) k.marks.sharing

pub dec_open_as : {A : Type 0} (such : Shape → Bool) (es : List (BoardEntry A)) (s : PipeState) → IsPipe es s → Decides (is_open_as such s) (IsOpenAs such es)
dec_open_as such es s k = Decides-and _ _ (dec_is such es s k) (dec_unclosed es s k)

pad_or_line : (shape : Shape) → (is_pad shape ≡ true) ⊎ (has_queue shape ≡ true)
pad_or_line (Pad lists) = inl refl
pad_or_line (Queue max) = inr refl
pad_or_line (Chain max lists) = inr refl

either_open : {A : Type 0} (es : List (BoardEntry A)) (s : PipeState) → (is_pad s.shape ≡ true) ⊎ (has_queue s.shape ≡ true) → IsPipe es s → is_closed es ≡ false → IsOpen es
either_open es s (inl pad) k c = inl ((dec_is is_pad es s k).0 pad, c)
either_open es s (inr line) k c = inr ((dec_is has_queue es s k).0 line, c)

pub dec_open : {A : Type 0} (es : List (BoardEntry A)) (s : PipeState) → IsPipe es s → Decides (not s.closed) (IsOpen es)
dec_open es s k = Decides-like (not s.closed) (either_open es s (pad_or_line s.shape) k) (not_closed es) (dec_unclosed es s k)

-- How far a request is.
past_end : (rs : List Progress) (n : ℕ) → slice_get rs n ≡ None → n < length rs → ⊥
past_end [] n h lt = omega arith
past_end (r ∷ rs) zero h lt = cc
past_end (r ∷ rs) (suc n) h lt = past_end rs n h (omega arith)

-- how many are past the line
passed_either : {A : Type 0} (es : List (BoardEntry A)) (s : PipeState) (line : Bool) → IsPipe es s → cond line (dequeued es) (length (submissions es)) ≡ cond line s.dequeued (length s.requests)
passed_either es s true k = k.dequeuing
passed_either es s false k = k.requests.count

passed_is : {A : Type 0} (es : List (BoardEntry A)) (s : PipeState) → IsPipe es s → passed_on es ≡ passed_by s
passed_is es s k = ap (λ b. cond (has_queue_born b) (dequeued es) (length (submissions es))) k.marks.born ∙ passed_either es s (has_queue s.shape) k

few_either : (line : Bool) (gone count : ℕ) → gone ≤ count → cond line gone count ≤ count
few_either true gone count h = h
few_either false gone count h = omega arith

dec_waits_at : {A : Type 0} (es : List (BoardEntry A)) (rs : List Progress) (n : ℕ) (p : Option Progress) → n < length rs → slice_get rs n ≡ p → IsAt es n p → Decides (option_map_or waits p false) (takers n es ≡ [])
dec_waits_at es rs n None lt g k = absurd (past_end rs n g lt)
dec_waits_at es rs n (Some Waits) lt g k = decides_true k.0
dec_waits_at es rs n (Some (Runs caller)) lt g k = decides_false (λ h. (let b = k.0 in cc))
dec_waits_at es rs n (Some Ended) lt g k = decides_false (λ h. k.0 h)

dec_when : {P Q : Type 0} (a b : Bool) → Decides a P → (P → Decides b Q) → Decides (a && b) (P × Q)
dec_when true b p q = Decides-like b (λ t. (p.0 refl, t)) (λ t. t.1) (q (p.0 refl))
dec_when false b p q = decides_false (λ t. (let h = p.1 t.0 in cc))

pub dec_untaken : {A : Type 0} (es : List (BoardEntry A)) (s : PipeState) (n : ℕ) → IsPipe es s → Decides (nat_lt n (passed_by s) && passes waits s n) (IsUntaken es n)
dec_untaken es s n k =
    let is = passed_is es s k in
    let few = few_either (has_queue s.shape) s.dequeued (length s.requests) k.within in
    dec_when (nat_lt n (passed_by s)) (passes waits s n) (dec_lt n (passed_by s) n (passed_on es) refl is) (λ lt. dec_waits_at es s.requests n (slice_get s.requests n) (omega arith) refl (k.requests.each n))

dec_running_at : {A : Type 0} (es : List (BoardEntry A)) (n : ℕ) (p : Option Progress) → IsAt es n p → Decides (option_map_or runs p false) (IsRunning es n)
dec_running_at es n None k = decides_false (λ h. h.0 k.0)
dec_running_at es n (Some Waits) k = decides_false (λ h. h.0 k.0)
dec_running_at es n (Some (Runs caller)) k = decides_true (λ h. (let a = k.0 in cc), k.1)
dec_running_at es n (Some Ended) k = decides_false (λ h. (let a = h.1 in let b = k.1 in cc))

pub dec_running : {A : Type 0} (es : List (BoardEntry A)) (s : PipeState) (n : ℕ) → IsPipe es s → Decides (passes runs s n) (IsRunning es n)
dec_running es s n k = dec_running_at es n (slice_get s.requests n) (k.requests.each n)

-- who runs it, where it runs
dec_taker_at : {A : Type 0} (es : List (BoardEntry A)) (n caller : ℕ) (p : Option Progress) → IsAt es n p → option_map_or runs p false ≡ true → Decides (option_map_or (runs_by caller) p false) (takers n es ≡ caller ∷ [])
dec_taker_at es n caller None k r = cc
dec_taker_at es n caller (Some Waits) k r = cc
dec_taker_at es n caller (Some (Runs taker)) k r =
    Decides-like (taker == caller) (λ h. k.0 ∙ ap (λ c. c ∷ []) h) (λ h. (let a = k.0 in cc)) (Decides-eqb taker caller)
dec_taker_at es n caller (Some Ended) k r = cc

pub dec_taker : {A : Type 0} (es : List (BoardEntry A)) (s : PipeState) (n caller : ℕ) → IsPipe es s → passes runs s n ≡ true → Decides (passes (runs_by caller) s n) (takers n es ≡ caller ∷ [])
dec_taker es s n caller k r = dec_taker_at es n caller (slice_get s.requests n) (k.requests.each n) r

-- Its counts.
waiting_is : {A : Type 0} (es : List (BoardEntry A)) (s : PipeState) → IsPipe es s → waiting es ≡ backlog_of s
waiting_is es s k = ap (λ n. n - dequeued es) k.requests.count ∙ ap (λ n. length s.requests - n) k.dequeuing

front_of : {A : Type 0} (es : List (BoardEntry A)) (s : PipeState) → IsPipe es s → front es ≡ s.front
front_of es s k = front_is es s.requests k.requests ∙ sym k.front

max_of : {A : Type 0} (es : List (BoardEntry A)) (s : PipeState) → IsPipe es s → max_born (birth es) ≡ bound_of s.shape
max_of es s k = ap max_born k.marks.born

starts_is : {A : Type 0} (es : List (BoardEntry A)) (s : PipeState) (n : ℕ) → IsPipe es s → starts es n ≡ starts_by s n
starts_is es s n k =
    ap (λ m. cond (nat_lt (n + m) (length (submissions es))) (Some (n + m)) None) (max_of es s k)
    ∙ ap (λ l. cond (nat_lt (n + bound_of s.shape) l) (Some (n + bound_of s.shape)) None) k.requests.count

dec_idle_at : {P : Type 0} (serial b : Bool) (is : Type 0) → Decides serial is → Decides b P → Decides (not serial || b) (is → P)
dec_idle_at true b is d p = Decides-like b (λ h i. h) (λ f. f (d.0 refl)) p
dec_idle_at false b is d p = decides_true (λ i. (let h = d.1 i in cc))

pub dec_may_serve : {A : Type 0} (es : List (BoardEntry A)) (s : PipeState) → IsPipe es s → Decides (may_serve s) (MayServe es)
dec_may_serve es s k =
    decides3 _ _ _ (dec_no_flag s.held (is_held es) k.marks.holding)
    (dec_idle_at (is_serial s.shape) (s.finished == s.dequeued) (Is is_serial es) (dec_is is_serial es s k) (dec_eq _ _ _ _ k.finishing k.dequeuing))
    (dec_lt _ _ _ _ refl (waiting_is es s k))

pub dec_may_close : {A : Type 0} (es : List (BoardEntry A)) (s : PipeState) → IsPipe es s → Decides (may_close s) (MayClose es)
dec_may_close es s k =
    decides3 _ _ _ (dec_unshared es s k) (dec_eq _ _ _ _ (front_of es s k) k.requests.count) (dec_eq _ _ _ _ k.marks.place k.telling)

pub dec_masked : {A : Type 0} (es : List (BoardEntry A)) (s : PipeState) → IsPipe es s → Decides (nat_lt 0 s.mask) (0 < mask es)
dec_masked es s k = dec_lt _ _ _ _ refl k.marks.masking

-- Its callers.
dec_no_worker_at : (caller : ℕ) → (caller < 1) ⊎ (1 ≤ caller) → (16 < caller) ⊎ (caller ≤ 16) → Decides (not (is_worker caller)) (IsNoWorker caller)
dec_no_worker_at caller (inl low) h = (λ e. inl low, λ n. rw (lt-leb 1 caller low) refl)
dec_no_worker_at caller (inr high) (inl more) = (λ e. inr more, λ n. rw (le-leb 1 caller high, lt-leb caller 16 more) refl)
dec_no_worker_at caller (inr high) (inr less) = (λ e. absurd (worker_at caller high less e), λ n. absurd (⊎_absurd caller high less n))
  where
    worker_at : (caller : ℕ) → 1 ≤ caller → caller ≤ 16 → not (is_worker caller) ≡ true → ⊥
    worker_at caller high less e = (let a = le-leb 1 caller high in let b = le-leb caller 16 less in let f : not (true && true) ≡ true = ap (λ t. not t) (sym (ap (λ t. t && nat_le caller 16) a ∙ ap (λ t. true && t) b)) ∙ e in cc)

    ⊎_absurd : (caller : ℕ) → 1 ≤ caller → caller ≤ 16 → (caller < 1) ⊎ (16 < caller) → ⊥
    ⊎_absurd caller high less (inl a) = omega arith
    ⊎_absurd caller high less (inr a) = omega arith

pub dec_no_worker : (caller : ℕ) → Decides (not (is_worker caller)) (IsNoWorker caller)
dec_no_worker caller = dec_no_worker_at caller (cases_lt caller 1) (cases_lt 16 caller)

dec_maker : {A : Type 0} (es : List (BoardEntry A)) (s : PipeState) (caller : ℕ) → IsPipe es s → Decides (s.maker == caller) (IsMaker es caller)
dec_maker es s caller k = subst (λ b. Decides (s.maker == caller) (maker_is b caller)) (sym k.marks.born) (Decides-eqb s.maker caller)

pub dec_may_manage : {A : Type 0} (es : List (BoardEntry A)) (s : PipeState) (caller : ℕ) → IsPipe es s → Decides (may_manage s caller) (MayManage es caller)
dec_may_manage es s caller k = Decides-and _ _ (dec_no_worker caller) (dec_maker es s caller k)

pub dec_may_submit : {A : Type 0} (es : List (BoardEntry A)) (s : PipeState) (caller : ℕ) → IsPipe es s → Decides (may_submit s caller) (MaySubmit es caller)
dec_may_submit es s caller k =
    Decides-and _ _ (dec_no_worker caller) (Decides-or _ _ (dec_maker es s caller k) (dec_flag s.shared (is_shared es) k.marks.sharing))

dec_bit : (bits caller : ℕ) → Decides (is_masked bits caller) (IsMasked bits caller)
dec_bit bits caller =
    Decides-like (is_masked bits caller) (λ t. (t.0.0, t.0.1, t.1)) (λ t. ((t.0, t.1), t.2))
    (Decides-and (is_worker caller) (bit_at bits (caller - 1) == 1) (Decides-and _ _ (dec_le 1 caller) (dec_le caller 16)) (Decides-eqb (bit_at bits (caller - 1)) 1))

pub dec_may_take : {A : Type 0} (es : List (BoardEntry A)) (s : PipeState) (caller : ℕ) → IsPipe es s → Decides (may_take s caller) (MayTake es caller)
dec_may_take es s caller k =
    Decides-or _ _ (dec_maker es s caller k)
    (Decides-or _ _ (dec_flag (has_submitted s.submitters caller) (has caller (submitters es)) (k.noted caller))
    (subst (λ bits. Decides (is_masked s.mask caller) (IsMasked bits caller)) (sym k.marks.masking) (dec_bit s.mask caller)))

-- Its numbers.
pub dec_next : {A : Type 0} (es : List (BoardEntry A)) (s : PipeState) (n : ℕ) → IsPipe es s → Decides (n == length s.requests) (n ≡ length (submissions es))
dec_next es s n k = dec_eq _ _ _ _ refl k.requests.count

pub dec_numbered : {A : Type 0} (es : List (BoardEntry A)) (s : PipeState) (answer : Entered) → IsPipe es s → Decides (is_numbered s answer) (IsNumbered es answer)
dec_numbered es s (InProgress number) k = dec_next es s number k
dec_numbered es s (Busy number) k = dec_next es s number k
dec_numbered es s NoSpace k = decides_true tt

dec_same_number : (a b : Option ℕ) → Decides (same_number a b) (a ≡ b)
dec_same_number None None = decides_true refl
dec_same_number None (Some n) = decides_false (λ h. cc)
dec_same_number (Some m) None = decides_false (λ h. cc)
dec_same_number (Some m) (Some n) = Decides-like (m == n) (λ h. ap Some h) (λ h. cc) (Decides-eqb m n)

pub dec_dequeued : {A : Type 0} (es : List (BoardEntry A)) (s : PipeState) (n : ℕ) (started : Option ℕ) → IsPipe es s → Decides (n == s.dequeued && same_number started (starts_by s n)) ((n ≡ dequeued es) × (started ≡ starts es n))
dec_dequeued es s n started k =
    Decides-and _ _ (dec_eq _ _ _ _ refl k.dequeuing) (Decides-like _ (λ h. h ∙ sym (starts_is es s n k)) (λ h. h ∙ starts_is es s n k) (dec_same_number started (starts_by s n)))

pub dec_collected : {A : Type 0} (es : List (BoardEntry A)) (s : PipeState) (to : ℕ) → IsPipe es s → Decides (to == s.told) (to ≡ length (told es))
dec_collected es s to k = dec_eq _ _ _ _ refl k.telling

dec_bits_at : (lists bits : ℕ) → lists ≤ 16 → Decides (has_bits lists bits) (bits < 2 ^ lists)
dec_bits_at lists bits few = Decides-like (has_bits lists bits) (λ t. t.1) (λ t. (few, t)) (Decides-and _ _ (dec_le lists 16) (Decides-ltb bits (2 ^ lists)))

pub dec_bits : {A : Type 0} (es : List (BoardEntry A)) (s : PipeState) (bits : ℕ) → IsPipe es s → Decides (has_bits (lists_of s.shape) bits) (bits < 2 ^ width_born (birth es))
dec_bits es s bits k =
    subst (λ w. Decides (has_bits (lists_of s.shape) bits) (bits < 2 ^ w)) (sym (ap width_born k.marks.born)) (dec_bits_at (lists_of s.shape) bits (few_lists s.shape k.marks.shaped))

-- Its answers.
abbrev pub verdict_by : Bool → Bool → ℕ → Entered
verdict_by within backlog next = cond within (InProgress next) (cond backlog (Busy next) NoSpace)

abbrev answers : Bool → Bool → Entered → Bool
answers within backlog (InProgress number) = within
answers within backlog (Busy number) = not within && backlog
answers within backlog NoSpace = not within && not backlog

dec_word : (within backlog : Bool) (next : ℕ) (answer : Entered) → Decides (answers within backlog answer) (verdict_word answer ≡ verdict_word (verdict_by within backlog next))
dec_word true backlog next (InProgress number) = decides_true refl
dec_word true backlog next (Busy number) = decides_false (λ h. (let e = ap length h in omega arith))
dec_word true backlog next NoSpace = decides_false (λ h. (let e = ap length h in omega arith))
dec_word false true next (InProgress number) = decides_false (λ h. (let e = ap length h in omega arith))
dec_word false true next (Busy number) = decides_true refl
dec_word false true next NoSpace = decides_false (λ h. (let e = ap length h in omega arith))
dec_word false false next (InProgress number) = decides_false (λ h. (let e = ap length h in omega arith))
dec_word false false next (Busy number) = decides_false (λ h. (let e = ap length h in omega arith))
dec_word false false next NoSpace = decides_true refl

answers_is : (s : PipeState) (backlog : Bool) (answer : Entered) → is_answered s backlog answer ≡ answers (nat_lt (backlog_of s) (bound_of s.shape)) backlog answer
answers_is s backlog (InProgress number) = refl
answers_is s backlog (Busy number) = refl
answers_is s backlog NoSpace = refl

verdict_is : {A : Type 0} (es : List (BoardEntry A)) (s : PipeState) (backlog : Bool) → IsPipe es s → verdict es backlog ≡ verdict_by (nat_lt (backlog_of s) (bound_of s.shape)) backlog (length (submissions es))
verdict_is es s backlog k =
    ap (λ w. verdict_by (nat_lt w (max_born (birth es))) backlog (length (submissions es))) (waiting_is es s k)
    ∙ ap (λ m. verdict_by (nat_lt (backlog_of s) m) backlog (length (submissions es))) (max_of es s k)

pub dec_answered : {A : Type 0} (es : List (BoardEntry A)) (s : PipeState) (backlog : Bool) (answer : Entered) → IsPipe es s → Decides (is_answered s backlog answer) (verdict_word answer ≡ verdict_word (verdict es backlog))
dec_answered es s backlog answer k =
    subst (λ b. Decides b (verdict_word answer ≡ verdict_word (verdict es backlog))) (sym (answers_is s backlog answer))
    (subst (λ v. Decides (answers (nat_lt (backlog_of s) (bound_of s.shape)) backlog answer) (verdict_word answer ≡ verdict_word v)) (sym (verdict_is es s backlog k))
    (dec_word (nat_lt (backlog_of s) (bound_of s.shape)) backlog (length (submissions es)) answer))
