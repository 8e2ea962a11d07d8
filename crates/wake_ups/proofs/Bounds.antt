-- What bounds the jobs that wait, and what of it stays as the words change.
use Rattle.std.proofs.Common.{◌≡◌, ℕ, zero, suc, ◌+◌, ◌-◌, ◌<◌, ◌≤◌, ◌⊎◌, inl, inr, ◌++◌, List, [], ◌∷◌, length, ap, ◌∙◌, subst, arith}
use Prim.Native.Nat.{max}
use Rattle.wake_ups.specs.Wakeups.{Wakeups, Word, NotBefore, May, At, without, after}
use Rattle.wake_ups.specs.Wakeups.Step.{Move_epoch, Wake_none}
use Rattle.wake_ups.specs.Laws.{lookers}

-- The jobs are no more than r and the awake, or what one had read; for each that read it earlier with one more for each
-- that read later; and than r, the awake and all of these.
abbrev pub Covers : ℕ → ℕ → ℕ → List ℕ → Type 0
Covers j a r [] = j ≤ a + r
Covers j a r (v ∷ vs) = (j ≤ max a v + r) × Covers j a (suc r) vs

-- the looks and notifications to come of those who look or notify whatever they read
abbrev pub base : Wakeups → ℕ
base b = lookers b + b.putting + b.rousing + b.notifying + b.moving

-- where a worker sleeps, or is about to, and the epoch has not moved since it read it
abbrev pub Covered : Wakeups → Type 0
Covered b = Covers b.jobs b.awake (base b) b.comparing

-- where more sleep for whom it has moved than will be woken
abbrev pub CoveredRung : Wakeups → Type 0
CoveredRung b = Covers b.jobs b.awake (base b + b.waking) b.comparing

-- each element is such
abbrev pub Each : {A : Type 0} → (A → Type 0) → List A → Type 0
Each P [] = Unit {0}
Each P (x ∷ xs) = P x × Each P xs

-- who found none after this word may forget, if it still stands
abbrev pub MayForget : Wakeups → Word → Type 0
MayForget b read = NotBefore read b.word × (read ≡ b.word → b.jobs ≤ b.putting)

-- and who took a job may notice it: one count is too many
abbrev pub MayNotice : Wakeups → Word → Type 0
MayNotice b read = NotBefore read b.word × (read ≡ b.word → 0 < b.word.unnoticed → b.jobs + 1 ≤ b.word.unnoticed + b.putting + lookers b)

pub record Keeps (n : ℕ) (b : Wakeups) : Type 0 where
  pub awake : b.awake ≡ b.spinning + b.roused
  pub waiters : b.waiters ≡ b.announced + b.last_looking + b.last_looking_rung + length b.drowsy + length b.drowsy_rung + b.sleepy + b.sleepy_rung + b.asleep + b.asleep_rung + b.kept
  pub all : n ≡ b.running + length b.taking + length b.emptied + b.between + b.idle + b.spinning + b.roused + b.looking + b.tired + b.announced + b.last_looking + b.last_looking_rung + length b.drowsy + length b.drowsy_rung + b.sleepy + b.sleepy_rung + b.asleep + b.asleep_rung
  -- each job is unnoticed, or not yet counted, or a worker is on its way to look
  pub counted : b.jobs ≤ b.word.unnoticed + b.putting + lookers b
  pub emptied : Each (MayForget b) b.emptied
  pub drowsy : Each (MayForget b) b.drowsy
  pub drowsy_rung : Each (MayForget b) b.drowsy_rung
  pub taking : Each (MayNotice b) b.taking
  pub helping : Each (MayNotice b) b.helping
  -- while a worker sleeps on
  pub sleeps : 0 < b.asleep + length b.drowsy + b.sleepy → Covered b
  pub unrung : b.waking < b.asleep_rung → CoveredRung b

-- ---- lists

module _ {A : Type 0} where
  pub each_map : {P Q : A → Type 0} → ((x : A) → P x → Q x) → (xs : List A) → Each P xs → Each Q xs
  each_map f [] e = tt
  each_map f (x ∷ xs) e = (f x e.0, each_map f xs e.1)

  pub each_left : (P : A → Type 0) (k : ℕ) (xs : List A) → Each P xs → Each P (without k xs)
  each_left P k [] e = tt
  each_left P zero (x ∷ xs) e = e.1
  each_left P (suc k) (x ∷ xs) e = (e.0, each_left P k xs e.1)

  pub each_both : (P : A → Type 0) (xs ys : List A) → Each P xs → Each P ys → Each P (xs ++ ys)
  each_both P [] ys e f = f
  each_both P (x ∷ xs) ys e f = (e.0, each_both P xs ys e.1 f)

  pub shorter : (P : A → Type 0) (k : ℕ) (xs : List A) → At P k xs → length xs ≡ length (without k xs) + 1
  shorter P k [] m = absurd m
  shorter P zero (x ∷ xs) m = omega arith
  shorter P (suc k) (x ∷ xs) m = let e = shorter P k xs m in omega arith

  pub both_long : (xs ys : List A) → length (xs ++ ys) ≡ length xs + length ys
  both_long [] ys = omega arith
  both_long (x ∷ xs) ys = let e = both_long xs ys in omega arith

  pub at_both : {P Q : A → Type 0} (k : ℕ) (xs : List A) → At P k xs → Each Q xs → (x : A) × P x × Q x
  at_both k [] m e = absurd m
  at_both zero (x ∷ xs) m e = (x, m, e.0)
  at_both (suc k) (x ∷ xs) m e = at_both k xs m e.1

-- ---- the word

-- more came, or as many and fewer are unnoticed
abbrev pub Beyond : Word → Word → Type 0
Beyond w v = (w.came < v.came) ⊎ ((w.came ≡ v.came) × (v.unnoticed < w.unnoticed))

pub later : (u w v : Word) → NotBefore u w → Beyond w v → NotBefore u v
later u w v (inl a) (inl b) = inl (omega arith)
later u w v (inl a) (inr b) = inl (omega arith)
later u w v (inr a) (inl b) = inl (omega arith)
later u w v (inr a) (inr b) = inr (omega arith)

-- what was read before a change is the word no more
pub passed : (u w v : Word) → NotBefore u w → Beyond w v → u ≡ v → ⊥
passed u w v n b e = let came : u.came ≡ v.came = ap (λ (x : Word). x.came) e in let unnoticed : u.unnoticed ≡ v.unnoticed = ap (λ (x : Word). x.unnoticed) e in omega arith

pub forgets_later : (b c : Wakeups) → Beyond b.word c.word → (u : Word) → MayForget b u → MayForget c u
forgets_later b c f u m = (later u b.word c.word m.0 f, λ e. absurd (passed u b.word c.word m.0 f e))

pub notices_later : (b c : Wakeups) → Beyond b.word c.word → (u : Word) → MayNotice b u → MayNotice c u
notices_later b c f u m = (later u b.word c.word m.0 f, λ e. absurd (passed u b.word c.word m.0 f e))

pub some_unnoticed : (u w : Word) → (u ≡ w) × (0 < u.unnoticed) → 0 < w.unnoticed
some_unnoticed u w m = subst (λ (x : Word). 0 < x.unnoticed) m.0 m.1

-- who may forget finds no job that is counted
pub may_forget : (b : Wakeups) (k : ℕ) (us : List Word) → At (λ read. (read ≡ b.word) × (0 < read.unnoticed)) k us → Each (MayForget b) us → (0 < b.word.unnoticed) × (b.jobs ≤ b.putting)
may_forget b k us m e = let h = at_both k us m e in (some_unnoticed h.0 b.word h.1, h.2.1 h.1.0)

pub may_notice : (b : Wakeups) (k : ℕ) (us : List Word) → At (λ read. (read ≡ b.word) × (0 < read.unnoticed)) k us → Each (MayNotice b) us → (0 < b.word.unnoticed) × (b.jobs + 1 ≤ b.word.unnoticed + b.putting + lookers b)
may_notice b k us m e = let h = at_both k us m e in let s = some_unnoticed h.0 b.word h.1 in (s, h.2.1 h.1.0 s)

-- ---- the list of those who compare

pub covers_keep : (j a r j' a' r' : ℕ) (vs : List ℕ) → a + r + j' ≤ a' + r' + j → r + j' ≤ r' + j → Covers j a r vs → Covers j' a' r' vs
covers_keep j a r j' a' r' [] e f c = omega arith
covers_keep j a r j' a' r' (v ∷ vs) e f c = let d = c.0 in (omega arith, covers_keep j a (suc r) j' a' (suc r') vs (omega arith) (omega arith) c.1)

pub covers_nothing : (j a r : ℕ) (vs : List ℕ) → j ≡ 0 → Covers j a r vs
covers_nothing j a r [] e = omega arith
covers_nothing j a r (v ∷ vs) e = (omega arith, covers_nothing j a (suc r) vs e)

pub covers_awake : (j a r : ℕ) (vs : List ℕ) → j ≤ a + r → Covers j a r vs
covers_awake j a r [] e = e
covers_awake j a r (v ∷ vs) e = (omega arith, covers_awake j a (suc r) vs (omega arith))

-- one that read no more than are awake may leave
pub leaves : (j a k r : ℕ) (vs : List ℕ) → At (λ v. v ≤ a) k vs → Covers j a r vs → Covers j a r (without k vs)
leaves j a k r [] m c = c
leaves j a zero r (v ∷ vs) m c = let d = c.0 in covers_awake j a r vs (omega arith)
leaves j a (suc k) r (v ∷ vs) m c = (c.0, leaves j a k (suc r) vs m c.1)

-- one goes on to notify
pub rung : (j a k r : ℕ) (vs : List ℕ) → Covers j a r vs → Covers j a (suc r) (without k vs)
rung j a k r [] c = omega arith
rung j a zero r (v ∷ vs) c = c.1
rung j a (suc k) r (v ∷ vs) c = let d = c.0 in (omega arith, rung j a k (suc r) vs c.1)

-- all those who compare count as well
pub covers_all : (j a r : ℕ) (vs : List ℕ) → Covers j a r vs → j ≤ a + r + length vs
covers_all j a r [] c = omega arith
covers_all j a r (v ∷ vs) c = let d = covers_all j a (suc r) vs c.1 in omega arith

-- ---- from one state to the next

-- no less is covered
pub goes : (b c : Wakeups) (r r' : ℕ) → Covers b.jobs b.awake r c.comparing → (b.awake + r + c.jobs ≤ c.awake + r' + b.jobs) × (r + c.jobs ≤ r' + b.jobs) → Covers c.jobs c.awake r' c.comparing
goes b c r r' v e = covers_keep b.jobs b.awake r c.jobs c.awake r' c.comparing e.0 e.1 v

pub covers_none : (b c : Wakeups) (r' : ℕ) → c.jobs ≡ b.jobs → b.jobs ≡ 0 → Covers c.jobs c.awake r' c.comparing
covers_none b c r' e z = covers_nothing c.jobs c.awake r' c.comparing (e ∙ z)

-- one that read this joins those who compare
pub reads : (b c : Wakeups) (v r r' : ℕ) → Covers b.jobs b.awake r b.comparing → (c.jobs ≤ v + r') × (c.jobs ≡ b.jobs) × (c.awake ≡ b.awake) × (r ≤ suc r') → Covers c.jobs c.awake r' (v ∷ b.comparing)
reads b c v r r' d e =
    let e0 = e.0 in let e1 = e.1 in let e2 = e.2 in let e3 = e.3 in
    (omega arith, covers_keep b.jobs b.awake r c.jobs c.awake (suc r') b.comparing (omega arith) (omega arith) d)

pub notifies : (b c : Wakeups) (k r r' : ℕ) → Covers b.jobs b.awake r b.comparing → (c.jobs ≡ b.jobs) × (c.awake ≡ b.awake) × (r' ≡ suc r) → Covers c.jobs c.awake r' (without k b.comparing)
notifies b c k r r' d e =
    let e0 = e.0 in let e1 = e.1 in let e2 = e.2 in
    covers_keep b.jobs b.awake (suc r) c.jobs c.awake r' (without k b.comparing) (omega arith) (omega arith) (rung b.jobs b.awake k r b.comparing d)

-- a wake-up that wakes nobody, or one that sleeps on
pub wakes_none : (b : Wakeups) → (b.asleep_rung ≡ 0) ⊎ (0 < b.asleep) → b.waking - 1 < b.asleep_rung → (0 < b.asleep + length b.drowsy + b.sleepy → Covered b) → CoveredRung (after b Wake_none)
wakes_none b (inl none) h v = absurd (omega arith)
wakes_none b (inr some) h v = covers_keep b.jobs b.awake (base b) b.jobs b.awake (base b + (b.waking - 1)) b.comparing (omega arith) (omega arith) (v (omega arith))

-- the epoch moves while more sleep than will be woken
pub moves : (b : Wakeups) (asleep : ℕ) → b.asleep ≡ asleep → May b Move_epoch → b.waking + 1 < b.asleep + b.asleep_rung → (0 < b.asleep + length b.drowsy + b.sleepy → Covered b) → (b.waking < b.asleep_rung → CoveredRung b) → CoveredRung (after b Move_epoch)
moves b zero e m h v w =
    let c = after b Move_epoch in
    let long = both_long b.drowsy b.drowsy_rung in
    let long = both_long b.drowsy b.drowsy_rung in
    covers_keep b.jobs b.awake (base b + b.waking) b.jobs b.awake (base c + c.waking) b.comparing (omega arith) (omega arith) (w (omega arith))
moves b (suc a) e m h v w =
    let c = after b Move_epoch in
    let long = both_long b.drowsy b.drowsy_rung in
    let long = both_long b.drowsy b.drowsy_rung in
    covers_keep b.jobs b.awake (base b) b.jobs b.awake (base c + c.waking) b.comparing (omega arith) (omega arith) (v (omega arith))
