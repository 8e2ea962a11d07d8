-- A turn at the lock, with one call of the registry in it.
use Rattle.std.proofs.Common.{◌≡◌, ℕ, Bool, true, false, List, [], ◌∷◌, ◌++◌, Option, Some, None, Result, Ok, Err, sym, ap, ◌∙◌, subst}
use Rattle.std.specs.Prelude.{IfOk, IfErr, OnOk}
use Rattle.std.specs.Option.{option_map}
use Rattle.std.specs.Result.{is_ok}
use Rattle.alg_registry.specs.declared.entry.Ended.{Ended}
use Rattle.alg_registry.specs.declared.entry.Ended.TheVariants as ended
use Rattle.alg_registry.specs.declared.entry.EndAnswer.{EndAnswer}
use Rattle.alg_registry.specs.declared.entry.RegErr.{RegErr}
use Rattle.alg_registry.specs.declared.entry.RegErr.TheVariants.{Exist, NoEnt, Again, NFile, Memory}
use Rattle.alg_registry.specs.declared.entry.RegEntry.{RegEntry}
use Rattle.alg_registry.specs.declared.entry.Claimed.{Claimed}
use Rattle.alg_registry.specs.declared.entry.RegEntry.TheVariants.{Claim, End, Waited}
use Rattle.alg_registry.specs.Rows.{caller_of}
use Rattle.alg_registry.specs.Calls.{unless_memory, UnlessMemory, OnMemory, claim_entries, waited_entries}
use Rattle.alg_registry.specs.Made.{IsMade}
use Rattle.templates.specs.Table.{table}
use Rattle.turn_lock.specs.Turns.{Known, sees}
use Rattle.turn_lock.specs.Passes.{Added}
use Rattle.turn_lock.specs.PassLaws.{Enters, Leaves}
use Rattle.turn_lock.specs.PassLaws.{Meets as Met}
use Rattle.turn_lock.specs.TurnLaws.{enters, leaves, own_entered, own_left}
use Rattle.shared_registry.specs.Faithful.{IsFaithful}
use Rattle.shared_registry.specs.Passes.{IsSound, EntersIf, recorded, given}

pub made_unless : (h : List RegEntry) (caller larval : ℕ) (r : Ended) (answer : EndAnswer) → IsMade table h (End caller larval answer) → IsMade table h (End caller larval (unless_memory r answer))
made_unless h caller larval (ended.Built id) answer made = made
made_unless h caller larval (ended.Joined id) answer made = made
made_unless h caller larval (ended.Failed errno) answer made = made
made_unless h caller larval ended.NoMemory answer made = tt

abbrev pub Gave : Known RegEntry → List RegEntry → Bool → Known RegEntry → Type 0
Gave m y added l = Added (λ (h : List RegEntry). h) caller_of m y added l

-- a pass that entered, or left, is sound
pub sound_entered : (k l : Known RegEntry) (h : List RegEntry) (e : RegEntry) → caller_of e ≡ k.number → Met caller_of IsFaithful k h → Enters IsFaithful k h e l → IsSound l
sound_entered k l h e own met entered = record {
  faithful = subst IsFaithful (sym (ap (λ n. n.seen) entered.0)) entered.1;
  own = own_entered caller_of IsFaithful k l (λ _. e) (h, met, entered) own;
}

pub sound_left : (k l : Known RegEntry) (h : List RegEntry) → Met caller_of IsFaithful k h → Leaves k h l → IsSound l
sound_left k l h met left = record {
  faithful = subst IsFaithful (sym (ap (λ n. n.seen) left)) met.kept;
  own = own_left caller_of IsFaithful k l (h, met, left);
}

module _ (k m : Known RegEntry) (h y : List RegEntry) (l : Known RegEntry) (same : m ≡ sees k h) (good : IsFaithful y) where
  pub gave_one : (e : RegEntry) (added : Bool) → added ≡ true → y ≡ h ++ e ∷ [] → Gave m y added l → Enters IsFaithful k h e l
  gave_one e added is_true new gave = enters caller_of IsFaithful (λ (x : List RegEntry). x) k m l h y same e added is_true new good gave

  pub gave_none : (added : Bool) → added ≡ false → Gave m y added l → Leaves k h l
  gave_none added is_false gave = leaves caller_of IsFaithful (λ (x : List RegEntry). x) k m l h y same added is_false gave

  -- a call that records each answer but want of memory
  pub unless_memory_gave : {X : Type 0} (r : Result X RegErr) (e : ℕ → RegEntry) (n : ℕ) (h1 : List RegEntry) (added : Bool) → n ≡ k.number → h1 ≡ h → added ≡ recorded r → UnlessMemory r (y ≡ h1 ++ e n ∷ []) → Gave m y added l
      → UnlessMemory r (Enters IsFaithful k h (e k.number) l) × OnMemory r (Leaves k h l)
  unless_memory_gave (Ok x) e n h1 added own from flag did gave = (gave_one (e k.number) added flag (did ∙ (λ i. from i ++ e (own i) ∷ [])) gave, tt)
  unless_memory_gave (Err Memory) e n h1 added own from flag did gave = (tt, gave_none added flag gave)
  unless_memory_gave (Err Exist) e n h1 added own from flag did gave = (gave_one (e k.number) added flag (did ∙ (λ i. from i ++ e (own i) ∷ [])) gave, tt)
  unless_memory_gave (Err NoEnt) e n h1 added own from flag did gave = (gave_one (e k.number) added flag (did ∙ (λ i. from i ++ e (own i) ∷ [])) gave, tt)
  unless_memory_gave (Err Again) e n h1 added own from flag did gave = (gave_one (e k.number) added flag (did ∙ (λ i. from i ++ e (own i) ∷ [])) gave, tt)
  unless_memory_gave (Err NFile) e n h1 added own from flag did gave = (gave_one (e k.number) added flag (did ∙ (λ i. from i ++ e (own i) ∷ [])) gave, tt)

-- a fact beside, unless memory ran out
pub beside : {X : Type 0} (r : Result X RegErr) (P Q S : Type 0) → UnlessMemory r P → UnlessMemory r Q × S → UnlessMemory r (P × Q) × S
beside (Ok x) P Q S p q = ((p, q.0), q.1)
beside (Err Memory) P Q S p q = (tt, q.1)
beside (Err Exist) P Q S p q = ((p, q.0), q.1)
beside (Err NoEnt) P Q S p q = ((p, q.0), q.1)
beside (Err Again) P Q S p q = ((p, q.0), q.1)
beside (Err NFile) P Q S p q = ((p, q.0), q.1)

-- a call that records each answer but want of memory leaves a sound pass
pub sound_unless : {X : Type 0} (k l : Known RegEntry) (h : List RegEntry) (e : RegEntry) (P : Type 0) (r : Result X RegErr) → caller_of e ≡ k.number → Met caller_of IsFaithful k h → UnlessMemory r (P × Enters IsFaithful k h e l) × OnMemory r (Leaves k h l) → IsSound l
sound_unless k l h e P (Ok x) own met did = sound_entered k l h e own met did.0.1
sound_unless k l h e P (Err Memory) own met did = sound_left k l h met did.1
sound_unless k l h e P (Err Exist) own met did = sound_entered k l h e own met did.0.1
sound_unless k l h e P (Err NoEnt) own met did = sound_entered k l h e own met did.0.1
sound_unless k l h e P (Err Again) own met did = sound_entered k l h e own met did.0.1
sound_unless k l h e P (Err NFile) own met did = sound_entered k l h e own met did.0.1

module _ (k m : Known RegEntry) (h y : List RegEntry) (l : Known RegEntry) (same : m ≡ sees k h) (good : IsFaithful y) where
  -- a call that records where it answers
  pub ok_gave : {X : Type 0} (P : X → Type 0) (r : Result X RegErr) (e : ℕ → X → RegEntry) (n : ℕ) (added : Bool) → n ≡ k.number → added ≡ is_ok r → IfOk r P → IfOk r (λ x. y ≡ h ++ e n x ∷ []) → IfErr r (λ x. x ≡ Memory) → Gave m y added l
      → IfOk r (λ x. P x × Enters IsFaithful k h (e k.number x) l) × IfErr r (λ x. (x ≡ Memory) × Leaves k h l)
  ok_gave P (Ok x) e n added own flag p did memory gave = ((p, gave_one k m h y l same good (e k.number x) added flag (did ∙ (λ i. h ++ e (own i) x ∷ [])) gave), tt)
  ok_gave P (Err x) e n added own flag p did memory gave = (tt, (memory, gave_none k m h y l same good added flag gave))

  pub claim_gave : (f : ℕ → Claimed) (o : Option ℕ) (r : Result (Option Claimed) RegErr) (n : ℕ) (added : Bool) → n ≡ k.number → added ≡ given r → IfOk r (λ c. c ≡ option_map f o) → OnOk r (y ≡ h ++ claim_entries n o) → IfErr r (λ x. x ≡ Memory) → Gave m y added l
      → IfOk r (λ c. (c ≡ option_map f o) × EntersIf k h (option_map (λ larval. Claim k.number larval) o) l) × IfErr r (λ x. (x ≡ Memory) × Leaves k h l)
  claim_gave f None (Ok None) n added own flag p did memory gave = ((p, gave_none k m h y l same good added flag gave), tt)
  claim_gave f (Some x) (Ok (Some c)) n added own flag p did memory gave = ((p, gave_one k m h y l same good (Claim k.number x) added flag (did ∙ (λ i. h ++ Claim (own i) x ∷ [])) gave), tt)
  claim_gave f (Some x) (Ok None) n added own flag p did memory gave = absurd cc
  claim_gave f None (Ok (Some c)) n added own flag p did memory gave = absurd cc
  claim_gave f o (Err x) n added own flag p did memory gave = (tt, (memory, gave_none k m h y l same good added flag gave))

  pub waited_gave : (larval : ℕ) (o : Option Ended) (r : Result (Option Ended) RegErr) (n : ℕ) (added : Bool) → n ≡ k.number → added ≡ given r → IfOk r (λ e. e ≡ o) → OnOk r (y ≡ h ++ waited_entries n larval o) → IfErr r (λ x. x ≡ Memory) → Gave m y added l
      → IfOk r (λ e. (e ≡ o) × EntersIf k h (option_map (λ _. Waited k.number larval) o) l) × IfErr r (λ x. (x ≡ Memory) × Leaves k h l)
  waited_gave larval None (Ok None) n added own flag p did memory gave = ((p, gave_none k m h y l same good added flag gave), tt)
  waited_gave larval (Some x) (Ok (Some e)) n added own flag p did memory gave = ((p, gave_one k m h y l same good (Waited k.number larval) added flag (did ∙ (λ i. h ++ Waited (own i) larval ∷ [])) gave), tt)
  waited_gave larval (Some x) (Ok None) n added own flag p did memory gave = absurd cc
  waited_gave larval None (Ok (Some e)) n added own flag p did memory gave = absurd cc
  waited_gave larval o (Err x) n added own flag p did memory gave = (tt, (memory, gave_none k m h y l same good added flag gave))

  pub end_gave : (e : ℕ → RegEntry) (n : ℕ) (added : Bool) → n ≡ k.number → added ≡ true → y ≡ h ++ e n ∷ [] → Gave m y added l → Enters IsFaithful k h (e k.number) l
  end_gave e n added own flag did gave = gave_one k m h y l same good (e k.number) added flag (did ∙ (λ i. h ++ e (own i) ∷ [])) gave

-- a call that records where it answers leaves a sound pass
pub sound_ok : {X : Type 0} (k l : Known RegEntry) (h : List RegEntry) (e : X → RegEntry) (P : X → Type 0) (r : Result X RegErr) → ((x : X) → caller_of (e x) ≡ k.number) → Met caller_of IsFaithful k h
    → IfOk r (λ x. P x × Enters IsFaithful k h (e x) l) × IfErr r (λ x. (x ≡ Memory) × Leaves k h l) → IsSound l
sound_ok k l h e P (Ok x) own met did = sound_entered k l h (e x) (own x) met did.0.1
sound_ok k l h e P (Err x) own met did = sound_left k l h met did.1.1

-- and so does one that may find nothing to record
pub sound_if : {X A : Type 0} (k l : Known RegEntry) (h : List RegEntry) (e : A → RegEntry) (o : Option A) (P : X → Type 0) (r : Result X RegErr) → ((a : A) → caller_of (e a) ≡ k.number) → Met caller_of IsFaithful k h
    → IfOk r (λ x. P x × EntersIf k h (option_map e o) l) × IfErr r (λ x. (x ≡ Memory) × Leaves k h l) → IsSound l
sound_if k l h e (Some a) P (Ok x) own met did = sound_entered k l h (e a) (own a) met did.0.1
sound_if k l h e None P (Ok x) own met did = sound_left k l h met did.0.1
sound_if k l h e o P (Err x) own met did = sound_left k l h met did.1.1
