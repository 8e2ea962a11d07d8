-- `alloc`: its refusals, in order, and then a look.
use Rattle.std.proofs.Common.{◌≡◌, ℕ, ◌<◌, ◌≤◌, true, false, List, [], ◌∷◌, ◌++◌, length, Option, Some, None, Result, Ok, Err, refl, sym, ap, subst, ◌∙◌, arith}
use Rattle.std.specs.Prelude.{not, is_some, nat_le, MatchResult}
use Rattle.std.proofs.lemmas.Bool.Decides.{nat_tests}
use Rattle.kc_base.specs.declared.error_numbers.Errno.{Errno}
use Rattle.kc_base.specs.declared.error_numbers.Errno.TheVariants.{EEXIST, EINVAL, EMFILE}
use Rattle.alg_names.specs.Name.{Tree}
use Rattle.reply_text.specs.declared.answers.Answer.{Answer}
use Rattle.dialogues.specs.Names.{name_read, is_queue_length}
use Rattle.dialogues.specs.AllocAndFree.{alloc, binds, fault_of}
use Rattle.dialogues.specs.Dialogues.{Asks, answers_errno, unless}
use Rattle.dialogues.specs.Questions.{Look}
use Rattle.dialogues.specs.ScriptState.{ScriptState, Live, either, either_of}
use Rattle.script_session.specs.Alloc.{looks}
use Rattle.script_session.specs.PerformedDialogue.{Performs, StopsIn}
use Rattle.script_session.specs.States.{State}
use Rattle.script_session.proofs.Arms.{unless-not, unless-so}

pub nobody : (own shared : Option Live) → is_some (either own shared) ≡ false → own ≡ None
nobody None shared e = refl
nobody (Some live) shared e = absurd cc

module _ (workers : ℕ) (script_state : ScriptState) (n : ℕ) (label name : List ℕ) (len : Option ℕ) where
  pub alloc-live : is_some (either_of script_state label) ≡ true → alloc workers script_state n label name len ≡ answers_errno script_state n EEXIST
  alloc-live there = unless-so script_state n (is_some (either_of script_state label)) EEXIST ((nat_le 4096 (length script_state.lives), EMFILE) ∷ (fault_of (name_read name) ++ (not (is_queue_length len), EINVAL) ∷ [])) (Asks (Look name) (λ found. binds workers script_state n label len found)) there

  pub alloc-full : is_some (either_of script_state label) ≡ false → 4096 ≤ length script_state.lives → alloc workers script_state n label name len ≡ answers_errno script_state n EMFILE
  alloc-full free full =
      unless-not script_state n (is_some (either_of script_state label)) EEXIST ((nat_le 4096 (length script_state.lives), EMFILE) ∷ (fault_of (name_read name) ++ (not (is_queue_length len), EINVAL) ∷ [])) (Asks (Look name) (λ found. binds workers script_state n label len found)) free ∙ unless-so script_state n (nat_le 4096 (length script_state.lives)) EMFILE (fault_of (name_read name) ++ (not (is_queue_length len), EINVAL) ∷ []) (Asks (Look name) (λ found. binds workers script_state n label len found)) (grind (arith, nat_tests))

  named : is_some (either_of script_state label) ≡ false → length script_state.lives < 4096 → alloc workers script_state n label name len ≡ unless script_state n (fault_of (name_read name) ++ (not (is_queue_length len), EINVAL) ∷ []) (Asks (Look name) (λ found. binds workers script_state n label len found))
  named free room =
      unless-not script_state n (is_some (either_of script_state label)) EEXIST ((nat_le 4096 (length script_state.lives), EMFILE) ∷ (fault_of (name_read name) ++ (not (is_queue_length len), EINVAL) ∷ [])) (Asks (Look name) (λ found. binds workers script_state n label len found)) free ∙ unless-not script_state n (nat_le 4096 (length script_state.lives)) EMFILE (fault_of (name_read name) ++ (not (is_queue_length len), EINVAL) ∷ []) (Asks (Look name) (λ found. binds workers script_state n label len found)) (grind (arith, nat_tests))

  pub alloc-faulty : (errno : Errno) → is_some (either_of script_state label) ≡ false → length script_state.lives < 4096 → name_read name ≡ Err errno → alloc workers script_state n label name len ≡ answers_errno script_state n errno
  alloc-faulty errno free room read =
      named free room ∙ ap (λ o. unless script_state n (fault_of o ++ (not (is_queue_length len), EINVAL) ∷ []) (Asks (Look name) (λ found. binds workers script_state n label len found))) read

  pub alloc-unfit : (tree : Tree) → is_some (either_of script_state label) ≡ false → length script_state.lives < 4096 → name_read name ≡ Ok tree → is_queue_length len ≡ false → alloc workers script_state n label name len ≡ answers_errno script_state n EINVAL
  alloc-unfit tree free room read unfit =
      named free room
      ∙ (ap (λ o. unless script_state n (fault_of o ++ (not (is_queue_length len), EINVAL) ∷ []) (Asks (Look name) (λ found. binds workers script_state n label len found))) read
      ∙ unless-so script_state n (not (is_queue_length len)) EINVAL [] (Asks (Look name) (λ found. binds workers script_state n label len found)) (ap not unfit))

  alloc-looks : (tree : Tree) → is_some (either_of script_state label) ≡ false → length script_state.lives < 4096 → name_read name ≡ Ok tree → is_queue_length len ≡ true → alloc workers script_state n label name len ≡ looks workers script_state n label name len
  alloc-looks tree free room read fits =
      named free room
      ∙ (ap (λ o. unless script_state n (fault_of o ++ (not (is_queue_length len), EINVAL) ∷ []) (Asks (Look name) (λ found. binds workers script_state n label len found))) read
      ∙ unless-not script_state n (not (is_queue_length len)) EINVAL [] (Asks (Look name) (λ found. binds workers script_state n label len found)) (ap not fits))

-- past its refusals it is a look
pub looks-arm : {S A : Type 0} (s s' : State) (n : ℕ) (label name text : List ℕ) (len : Option ℕ) (tree : Tree) (answers answers' : List Answer) (result : Result A S)
    → is_some (either_of s.script_state label) ≡ false → length s.script_state.lives < 4096 → name_read name ≡ Ok tree → is_queue_length len ≡ true → text ≡ name
    → MatchResult result (λ _. Performs (looks s.workers s.script_state n label text len) s s' answers answers') (λ _. StopsIn (looks s.workers s.script_state n label text len) s s')
    → MatchResult result (λ _. Performs (alloc s.workers s.script_state n label name len) s s' answers answers') (λ _. StopsIn (alloc s.workers s.script_state n label name len) s s')
looks-arm s s' n label name text len tree answers answers' (Ok a) free room read fits same held =
    subst (λ d. Performs d s s' answers answers') (ap (λ t. looks s.workers s.script_state n label t len) same ∙ sym (alloc-looks s.workers s.script_state n label name len tree free room read fits)) held
looks-arm s s' n label name text len tree answers answers' (Err e) free room read fits same stops =
    subst (λ d. StopsIn d s s') (ap (λ t. looks s.workers s.script_state n label t len) same ∙ sym (alloc-looks s.workers s.script_state n label name len tree free room read fits)) stops
