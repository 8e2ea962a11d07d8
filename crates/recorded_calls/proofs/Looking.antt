-- Looks that are made first, and what they come to later.
use Rattle.std.proofs.Common.{◌≡◌, ℕ, List, [], ◌++◌, Option, Some, Result, Ok, Err, refl, sym, ap, subst, ◌∙◌, append-nil}
use Rattle.std.specs.Prelude.{slice_get}
use Rattle.kc_base.specs.declared.error_numbers.Errno.{Errno}
use Rattle.alg_registry.specs.declared.spec.Spec.{Spec}
use Rattle.alg_registry.specs.declared.entry.Looked.{Looked}
use Rattle.alg_registry.specs.declared.entry.RegEntry.{RegEntry}
use Rattle.alg_registry.specs.Made.{outcome}
use Rattle.alg_registry.specs.Rows.{registered, caller_of}
use Rattle.templates.specs.declared.build_errors.BuildErr.{BuildErr}
use Rattle.templates.specs.declared.build_errors.BuildErr.TheVariants as build
use Rattle.templates.specs.LookResults.{Entry, Fault, found_in}
use Rattle.turn_lock.specs.TurnLaws.{goes_then}
use Rattle.shared_registry.specs.Builds.{Works, Settled}
use Rattle.shared_registry.specs.Faithful.{IsFaithful}
use Rattle.dialogues.specs.GoingOn.{FoundStays}
use Rattle.recorded_calls.specs.RegistryCalls.{SeesMore, IsResolved}
use Rattle.recorded_calls.specs.Looks.{Goes, Settles}
use Rattle.recorded_calls.specs.Passes.{RegPass, known, lock_of}
use Rattle.recorded_calls.proofs.Asking.{found-registered}

-- ---- a caller that goes on

pub goes-more : {before after : Option RegPass} → (own : List RegEntry) → Goes before after own → SeesMore before after
goes-more own g = record { lock = g.lock; number = g.goes.number; next = g.goes.next; seen = (g.goes.between, g.goes.seen) }

pub goes-further : {before middle after : Option RegPass} → (own more : List RegEntry) → Goes before middle own → Goes middle after more → Goes before after (own ++ more)
goes-further {before} {middle} {after} own more a b = record {
  lock = b.lock ∙ a.lock;
  goes = goes_then caller_of IsFaithful (known before) (known middle) (known after) own more a.goes b.goes;
}

-- ---- what a look came to

pub resolved-ok : {S : Type 0} → (r : Result ℕ BuildErr) (id : ℕ) (result : Result (Result ℕ Errno) S) → result ≡ Ok (Ok id) → IsResolved r result → r ≡ Ok id
resolved-ok (Ok n) id result is resolved = ap (λ x. Ok x) (subst (IsResolved (Ok n)) is resolved)
resolved-ok (Err (build.Fault errno)) id result is resolved = absurd (subst (IsResolved (Err (build.Fault errno))) is resolved)
resolved-ok (Err build.Memory) id result is resolved = absurd (subst (IsResolved (Err build.Memory)) is resolved)

pub resolved-err : {S : Type 0} → (r : Result ℕ BuildErr) (errno : Errno) (result : Result (Result ℕ Errno) S) → result ≡ Ok (Err errno) → IsResolved r result → r ≡ Err (build.Fault errno)
resolved-err (Ok n) errno result is resolved = absurd (subst (IsResolved (Ok n)) is resolved)
resolved-err (Err (build.Fault e)) errno result is resolved = ap (λ x. Err (build.Fault x)) (subst (IsResolved (Err (build.Fault e))) is resolved)
resolved-err (Err build.Memory) errno result is resolved = absurd (subst (IsResolved (Err build.Memory)) is resolved)

-- it came to an entry, of which a copy was made
pub settles-entry : {before middle after : Option RegPass} → FoundStays → (looked : Looked) (r : Result ℕ BuildErr) (id : ℕ) (spec : Spec) → r ≡ Ok id → Works (known before) (known middle) → lock_of middle ≡ lock_of before
    → Settled (known middle) looked r → Goes middle after [] → slice_get (registered (known middle).seen) id ≡ Some spec → Settles before after looked (Ok spec)
settles-entry {before} {middle} {after} stays looked r id spec is works lock settled went at =
    let l = known middle in
    let found = subst (Settled l looked) is settled in
    let same : found.0 ≡ spec = let e = sym (found-registered l.seen (outcome l.seen looked) id found.0 found.1) ∙ at in cc in
    record {
      work = works.work;
      goes = subst (Goes before after) (append-nil works.work) (goes-further works.work [] (record { lock = lock; goes = works.goes }) went);
      all_work = works.all_work;
      found = Entry id found.0;
      found_is = subst (λ h. found_in h looked ≡ Some (Entry id found.0)) (sym went.goes.seen) (stays l.seen went.goes.between looked (Entry id found.0) found.1);
      result_is = ap (λ s. Ok s) (sym same);
    }

-- it came to an error number
pub settles-fault : {before after : Option RegPass} → (looked : Looked) (r : Result ℕ BuildErr) (errno : Errno) → r ≡ Err (build.Fault errno) → Works (known before) (known after) → lock_of after ≡ lock_of before
    → Settled (known after) looked r → Settles before after looked (Err errno)
settles-fault {before} {after} looked r errno is works lock settled = record {
  work = works.work;
  goes = record { lock = lock; goes = works.goes };
  all_work = works.all_work;
  found = Fault errno;
  found_is = subst (Settled (known after) looked) is settled;
  result_is = refl;
}
