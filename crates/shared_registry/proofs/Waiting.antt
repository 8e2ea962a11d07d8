-- Waiting for the end of a larval, and ending one.
use Rattle.std.proofs.Common.{◌≡◌, ℕ, ◌<◌, List, [], ◌∷◌, length, refl, ap, sym, ◌∙◌, subst, arith, Option, Some, None, Result, Ok, Err, length-append}
use Rattle.std.specs.Prelude.{IfOk, IfErr}
use Rattle.std.specs.Option.{option_map}
use Rattle.std.proofs.lemmas.List.Elements.{filter_map-append}
use Rattle.alg_registry.specs.declared.entry.Ended.{Ended}
use Rattle.alg_registry.specs.declared.entry.Ended.TheVariants as ended
use Rattle.alg_registry.specs.declared.entry.RegErr.{RegErr}
use Rattle.alg_registry.specs.declared.entry.RegErr.TheVariants.{Memory}
use Rattle.alg_registry.specs.declared.entry.RegEntry.{RegEntry}
use Rattle.alg_registry.specs.declared.entry.RegEntry.TheVariants.{Waited}
use Rattle.alg_registry.specs.Rows.{texts, begun_by}
use Rattle.alg_registry.specs.Legal.{ended_as}
use Rattle.alg_registry.specs.Made.{outcome_of}
use Rattle.turn_lock.specs.Turns.{Known}
use Rattle.shared_registry.specs.Passes.{IsSound, EntersIf}
use Rattle.shared_registry.proofs.Going.{Meets, Goes}
use Rattle.turn_lock.specs.PassLaws.{Enters, Leaves}
use Rattle.shared_registry.specs.Faithful.{IsFaithful}
use Rattle.shared_registry.specs.Builds.{Works, Ends}
use Rattle.shared_registry.specs.Within.{Idles, ended_result}
use Rattle.shared_registry.specs.Learned.{RegistryLaws}
use Rattle.shared_registry.proofs.Working.{works_none, works_waited, works_on}
use Rattle.shared_registry.proofs.Going.{goes_on, goes_after, goes_still, goes_nothing}

abbrev pub HasWaited : Known RegEntry → Known RegEntry → ℕ → Result (Option Ended) RegErr → Type 0
HasWaited l m larval r =
    Meets l (λ h. IfOk r (λ e. (e ≡ ended_as h larval) × EntersIf l h (option_map (λ _. Waited l.number larval) (ended_as h larval)) m) × IfErr r (λ e. (e ≡ Memory) × Leaves l h m))

pub idles_still : (k : Known RegEntry) → IsSound k → Idles k k
idles_still k sound = record { goes = goes_still k; sound = sound }

pub idles_on : (k l m : Known RegEntry) → Idles k l → Idles l m → Idles k m
idles_on k l m a b = record { goes = goes_on k l m [] [] a.goes b.goes; sound = b.sound }

pub idles_works : (k l : Known RegEntry) → Idles k l → Works k l
idles_works k l a = works_none k l a.goes

pub ends_as : (m : Known RegEntry) (larval : ℕ) (e : Ended) → ended_as m.seen larval ≡ Some e → Ends m larval (ended_result e)
ends_as m larval (ended.Built id) q = ap outcome_of q
ends_as m larval (ended.Joined id) q = ap outcome_of q
ends_as m larval (ended.Failed errno) q = ap outcome_of q
ends_as m larval ended.NoMemory q = tt

pub began_on : (k l : Known RegEntry) (a : List RegEntry) (larval : ℕ) → Goes k l a → larval < length (texts k.seen) → larval < length (texts l.seen)
began_on k l a larval g lt =
    omega (arith, lt, ap (λ x. length (texts x)) g.seen, ap length (filter_map-append begun_by k.seen g.between), length-append (texts k.seen) (texts g.between))

enters_some : (l m : Known RegEntry) (h : List RegEntry) (larval : ℕ) (o : Option Ended) (e : Ended) → Some e ≡ o → EntersIf l h (option_map (λ _. Waited l.number larval) o) m → Enters IsFaithful l h (Waited l.number larval) m
enters_some l m h larval o e is entered = subst (λ x. EntersIf l h (option_map (λ _. Waited l.number larval) x) m) (sym is) entered

leaves_none : (l m : Known RegEntry) (h : List RegEntry) (larval : ℕ) (o : Option Ended) → None ≡ o → EntersIf l h (option_map (λ _. Waited l.number larval) o) m → Leaves l h m
leaves_none l m h larval o is entered = subst (λ x. EntersIf l h (option_map (λ _. Waited l.number larval) x) m) (sym is) entered

module _ (k l m : Known RegEntry) (larval : ℕ) (r : Result (Option Ended) RegErr) (idles : Idles k l) (waited : HasWaited l m larval r) (sound : IsSound m) where
  pub still_waits : r ≡ Ok None → Idles k m
  still_waits is =
      let did = subst (λ x. HasWaited l m larval x) is waited in
      idles_on k l m idles (record { goes = goes_nothing l m did.0 did.1 (leaves_none l m did.0 larval (ended_as did.0 larval) did.2.0.0 did.2.0.1); sound = sound })

  pub lacked : (e : RegErr) → r ≡ Err e → Works k m
  lacked e is =
      let did = subst (λ x. HasWaited l m larval x) is waited in
      works_none k m (goes_on k l m [] [] idles.goes (goes_nothing l m did.0 did.1 did.2.1.1))

  pub has_waited : (e : Ended) → r ≡ Ok (Some e) → Works k m
  has_waited e is =
      let did = subst (λ x. HasWaited l m larval x) is waited in
      works_on k l m (idles_works k l idles) (works_waited l m l.number larval (goes_after l m did.0 (Waited l.number larval) refl did.1 (enters_some l m did.0 larval (ended_as did.0 larval) e did.2.0.0 did.2.0.1)))

  pub has_ended : RegistryLaws → (e : Ended) → r ≡ Ok (Some e) → Ends m larval (ended_result e)
  has_ended laws e is =
      let did = subst (λ x. HasWaited l m larval x) is waited in
      let entered = enters_some l m did.0 larval (ended_as did.0 larval) e did.2.0.0 did.2.0.1 in
      ends_as m larval e (ap (λ n. ended_as n.seen larval) entered.0 ∙ (laws.stays did.0 (Waited l.number larval ∷ [])).ended larval e (sym did.2.0.0))
