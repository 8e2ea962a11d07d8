-- The words of a turn, for this registry.
use Rattle.std.proofs.Common.{◌≡◌, List, [], ◌∷◌, ◌++◌}
use Rattle.alg_registry.specs.declared.entry.RegEntry.{RegEntry}
use Rattle.alg_registry.specs.Rows.{caller_of}
use Rattle.turn_lock.specs.Turns.{Known}
use Rattle.turn_lock.specs.PassLaws.{AtTurn, GoesOn, Enters, Leaves}
use Rattle.turn_lock.specs.PassLaws.{Meets as Met}
use Rattle.turn_lock.specs.TurnLaws.{goes_entered, goes_left, goes_then, stays}
use Rattle.shared_registry.specs.Faithful.{IsFaithful}

abbrev pub Goes : Known RegEntry → Known RegEntry → List RegEntry → Type 0
Goes k l own = GoesOn caller_of IsFaithful k l own

abbrev pub Meets : Known RegEntry → (List RegEntry → Type 0) → Type 0
Meets k P = AtTurn caller_of IsFaithful k P

pub goes_after : (k l : Known RegEntry) (h : List RegEntry) (e : RegEntry) → caller_of e ≡ k.number → Met caller_of IsFaithful k h → Enters IsFaithful k h e l → Goes k l (e ∷ [])
goes_after k l h e own met enters = goes_entered caller_of IsFaithful k l (λ _. e) (h, met, enters) own

pub goes_nothing : (k l : Known RegEntry) (h : List RegEntry) → Met caller_of IsFaithful k h → Leaves k h l → Goes k l []
goes_nothing k l h met leaves = goes_left caller_of IsFaithful k l (h, met, leaves)

pub goes_on : (k l m : Known RegEntry) (a b : List RegEntry) → Goes k l a → Goes l m b → Goes k m (a ++ b)
goes_on k l m a b p q = goes_then caller_of IsFaithful k l m a b p q

pub goes_still : (k : Known RegEntry) → Goes k k []
goes_still k = stays caller_of IsFaithful k
