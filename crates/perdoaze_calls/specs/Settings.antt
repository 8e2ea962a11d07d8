-- What setting a key or a tag size comes to.
use Rattle.std.specs.Prelude.{◌≡◌, ℕ, true, false, ℤ, List, Option, Some, None}
use Rattle.transforms.specs.Plans.{takes_key, takes_tag}
use Rattle.perdoaze_calls.specs.Status.{code_of}
use Rattle.perdoaze_calls.specs.Under.{key_within}
use Rattle.perdoaze_calls.specs.declared.status.Status.{Status}
use Rattle.perdoaze_calls.specs.declared.status.Status.TheVariants.{Done, NoMemory, Invalid}
use Rattle.perdoaze_calls.specs.declared.transform.Transform.{Transform}

-- a key was set: nothing else changed; or none was, and nothing changed
abbrev pub KeySet : Option Transform → Option Transform → List ℕ → Status → Type 0
KeySet None new key status = (status ≡ Invalid) × (new ≡ None)
KeySet (Some t) None key status = ⊥
KeySet (Some t) (Some u) key Done = (u.plan ≡ t.plan) × (u.authsize ≡ t.authsize) × (key_within u.keyed ≡ Some key) × (takes_key t.plan key ≡ true)
KeySet (Some t) (Some u) key NoMemory = u ≡ t
KeySet (Some t) (Some u) key Invalid = (u ≡ t) × (takes_key t.plan key ≡ false)
KeySet (Some t) (Some u) key _ = ⊥

abbrev pub SizeSet : Option Transform → Option Transform → ℕ → Status → Type 0
SizeSet None new n status = (status ≡ Invalid) × (new ≡ None)
SizeSet (Some t) None n status = ⊥
SizeSet (Some t) (Some u) n Done = (u.plan ≡ t.plan) × (u.authsize ≡ n) × (u.keyed ≡ t.keyed) × (takes_tag t.plan n ≡ true)
SizeSet (Some t) (Some u) n Invalid = (u ≡ t) × (takes_tag t.plan n ≡ false)
SizeSet (Some t) (Some u) n _ = ⊥

-- a second transform with the same plan, tag size and key
abbrev pub IsDuplicate : Transform → Transform → Type 0
IsDuplicate t u = (u.plan ≡ t.plan) × (u.authsize ≡ t.authsize) × (key_within u.keyed ≡ key_within t.keyed)

-- one was made in a second place, or that has none
abbrev pub Duplicates : Option Transform → Option Transform → Status → Type 0
Duplicates (Some t) (Some u) Done = IsDuplicate t u
Duplicates (Some t) None NoMemory = Unit {0}
Duplicates None None Invalid = Unit {0}
Duplicates _ _ _ = ⊥

-- by the number that C gets
abbrev pub KeySetTo : Option Transform → Option Transform → List ℕ → ℤ → Type 0
KeySetTo old new key result = (status : Status) × (result ≡ code_of status) × KeySet old new key status

abbrev pub SizeSetTo : Option Transform → Option Transform → ℕ → ℤ → Type 0
SizeSetTo old new n result = (status : Status) × (result ≡ code_of status) × SizeSet old new n status

abbrev pub DuplicatesTo : Option Transform → Option Transform → ℤ → Type 0
DuplicatesTo held made result = (status : Status) × (result ≡ code_of status) × Duplicates held made status
