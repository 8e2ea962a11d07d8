-- What is listed is what neither it nor anything below it was unlisted.
use Rattle.std.proofs.Common.{◌≡◌, ℕ, zero, suc, ◌+◌, ◌<◌, ◌⊎◌, inl, inr, Bool, true, false, not, ◌&&◌, ◌||◌, eqb, List, [], ◌∷◌, ◌++◌, length, get_or, take, Option, Some, None, refl, sym, ap, ◌∙◌, subst, arith}
use Rattle.std.specs.Prelude.{slice_get}
use Rattle.std.specs.List.{list_any, list_all, cons_option, AllByRecursion}
use Rattle.std.specs.Option.{option_map_or}
use Rattle.alg_registry.specs.declared.spec.Spec.{Spec}
use Rattle.alg_registry.specs.declared.row.Row.{Row}
use Rattle.alg_registry.specs.declared.entry.Enlisted.TheVariants as enlisted
use Rattle.alg_registry.specs.declared.entry.EndAnswer.TheVariants.{Built, Joined, Failed, NoMemory}
use Rattle.alg_registry.specs.declared.entry.RegEntry.{RegEntry}
use Rattle.alg_registry.specs.declared.entry.RegEntry.TheVariants.{Enlist, Look, Claim, End, Waited, Unlist, Get, Put, Refs}
use Rattle.alg_registry.specs.declared.entry.RegEntry.TheVariants as entry
use Rattle.alg_registry.specs.Rows.{rows_of, registered, registered_by, unlists, is_listed, listed_at, stays_listed}
use Rattle.alg_registry.specs.Legal.{LegalReg, IsRight}
use Rattle.alg_registry.specs.Lifetimes.{below_of, IsChild, Directly, Deeper, IsListed, ListedIs}
use Rattle.std.proofs.lemmas.List.{append-nil}
use Rattle.std.proofs.lemmas.Bool.{or_right, or_left}
use Rattle.alg_registry.proofs.Steps.{registered-push}
use Rattle.alg_registry.proofs.Stack.{legal_along}
use Rattle.alg_registry.proofs.Standing.{bare-rows_of}
use Rattle.alg_registry.proofs.Fresh.{length-rows_of, is_listed-within}
use Rattle.alg_registry.proofs.LifetimeLaws.{listed-not_unlisted, listed-below, get_noted, equal_self, same_number}
use Rattle.alg_registry.proofs.Restanding.{stands-at}
use Rattle.alg_registry.proofs.Holding.{stands-rows_of, get_there}
use Rattle.alg_registry.proofs.Sight.{built-listed}
use Rattle.alg_registry.proofs.Changing.{a_row}

-- ---- an entry stands on older ones

abbrev pub Older : ℕ → List ℕ → Type 0
Older m ids = AllByRecursion (λ c. c < m) ids

abbrev pub ChildrenOlder : List RegEntry → Type 0
ChildrenOlder h = (id : ℕ) (spec : Spec) → slice_get (registered h) id ≡ Some spec → Older id spec.below

at_push : (xs : List Spec) (x : Spec) (k : ℕ) (y : Spec) → slice_get (xs ++ x ∷ []) k ≡ Some y → (slice_get xs k ≡ Some y) ⊎ ((k ≡ length xs) × (x ≡ y))
at_push [] x zero y e = inr (refl, cc)
at_push [] x (suc k) y e = absurd cc
at_push (z ∷ xs) x zero y e = inl e
at_push (z ∷ xs) x (suc k) y e = elim (at_push xs x k y e) [
  | inl old ↦ inl old
  | inr new ↦ inr (omega (arith, new.0), new.1)
]

and_first : (a b : Bool) → (a && b) ≡ true → a ≡ true
and_first true b h = refl
and_first false b h = absurd cc

and_second : (a b : Bool) → (a && b) ≡ true → b ≡ true
and_second true b h = h
and_second false b h = absurd cc

all_within : (rows : List Row) (ids : List ℕ) → list_all (listed_at rows) ids ≡ true → Older (length rows) ids
all_within rows [] all = tt
all_within rows (id ∷ ids) all = (is_listed-within rows id (and_first (listed_at rows id) (list_all (listed_at rows) ids) all), all_within rows ids (and_second (listed_at rows id) (list_all (listed_at rows) ids) all))

none_below : (id : ℕ) (s spec : Spec) → Some s ≡ Some spec → s.below ≡ [] → Older id spec.below
none_below id s spec e none =
    let below : s.below ≡ spec.below = ap (λ (o : Option Spec). option_map_or (λ x. x.below) o []) e in
    subst (Older id) (sym none ∙ below) tt

older_start : ChildrenOlder []
older_start zero spec e = none_below 0 _ spec e refl
older_start (suc zero) spec e = none_below 1 _ spec e refl
older_start (suc (suc zero)) spec e = none_below 2 _ spec e refl
older_start (suc (suc (suc n))) spec e = absurd cc

older_new : (h : List RegEntry) (e : RegEntry) (s : Spec) → IsRight h e → registered_by e ≡ Some s → Older (length (registered h)) s.below
older_new h (Enlist caller spec (enlisted.Made id)) s right is = none_below (length (registered h)) spec s is right.1
older_new h (End caller larval (Built id spec)) s right is =
    let below : spec.below ≡ s.below = ap (λ (o : Option Spec). option_map_or (λ x. x.below) o []) is in
    let all : list_all (listed_at (rows_of h)) spec.below ≡ true = built-listed (rows_of h) spec id (sym right.2) in
    subst (Older (length (registered h))) below (subst (λ (m : ℕ). Older m spec.below) (length-rows_of h) (all_within (rows_of h) spec.below all))
older_new h (Enlist caller spec enlisted.Exist) s right is = absurd cc
older_new h (Enlist caller spec enlisted.NFile) s right is = absurd cc
older_new h (End caller larval (Joined id below)) s right is = absurd cc
older_new h (End caller larval (Failed errno)) s right is = absurd cc
older_new h (End caller larval NoMemory) s right is = absurd cc
older_new h (Look by text plain answer) s right is = absurd cc
older_new h (Claim by larval) s right is = absurd cc
older_new h (Waited by larval) s right is = absurd cc
older_new h (Unlist by driver answer) s right is = absurd cc
older_new h (Get by id ok) s right is = absurd cc
older_new h (Put by id) s right is = absurd cc
older_new h (Refs by driver) s right is = absurd cc
older_new h (entry.List by) s right is = absurd cc

older_step : (h : List RegEntry) (e : RegEntry) → ChildrenOlder h → IsRight h e → ChildrenOlder (h ++ e ∷ [])
older_step h e older right id spec at = by_new (registered_by e) refl (ap (λ (specs : List Spec). slice_get specs id) (sym (registered-push h e)) ∙ at)
  where
    by_new : (o : Option Spec) → registered_by e ≡ o → slice_get (registered h ++ cons_option o []) id ≡ Some spec → Older id spec.below
    by_new None is found = older id spec (ap (λ (specs : List Spec). slice_get specs id) (sym (append-nil (registered h))) ∙ found)
    by_new (Some s) is found = elim (at_push (registered h) s id spec found) [
      | inl old ↦ older id spec old
      | inr new ↦ subst (λ (m : ℕ). Older m spec.below) (sym new.0) (subst (λ (x : Spec). Older (length (registered h)) x.below) new.1 (older_new h e s right is))
    ]

pub children-older : (h : List RegEntry) → LegalReg h → ChildrenOlder h
children-older h legal = legal_along ChildrenOlder older_step [] h older_start legal

-- ---- so being listed goes up from the oldest

older_at : (m c : ℕ) (ids : List ℕ) → Older m ids → list_any (λ child. eqb child c) ids ≡ true → c < m
older_at m c [] older any = absurd cc
older_at m c (id ∷ ids) older any = here (eqb id c) refl any (older_at m c ids older.1)
  where
    here : (b : Bool) → eqb id c ≡ b → (b || list_any (λ child. eqb child c) ids) ≡ true → (list_any (λ child. eqb child c) ids ≡ true → c < m) → c < m
    here true e a rest = let same : id ≡ c = same_number id c e in omega (arith, same, older.0)
    here false e a rest = rest a

all_if : (p : ℕ → Bool) (ids : List ℕ) → ((c : ℕ) → list_any (λ child. eqb child c) ids ≡ true → p c ≡ true) → list_all p ids ≡ true
all_if p [] each = refl
all_if p (id ∷ ids) each =
    let first : p id ≡ true = each id (or_left (eqb id id) (list_any (λ child. eqb child id) ids) (equal_self id)) in
    let rest : list_all p ids ≡ true = all_if p ids (λ c any. each c (or_right (eqb id c) (list_any (λ child. eqb child c) ids) any)) in
    λ i. first i && rest i

listed_take : (rows : List Row) (m c : ℕ) → c < m → listed_at (take m rows) c ≡ listed_at rows c
listed_take rows zero c lt = absurd (omega (arith, lt))
listed_take [] (suc m) c lt = refl
listed_take (row ∷ rows) (suc m) zero lt = refl
listed_take (row ∷ rows) (suc m) (suc c) lt = listed_take rows m c (omega (arith, lt))

listed_from : (h : List RegEntry) → ChildrenOlder h → (n id : ℕ) → id < n → IsListed h id → is_listed h id ≡ true
listed_from h older zero id lt parts = absurd (omega (arith, lt))
listed_from h older (suc n) id lt parts =
    let rows : List Row = rows_of h in
    let there : id < length rows = omega (arith, parts.there, length-rows_of h) in
    let row : Row = get_or rows id a_row in
    let at : slice_get rows id ≡ Some row = get_there rows id a_row there in
    let g = get_noted h 0 id rows (registered h) row (bare-rows_of h) at in
    let spec : row.spec ≡ g.0 = ap (λ (r : Row). r.spec) g.2 in
    let below : below_of (registered h) id ≡ row.spec.below = ap (λ (o : Option Spec). option_map_or (λ s. s.below) o []) g.1 ∙ ap (λ (s : Spec). s.below) (sym spec) in
    let z : 0 + id ≡ id = omega arith in
    let unlisted : row.unlisted ≡ false = ap (λ (r : Row). r.unlisted) g.2 ∙ (ap (λ (k : ℕ). list_any (unlists k) h) z ∙ parts.stays) in
    let first : Older id row.spec.below = subst (λ (s : Spec). Older id s.below) (sym spec) (older id g.0 g.1) in
    let each : (c : ℕ) → list_any (λ child. eqb child c) row.spec.below ≡ true → listed_at (take id rows) c ≡ true =
    λ c any.
    let under : c < id = older_at id c row.spec.below first any in
    let child : IsChild (registered h) c id = subst (λ (ids : List ℕ). list_any (λ x. eqb x c) ids ≡ true) (sym below) any in
    listed_take rows id c under
    ∙ listed_from h older n c (omega (arith, under, lt)) (record { there = omega (arith, under, parts.there); stays = parts.stands c (Directly c id child); stands = λ lower b. parts.stands lower (Deeper lower c id b child) }) in
    let stands = stands-at [] rows id a_row there (stands-rows_of h) in
    let stays : stays_listed (take id rows) row ≡ true = λ i. not (unlisted i) && all_if (listed_at (take id rows)) row.spec.below each i in
    ap (λ (o : Option Row). option_map_or (λ r. r.listed) o false) at ∙ (stands.0 ∙ stays)

pub listed_is : ListedIs
listed_is h legal id = (
  λ listed. record {
    there = omega (arith, is_listed-within (rows_of h) id listed, length-rows_of h);
    stays = listed-not_unlisted h id listed;
    stands = λ lower below. listed-not_unlisted h lower (listed-below h lower id below listed);
  },
  λ parts. listed_from h (children-older h legal) (id + 1) id (omega arith) parts,
)
