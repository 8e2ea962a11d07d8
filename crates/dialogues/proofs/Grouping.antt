-- Calls of a caller with several looks at once.
use Rattle.std.proofs.Common.{◌≡◌, ℕ, suc, ◌≤◌, Bool, true, false, ◌&&◌, List, [], ◌∷◌, ◌++◌, length, Option, Some, None, refl, sym, ap, subst, ◌∙◌, append_assoc, append-nil, arith}
use Rattle.std.specs.Prelude.{filter, if◌then◌else◌, nat_le}
use Rattle.std.specs.List.{list_all, flat_map}
use Rattle.std.proofs.lemmas.Bool.Decides.{nat_tests}
use Rattle.std.proofs.lemmas.List.Concat.{flat_map-append}
use Rattle.alg_registry.specs.declared.entry.RegEntry.{RegEntry}
use Rattle.alg_registry.specs.declared.entry.RegEntry.TheVariants as entry
use Rattle.templates.specs.LookResults.{is_asked}
use Rattle.dialogues.specs.RegistryCalls.{RegCall, reg_call_of, reg_calls, reg_calls_from, prepend, AllSettled}
use Rattle.dialogues.specs.InTurn.{IsMade, AsksNothing, AreInTurn, AreMade, is_look, is_group, AreGroups, AreInTurnBy, AreCalls}
use Rattle.dialogues.proofs.RegistryGrowing.{reg_calls_from-append, none-asked}
use Rattle.dialogues.proofs.Taking.{waits_first, made-alone, made-are, nothing-are, are-then}

abbrev joined : List (List RegCall) → List RegCall
joined groups = flat_map (λ group. group) groups

-- ---- from calls in turn

pub in_turn-by : (width n : ℕ) (calls : List RegCall) (r r' : List RegEntry) → AreInTurn n calls r r' → AreInTurnBy width n calls r r'
in_turn-by width n [] r r' turns = ([], refl, turns)
in_turn-by width n (call ∷ calls) r r' turns =
    let rest = in_turn-by width n calls turns.0 r' turns.2 in
    ((call ∷ []) ∷ rest.0, ap (λ cs. call ∷ cs) rest.1, (turns.0, refl, made-alone n call r turns.0 turns.1, rest.2))

-- ---- more at once

and-wider : (all : Bool) (count width wider : ℕ) → width ≤ wider → (all && nat_le count width) ≡ true → (all && nat_le count wider) ≡ true
and-wider false count width wider le e = e
and-wider true count width wider le e = grind (arith, nat_tests)

group-wider : (width wider : ℕ) (calls : List RegCall) → width ≤ wider → is_group width calls ≡ true → is_group wider calls ≡ true
group-wider width wider [] le e = and-wider true 0 width wider le e
group-wider width wider (call ∷ []) le e = refl
group-wider width wider (a ∷ b ∷ calls) le e = and-wider (list_all is_look (a ∷ b ∷ calls)) (length (a ∷ b ∷ calls)) width wider le e

groups-wider : (width wider n : ℕ) (groups : List (List RegCall)) (r r' : List RegEntry) → width ≤ wider → AreGroups width n groups r r' → AreGroups wider n groups r r'
groups-wider width wider n [] r r' le made = made
groups-wider width wider n (group ∷ groups) r r' le made =
    (made.0, group-wider width wider group le made.1, made.2, groups-wider width wider n groups made.0 r' le made.3)

pub by-wider : (width wider n : ℕ) (calls : List RegCall) (r r' : List RegEntry) → width ≤ wider → AreInTurnBy width n calls r r' → AreInTurnBy wider n calls r r'
by-wider width wider n calls r r' le turns = (turns.0, turns.1, groups-wider width wider n turns.0 r r' le turns.2)

-- ---- looks at once

all-at-once : (all : Bool) (count width : ℕ) → all ≡ true → count ≤ width → (all && nat_le count width) ≡ true
all-at-once true count width e le = grind (arith, nat_tests)
all-at-once false count width e le = absurd cc

looks-group : (width : ℕ) (calls : List RegCall) → list_all is_look calls ≡ true → length calls ≤ width → is_group width calls ≡ true
looks-group width [] all le = all-at-once true 0 width refl le
looks-group width (call ∷ []) all le = refl
looks-group width (a ∷ b ∷ calls) all le = all-at-once (list_all is_look (a ∷ b ∷ calls)) (length (a ∷ b ∷ calls)) width all le

pub looks-at_once : (width n : ℕ) (calls : List RegCall) (r r' : List RegEntry) → list_all is_look calls ≡ true → length calls ≤ width → AreMade n calls r r' → AreInTurnBy width n calls r r'
looks-at_once width n calls r r' all le made = (calls ∷ [], append-nil calls, (r', looks-group width calls all le, made, ([], sym (append-nil r'), refl)))

-- ---- one after the other

made-first : (n : ℕ) (calls : List RegCall) (r m r' : List RegEntry) → AsksNothing n r m → AreMade n calls m r' → AreMade n calls r r'
made-first n calls r m r' waits made = record {
  more = waits.0 ++ made.more;
  history = made.history ∙ (ap (λ h. h ++ made.more) waits.1 ∙ append_assoc r waits.0 made.more);
  calls_are =
      reg_calls_from-append r' n r waits.0 made.more
      ∙ (ap (λ cs. cs ++ reg_calls_from r' n (r ++ waits.0) made.more) (none-asked r' n r waits.0 waits.2)
      ∙ (ap (λ h. reg_calls_from r' n h made.more) (sym waits.1) ∙ made.calls_are));
  settled = made.settled;
}

groups-first : (width n : ℕ) (groups : List (List RegCall)) (r m r' : List RegEntry) → AsksNothing n r m → AreGroups width n groups m r' → AreGroups width n groups r r'
groups-first width n [] r m r' waits made = waits_first n [] r m r' waits made
groups-first width n (group ∷ groups) r m r' waits made = (made.0, made.1, made-first n group r m made.0 waits made.2, made.3)

pub by-first : (width n : ℕ) (calls : List RegCall) (r m r' : List RegEntry) → AsksNothing n r m → AreInTurnBy width n calls m r' → AreInTurnBy width n calls r r'
by-first width n calls r m r' waits turns = (turns.0, turns.1, groups-first width n turns.0 r m r' waits turns.2)

groups-after : (width n : ℕ) (groups later : List (List RegCall)) (r m r' : List RegEntry) → AreGroups width n groups r m → AreGroups width n later m r' → AreGroups width n (groups ++ later) r r'
groups-after width n [] later r m r' made rest = groups-first width n later r m r' made rest
groups-after width n (group ∷ groups) later r m r' made rest = (made.0, made.1, made.2, groups-after width n groups later made.0 m r' made.3 rest)

pub by-after : (width n : ℕ) (calls later : List RegCall) (r m r' : List RegEntry) → AreInTurnBy width n calls r m → AreInTurnBy width n later m r' → AreInTurnBy width n (calls ++ later) r r'
by-after width n calls later r m r' turns rest =
    (turns.0 ++ rest.0, flat_map-append (λ group. group) turns.0 rest.0 ∙ (λ i. turns.1 i ++ rest.1 i), groups-after width n turns.0 rest.0 r m r' turns.2 rest.2)

-- ---- what such calls are to the history

groups-are : (width n : ℕ) (groups : List (List RegCall)) (r r' : List RegEntry) → AllSettled (reg_calls n r) → AreGroups width n groups r r' → AreCalls n (joined groups) r r'
groups-are width n [] r r' settled made = nothing-are n r r' settled made
groups-are width n (group ∷ groups) r r' settled made =
    let first = made-are n group r made.0 settled made.2 in
    are-then n group (joined groups) r made.0 r' first (groups-are width n groups made.0 r' first.all_settled made.3)

pub by-are : (width n : ℕ) (calls : List RegCall) (r r' : List RegEntry) → AllSettled (reg_calls n r) → AreInTurnBy width n calls r r' → AreCalls n calls r r'
by-are width n calls r r' settled turns = subst (λ cs. AreCalls n cs r r') turns.1 (groups-are width n turns.0 r r' settled turns.2)

-- ---- one at a time

no-if : (own : Bool) (call : RegCall) → (if own then Some call else None) ≡ None → own ≡ false
no-if true call e = absurd cc
no-if false call e = refl

-- what is no call wasn't asked
unasked : (h : List RegEntry) (n : ℕ) (before : List RegEntry) (e : RegEntry) → reg_call_of h n before e ≡ None → is_asked n e ≡ false
unasked h n before (entry.Enlist by spec answer) e = no-if _ _ e
unasked h n before (entry.Look by text true answer) e = refl
unasked h n before (entry.Look by text false answer) e = no-if _ _ e
unasked h n before (entry.Unlist by driver answer) e = no-if _ _ e
unasked h n before (entry.Get by id ok) e = no-if _ _ e
unasked h n before (entry.Put by id) e = no-if _ _ e
unasked h n before (entry.Refs by driver) e = no-if _ _ e
unasked h n before (entry.List by) e = no-if _ _ e
unasked h n before (entry.Claim by larval) e = refl
unasked h n before (entry.End by larval answer) e = refl
unasked h n before (entry.Waited by larval) e = refl

filter-past : (n : ℕ) (e : RegEntry) (more : List RegEntry) → is_asked n e ≡ false → filter (is_asked n) (e ∷ more) ≡ filter (is_asked n) more
filter-past n e more not = ap (λ b. if b then e ∷ filter (is_asked n) more else filter (is_asked n) more) not

all-unasked : (h : List RegEntry) (n : ℕ) (before more : List RegEntry) → reg_calls_from h n before more ≡ [] → filter (is_asked n) more ≡ []
all-unasked h n before [] none = refl
all-unasked h n before (e ∷ more) none = by_call (reg_call_of h n before e) refl none (all-unasked h n (before ++ e ∷ []) more)
  where
    by_call : (o : Option RegCall) → reg_call_of h n before e ≡ o → prepend o (reg_calls_from h n (before ++ e ∷ []) more) ≡ []
        → (reg_calls_from h n (before ++ e ∷ []) more ≡ [] → filter (is_asked n) more ≡ []) → filter (is_asked n) (e ∷ more) ≡ []
    by_call (Some call) is none rest = absurd cc
    by_call None is none rest = filter-past n e more (unasked h n before e is) ∙ rest none

-- the entry of a lone call, and what stands on either side of it
abbrev Parts : List RegEntry → ℕ → List RegEntry → List RegEntry → RegCall → Type 0
Parts h n before more call =
    (a : List RegEntry) × (e : RegEntry) × (b : List RegEntry) × (more ≡ a ++ e ∷ b) × (reg_call_of h n (before ++ a) e ≡ Some call)
    × (filter (is_asked n) a ≡ []) × (filter (is_asked n) b ≡ [])

lone-parts : (h : List RegEntry) (n : ℕ) (before more : List RegEntry) (call : RegCall) → reg_calls_from h n before more ≡ call ∷ [] → Parts h n before more call
lone-parts h n before [] call is = absurd cc
lone-parts h n before (e ∷ more) call is = by_call (reg_call_of h n before e) refl is (lone-parts h n (before ++ e ∷ []) more call)
  where
    by_call : (o : Option RegCall) → reg_call_of h n before e ≡ o → prepend o (reg_calls_from h n (before ++ e ∷ []) more) ≡ call ∷ []
        → (reg_calls_from h n (before ++ e ∷ []) more ≡ call ∷ [] → Parts h n (before ++ e ∷ []) more call) → Parts h n before (e ∷ more) call
    by_call (Some c) at both later =
        let same : c ≡ call = cc in
        let none : reg_calls_from h n (before ++ e ∷ []) more ≡ [] = cc in
        ([], e, more, refl, ap (λ x. reg_call_of h n x e) (append-nil before) ∙ (at ∙ ap (λ x. Some x) same), refl, all-unasked h n (before ++ e ∷ []) more none)
    by_call None at rest later =
        let p = later rest in (
          e ∷ p.0,
          p.1,
          p.2,
          ap (λ xs. e ∷ xs) p.3,
          ap (λ x. reg_call_of h n x p.1) (sym (append_assoc before (e ∷ []) p.0)) ∙ p.4,
          filter-past n e p.0 (unasked h n before e at) ∙ p.5,
          p.6,
        )

alone-made : (n : ℕ) (call : RegCall) (r r' : List RegEntry) → AreMade n (call ∷ []) r r' → IsMade n call r r'
alone-made n call r r' made =
    let p = lone-parts r' n r made.more call made.calls_are in
    record {
      before = p.0;
      entry = p.1;
      after = p.2;
      history = made.history ∙ (ap (λ xs. r ++ xs) p.3 ∙ (sym (append_assoc r p.0 (p.1 ∷ p.2)) ∙ sym (append_assoc (r ++ p.0) (p.1 ∷ []) p.2)));
      call_is = p.4;
      settled = made.settled.0;
      none_before = p.5;
      none_after = p.6;
    }

none-made : (n : ℕ) (r r' : List RegEntry) → AreMade n [] r r' → AsksNothing n r r'
none-made n r r' made = (made.more, made.history, all-unasked r' n r made.more made.calls_are)

two-too-wide : (all : Bool) (count width : ℕ) → width ≤ 1 → (all && nat_le (suc (suc count)) width) ≡ true → ⊥
two-too-wide false count width le e = absurd cc
two-too-wide true count width le e = grind (arith, nat_tests)

groups-alone : (width n : ℕ) (groups : List (List RegCall)) (r r' : List RegEntry) → width ≤ 1 → AreGroups width n groups r r' → AreInTurn n (joined groups) r r'
groups-alone width n [] r r' le made = made
groups-alone width n ([] ∷ groups) r r' le made =
    waits_first n (joined groups) r made.0 r' (none-made n r made.0 made.2) (groups-alone width n groups made.0 r' le made.3)
groups-alone width n ((call ∷ []) ∷ groups) r r' le made = (made.0, alone-made n call r made.0 made.2, groups-alone width n groups made.0 r' le made.3)
groups-alone width n ((a ∷ b ∷ group) ∷ groups) r r' le made = absurd (two-too-wide (list_all is_look (a ∷ b ∷ group)) (length group) width le made.1)

pub by-alone : (width n : ℕ) (calls : List RegCall) (r r' : List RegEntry) → width ≤ 1 → AreInTurnBy width n calls r r' → AreInTurn n calls r r'
by-alone width n calls r r' le turns = subst (λ cs. AreInTurn n cs r r') turns.1 (groups-alone width n turns.0 r r' le turns.2)
