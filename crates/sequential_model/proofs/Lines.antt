-- What a drain tells, by the lines of the requests in place of their numbers.
use Rattle.std.proofs.Common.{◌≡◌, ℕ, zero, suc, ◌+◌, ◌<◌, ◌≤◌, true, false, cond, List, [], ◌∷◌, ◌++◌, length, map, drop, refl, ap, sym, ◌∙◌, arith, Option, Some, None}
use Rattle.std.specs.Prelude.{slice_get, nat_le}
use Rattle.std.specs.Option.{option_map}
use Rattle.std.proofs.lemmas.Bool.Decides.{nat_tests}
use Rattle.std.proofs.lemmas.List.{map-append}
use Rattle.kc_base.specs.declared.callback_list.Callback.TheVariants.{Started, Done}
use Rattle.transforms.specs.declared.ask.Ask.{Ask}
use Rattle.transforms.specs.Finish.{finished_of}
use Rattle.dialogues.specs.BoardCalls.{asked_by}
use Rattle.dialogues.specs.RequestCommands.{value_of}
use Rattle.dialogues.specs.BoardCalls.{Started as StartedLine, Completed, origin_in, notice_of}
use Rattle.sequential_model.proofs.Callbacks.{starts_at, drained as drained_by_number}
use Rattle.sequential_model.specs.Pipelines.{started_of, started_in, drained}

get_drop : (subs : List Ask) (n k : ℕ) → slice_get (drop n subs) k ≡ slice_get subs (n + k)
get_drop subs zero k = let e : k ≡ 0 + k = omega arith in ap (λ m. slice_get subs m) e
get_drop [] (suc n) k = refl
get_drop (x ∷ subs) (suc n) k = let e : suc (n + k) ≡ suc n + k = omega arith in get_drop subs n k ∙ ap (λ m. slice_get (x ∷ subs) m) e

get_map : (xs : List Ask) (k : ℕ) → slice_get (map asked_by xs) k ≡ option_map asked_by (slice_get xs k)
get_map [] k = refl
get_map (x ∷ xs) zero = refl
get_map (x ∷ xs) (suc k) = get_map xs k

some_within : (xs : List Ask) (k : ℕ) (a : Ask) → slice_get xs k ≡ Some a → k < length xs
some_within [] k a e = absurd cc
some_within (x ∷ xs) zero a e = omega arith
some_within (x ∷ xs) (suc k) a e = let r : k < length xs = some_within xs k a e in omega (arith, r)

none_past : (xs : List Ask) (k : ℕ) → slice_get xs k ≡ None → length xs ≤ k
none_past [] k e = omega arith
none_past (x ∷ xs) zero e = absurd cc
none_past (x ∷ xs) (suc k) e = let r : length xs ≤ k = none_past xs k e in omega (arith, r)

is_le : (a b : ℕ) → a ≤ b → nat_le a b ≡ true
is_le a b le = grind (arith, nat_tests)

is_not_le : (a b : ℕ) → b < a → nat_le a b ≡ false
is_not_le a b lt = grind (arith, nat_tests)

length_map : (xs : List Ask) → length (map asked_by xs) ≡ length xs
length_map [] = refl
length_map (x ∷ xs) = ap suc (length_map xs)

-- who has started
starts_line : (subs : List Ask) (n max : ℕ) (a : Ask) (rest : List Ask) → drop n subs ≡ a ∷ rest → map (notice_of subs) (starts_at n (length (map asked_by rest)) (Some max)) ≡ started_in (Some max) (map asked_by (a ∷ rest))
starts_line subs n max a rest is = by (slice_get (a ∷ rest) max) refl ∙ sym (ap started_of (get_map (a ∷ rest) max))
  where
    there : slice_get subs (n + max) ≡ slice_get (a ∷ rest) max
    there = sym (get_drop subs n max) ∙ ap (λ xs. slice_get xs max) is

    by : (o : Option Ask) → slice_get (a ∷ rest) max ≡ o → map (notice_of subs) (cond (nat_le max (length (map asked_by rest))) (Started (n + max) ∷ []) []) ≡ started_of (option_map asked_by (slice_get (a ∷ rest) max))
    by None e =
        let le : suc (length rest) ≤ max = none_past (a ∷ rest) max e in
        ap (λ b. map (notice_of subs) (cond b (Started (n + max) ∷ []) [])) (is_not_le max (length (map asked_by rest)) (omega (arith, le, length_map rest)))
        ∙ sym (ap (λ o. started_of (option_map asked_by o)) e)
    by (Some x) e =
        let lt : max < suc (length rest) = some_within (a ∷ rest) max x e in
        ap (λ b. map (notice_of subs) (cond b (Started (n + max) ∷ []) [])) (is_le max (length (map asked_by rest)) (omega (arith, lt, length_map rest)))
        ∙ (ap (λ o. StartedLine (origin_in o) ∷ []) (there ∙ e) ∙ sym (ap (λ o. started_of (option_map asked_by o)) e))

head_there : (subs : List Ask) (n : ℕ) (a : Ask) (rest : List Ask) → drop n subs ≡ a ∷ rest → (slice_get subs n ≡ Some a) × (drop (n + 1) subs ≡ rest)
head_there [] zero a rest e = absurd cc
head_there [] (suc n) a rest e = absurd cc
head_there (x ∷ subs) zero a rest e =
    let f : x ≡ a = cc in
    let g : subs ≡ rest = cc in
    (ap (λ (y : Ask). Some y) f, g)
head_there (x ∷ subs) (suc n) a rest e =
    let r = head_there subs n a rest e in
    let k : suc n + 1 ≡ suc (n + 1) = omega arith in
    (r.0, ap (λ m. drop m (x ∷ subs)) k ∙ r.1)

starts_in : (subs : List Ask) (n : ℕ) (bound : Option ℕ) (a : Ask) (rest : List Ask) → drop n subs ≡ a ∷ rest → map (notice_of subs) (starts_at n (length (map asked_by rest)) bound) ≡ started_in bound (map asked_by (a ∷ rest))
starts_in subs n None a rest is = refl
starts_in subs n (Some max) a rest is = starts_line subs n max a rest is

-- the notices of a drain, by the lines of the asks
pub drained_lines : (subs : List Ask) (bound : Option ℕ) (n : ℕ) (xs : List Ask) → drop n subs ≡ xs → map (notice_of subs) (drained_by_number bound n (map asked_by xs)) ≡ drained bound (map asked_by xs)
drained_lines subs bound n [] is = refl
drained_lines subs bound n (a ∷ rest) is =
    let h = head_there subs n a rest is in
    map-append (notice_of subs) (starts_at n (length (map asked_by rest)) bound) (Done n (finished_of (value_of (asked_by a))) ∷ drained_by_number bound (n + 1) (map asked_by rest))
    ∙ (λ i. starts_in subs n bound a rest is i ++ Completed (origin_in (h.0 i)) (finished_of (value_of (asked_by a))) ∷ drained_lines subs bound (n + 1) rest h.1 i)
