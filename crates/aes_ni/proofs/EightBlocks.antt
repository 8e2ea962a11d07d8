-- rounds of eight blocks
use Rattle.std.specs.Prelude.{◌≡◌, ℕ, suc, ◌+◌, ◌-◌, ◌<◌, ◌≤◌, List, [], ◌++◌, map, length, take, drop, refl}
use Rattle.std.proofs.Common.{◌∙◌, ap, subst, arith, get_or, set}
use Rattle.std.proofs.lemmas.List.{get_or_default, length-append, length-map, length-take-le, length-drop}
use Rattle.std.proofs.lemmas.List.Edits.{map_over_more}
use Rattle.std.proofs.lemmas.Simd.{map-map}
use Rattle.std_defs.specs.Aes.{add_round_key, sub_bytes, shift_rows, mix_columns, inverse_sub_bytes, inverse_shift_rows, inverse_mix_columns, after_rounds, before_rounds, key_schedule, seal, unseal}
use Rattle.aes_block.specs.Schedule.{IsSchedule, key_of}
use Rattle.aes_block.proofs.Rounds.{sealing_more, sealed_all, unsealing_none, unsealing_more}
use Rattle.aes_block.proofs.KeyBlocks.{first_key, first_key_back}
use Rattle.aes_block.proofs.EquivalentInverse.{sub_shift}

-- g of each, where each was f of one before
then : {A B C : Type 0} (f : A → B) (g : B → C) (h : A → C) → ((a : A) → g (f a) ≡ h a) → (xs : List A) → map g (map f xs) ≡ map h xs
then f g h e xs = map-map g f xs ∙ (λ j. map (λ a. e a j) xs)

-- each below i was f of what stood there, and the next becomes it
pub one_done : (f : List ℕ → List ℕ) (xs ys : List (List ℕ)) (i : ℕ) (z : List ℕ) → length xs ≡ 8 → i < 8 → ys ≡ map f (take i xs) ++ drop i xs → z ≡ f (get_or ys i [])
    → set ys i z ≡ map f (take (i + 1) xs) ++ drop (i + 1) xs
one_done f xs ys i z long below done e =
    let within : i < length ys = omega (
      arith,
      ap length done,
      length-append (map f (take i xs)) (drop i xs),
      length-map (take i xs) f,
      length-take-le i xs (omega arith),
      length-drop i xs,
    ) in
    ap (set ys i) e ∙ map_over_more f xs ys i (get_or ys i []) (omega arith) done (get_or_default ys i [] (get_or ys i []) within)

-- ---- sealing

abbrev pub rounded : ℕ → List (List ℕ) → ℕ → List (List ℕ) → List (List ℕ)
rounded r ws n blocks = map (λ b. after_rounds (key_schedule (key_of r ws)) b n) blocks

pub all_begun : (r : ℕ) (ws : List (List ℕ)) (x states : List (List ℕ)) → IsSchedule r ws → states ≡ map (add_round_key ws 0) x → states ≡ rounded r ws 0 x
all_begun r ws x states h e = e ∙ (λ j. map (λ b. first_key r ws b h j) x)

pub all_more : (r : ℕ) (ws : List (List ℕ)) (i : ℕ) (x before after : List (List ℕ)) → IsSchedule r ws → 1 ≤ i → i < r → before ≡ rounded r ws (i - 1) x
    → after ≡ map (λ s. add_round_key ws i (mix_columns (shift_rows (sub_bytes s)))) before → after ≡ rounded r ws (i + 1 - 1) x
all_more r ws i x before after h from below done e =
    let k : List (List ℕ) = key_schedule (key_of r ws) in
    let one : List ℕ → List ℕ = λ s. add_round_key ws i (mix_columns (shift_rows (sub_bytes s))) in
    e ∙ ap (map one) done
    ∙ then (λ b. after_rounds k b (i - 1)) one (λ b. after_rounds k b (i + 1 - 1)) (λ b. sealing_more r ws b (after_rounds k b (i - 1)) i h from below refl) x

pub all_sealed : (r : ℕ) (ws : List (List ℕ)) (i : ℕ) (x before after : List (List ℕ)) → IsSchedule r ws → i ≡ r → before ≡ rounded r ws (i - 1) x
    → after ≡ map (λ s. add_round_key ws r (shift_rows (sub_bytes s))) before → after ≡ map (seal (key_of r ws)) x
all_sealed r ws i x before after h at done e =
    let k : List (List ℕ) = key_schedule (key_of r ws) in
    let last : List ℕ → List ℕ = λ s. add_round_key ws r (shift_rows (sub_bytes s)) in
    e ∙ ap (map last) (subst (λ (n : ℕ). before ≡ rounded r ws (n - 1) x) at done)
    ∙ then (λ b. after_rounds k b (r - 1)) last (seal (key_of r ws)) (λ b. sealed_all r ws b (after_rounds k b (r - 1)) h refl) x

-- ---- unsealing

-- what n more rounds come to
abbrev pub unrounded : ℕ → List (List ℕ) → ℕ → List (List ℕ) → List (List ℕ)
unrounded r ws n states = map (λ s. before_rounds (key_schedule (key_of r ws)) (inverse_sub_bytes (inverse_shift_rows s)) n) states

pub back_all_begun : (r : ℕ) (ws : List (List ℕ)) (x states : List (List ℕ)) → IsSchedule r ws → states ≡ map (add_round_key ws r) x
    → unrounded r ws (r - 1) states ≡ map (unseal (key_of r ws)) x
back_all_begun r ws x states h e =
    ap (unrounded r ws (r - 1)) e
    ∙ then (add_round_key ws r) (λ s. before_rounds (key_schedule (key_of r ws)) (sub_shift s) (r - 1)) (unseal (key_of r ws)) (λ b. unsealing_none r ws b h) x

pub back_all_more : (r : ℕ) (ws : List (List ℕ)) (i n : ℕ) (x before after : List (List ℕ)) → IsSchedule r ws → i ≡ suc n → i < r
    → unrounded r ws i before ≡ map (unseal (key_of r ws)) x
    → after ≡ map (λ s. inverse_mix_columns (add_round_key ws i (inverse_sub_bytes (inverse_shift_rows s)))) before
    → unrounded r ws n after ≡ map (unseal (key_of r ws)) x
back_all_more r ws i n x before after h next below done e =
    let k : List (List ℕ) = key_schedule (key_of r ws) in
    let one : List ℕ → List ℕ = λ s. inverse_mix_columns (add_round_key ws i (sub_shift s)) in
    ap (unrounded r ws n) e
    ∙ then one (λ s. before_rounds k (sub_shift s) n) (λ s. before_rounds k (sub_shift s) i) (λ s. unsealing_more r ws (sub_shift s) i n h next below) before
    ∙ done

pub back_all_end : (r : ℕ) (ws : List (List ℕ)) (n : ℕ) (x before after : List (List ℕ)) → IsSchedule r ws → n ≡ 0 → unrounded r ws n before ≡ map (unseal (key_of r ws)) x
    → after ≡ map (λ s. add_round_key ws 0 (inverse_sub_bytes (inverse_shift_rows s))) before → after ≡ map (unseal (key_of r ws)) x
back_all_end r ws n x before after h at done e =
    e ∙ (λ j. map (λ s. first_key_back r ws (sub_shift s) h j) before)
    ∙ subst (λ (m : ℕ). unrounded r ws m before ≡ map (unseal (key_of r ws)) x) at done
