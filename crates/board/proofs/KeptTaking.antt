-- A job that is taken leaves a pad as its entries say, of a pad alone and of a chain.
use Rattle.std.proofs.Common.{is_some, take, filter_map, true, ◌≡◌, ◌≢◌, ℕ, ◌+◌, ◌<◌, ◌≤◌, false, cond, List, [], ◌∷◌, ◌++◌, length, map, Option, None, refl, sym, ◌∙◌, ap, arith, append-nil, length-append, inl, inr, ◌⊎◌, get_or}
use Rattle.std.specs.Prelude.{◌==◌}
use Rattle.std.specs.List.{filter}
use Rattle.std.proofs.lemmas.Bool.{eqb-true, false_from_ne_true, cases_lt, eq-eqb}
use Rattle.std.proofs.lemmas.List.{map-append}
use Rattle.std.proofs.lemmas.List.Elements.{filter-append}
use Rattle.std.proofs.lemmas.List.{get_or_append_left}
use Rattle.std.proofs.Math.Seq.{get_or-append_seam}
use Rattle.std.proofs.Common.{add-one}
use Rattle.padata_core.specs.Pad.{Pad, taken_of, with_taken}
use Rattle.board.specs.declared.entry.BoardEntry.{BoardEntry}
use Rattle.board.specs.declared.entry.BoardEntry.TheVariants.{Take}
use Rattle.board.specs.Shapes.{queue_born}
use Rattle.board.specs.Entries.{birth, accepted_in, submissions, dequeued_in, dequeues, passed_on, taken_in, takings, takers, finished_in, finished, meaning_at}
use Rattle.board.specs.Kept.{IsKeptPad, outcome_at}
use Rattle.board.proofs.Lists.{filter_map-none, filter_map-some}
use Rattle.board.proofs.Keeping.{birth_stays}
use Rattle.board.proofs.KeptPassing.{drop_head}

pub takers-taken : {A : Type 0} (es : List (BoardEntry A)) (p n caller m : ℕ) → is_some (birth es) ≡ true → queue_born (birth es) ≡ false → takers m (es ++ Take caller p n ∷ []) ≡ takers m es ++ map (λ (t : ℕ × ℕ). t.1) (cond (n == m) ((n, caller) ∷ []) [])
takers-taken {A} es p n caller m b q =
    let e : BoardEntry A = Take caller p n in
    let be = birth_stays es e b in
    let old : takings es ≡ filter_map taken_in es = ap (λ c. cond c (dequeues es) (filter_map taken_in es)) q in
    let new : takings (es ++ e ∷ []) ≡ takings es ++ (n, caller) ∷ [] = ap (λ c. cond c (dequeues (es ++ e ∷ [])) (filter_map taken_in (es ++ e ∷ []))) (ap queue_born be ∙ q) ∙ (filter_map-some taken_in es e (n, caller) refl ∙ ap (λ ts. ts ++ (n, caller) ∷ []) (sym old)) in
    ap (λ ts. map (λ (t : ℕ × ℕ). t.1) (filter (λ (t : ℕ × ℕ). t.0 == m) ts)) new
    ∙ (ap (map (λ (t : ℕ × ℕ). t.1)) (filter-append (λ (t : ℕ × ℕ). t.0 == m) (takings es) ((n, caller) ∷ []))
    ∙ map-append (λ (t : ℕ × ℕ). t.1) (filter (λ (t : ℕ × ℕ). t.0 == m) (takings es)) (cond (n == m) ((n, caller) ∷ []) []))

not_nil_append : {X : Type 0} (xs ys : List X) → xs ≢ [] → xs ++ ys ≢ []
not_nil_append [] ys h e = h refl
not_nil_append (x ∷ xs) ys h e = cc

append_not_nil : {X : Type 0} (xs : List X) (y : X) → xs ++ y ∷ [] ≢ []
append_not_nil [] y e = cc
append_not_nil (x ∷ xs) y e = cc

taken_after : {J O A : Type 0} (asked : J → A) (meaning : A → O) (pad : Pad J O) (es : List (BoardEntry A)) (p caller : ℕ) → IsKeptPad asked meaning pad es → is_some (birth es) ≡ true → queue_born (birth es) ≡ false → (m : ℕ) → m < taken_of pad + 1 → (m < taken_of pad) ⊎ (taken_of pad ≤ m) → takers m (es ++ Take caller p (taken_of pad) ∷ []) ≢ []
taken_after asked meaning pad es p caller k b q m l (inl below) h =
    not_nil_append (takers m es) _ (k.taken m below) (sym (takers-taken es p (taken_of pad) caller m b q) ∙ h)
taken_after asked meaning pad es p caller k b q m l (inr above) h =
    let same : taken_of pad ≡ m = omega arith in
    let eq = eq-eqb (taken_of pad) m same in
    append_not_nil (takers m es) caller (sym (takers-taken es p (taken_of pad) caller m b q ∙ ap (λ c. takers m es ++ map (λ (t : ℕ × ℕ). t.1) (cond c ((taken_of pad, caller) ∷ []) [])) eq) ∙ h)

take_outcomes : {J O A : Type 0} (asked : J → A) (meaning : A → O) (pad : Pad J O) (es : List (BoardEntry A)) → IsKeptPad asked meaning pad es → (m : ℕ) (d : Option O) → m < length pad.outcomes + 1 → (m < length pad.outcomes) ⊎ (length pad.outcomes ≤ m) → get_or (pad.outcomes ++ None ∷ []) m d ≡ outcome_at meaning es (pad.collected + m)
take_outcomes asked meaning pad es k m d l (inl below) = get_or_append_left pad.outcomes (None ∷ []) d m below ∙ k.outcomes m d below
take_outcomes asked meaning pad es k m d l (inr above) =
    let q : m ≡ length pad.outcomes = omega arith in
    let r = k.running (taken_of pad) (omega arith) in
    rw q (get_or-append_seam pad.outcomes None [] d ∙ sym (ap (λ c. cond c (meaning_at meaning (submissions es) (taken_of pad)) None) r))

pub take_kept : {J O A : Type 0} (asked : J → A) (meaning : A → O) (pad : Pad J O) (es : List (BoardEntry A)) (p caller : ℕ) (job : J) (rest : List J) → IsKeptPad asked meaning pad es → is_some (birth es) ≡ true → queue_born (birth es) ≡ false → passed_on es ≤ length (submissions es) → pad.waiting ≡ job ∷ rest
    → IsKeptPad asked meaning (with_taken pad rest) (es ++ Take caller p (taken_of pad) ∷ [])
take_kept {J} {O} {A} asked meaning pad es p caller job rest k b q le w =
    let e : BoardEntry A = Take caller p (taken_of pad) in
    let be = birth_stays es e b in
    let len : length (pad.outcomes ++ None ∷ []) ≡ length pad.outcomes + 1 = length-append pad.outcomes (None ∷ []) in
    let subs : submissions (es ++ e ∷ []) ≡ submissions es = filter_map-none accepted_in es e refl in
    let deqs : dequeues (es ++ e ∷ []) ≡ dequeues es = filter_map-none dequeued_in es e refl in
    let pass : passed_on (es ++ e ∷ []) ≡ passed_on es = rw (be, deqs, subs) refl in
    let fins : finished (es ++ e ∷ []) ≡ finished es = filter_map-none finished_in es e refl in
    let lw = ap length w in
    let dh = drop_head (take (passed_on es) (submissions es)) (taken_of pad) (asked job) (map asked rest) (sym k.waiting ∙ ap (map asked) w) in
    let t1 : pad.collected + length (pad.outcomes ++ None ∷ []) ≡ taken_of pad + 1 = omega arith in
    record {
      submitted = (let s = k.submitted in rw pass (omega arith));
      waiting = rw (pass, subs, t1, add-one) (sym dh.1);
      taken = λ m l. taken_after asked meaning pad es p caller k b q m (rw t1 at l) (cases_lt m (taken_of pad));
      untaken = λ m l.
          (let l2 = rw t1 at l in
          let ne : (taken_of pad == m) ≡ false = false_from_ne_true (taken_of pad == m) (λ h. (let z = eqb-true (taken_of pad) m h in absurd (omega arith))) in
          takers-taken es p (taken_of pad) caller m b q ∙ (ap (λ c. takers m es ++ map (λ (t : ℕ × ℕ). t.1) (cond c ((taken_of pad, caller) ∷ []) [])) ne ∙ (append-nil (takers m es) ∙ k.untaken m (omega arith))));
      outcomes = λ m d l. rw (subs, fins) (take_outcomes asked meaning pad es k m d (rw len at l) (cases_lt m (length pad.outcomes)));
      passed = λ m l. rw fins (k.passed m l);
      running = λ m l. rw fins (k.running m (let l2 = rw t1 at l in omega arith));
    }
