-- What a queue told, request by request, and what a collect makes of it.
use Rattle.std.proofs.Common.{◌≡◌, ℕ, zero, suc, ◌+◌, ◌≤◌, ◌⊎◌, inl, inr, Bool, true, false, cond, List, [], ◌∷◌, ◌++◌, length, drop, map, refl, ap, sym, ◌∙◌, arith, Some, None, append-nil, append_assoc, zero-add}
use Rattle.std.specs.Prelude.{slice_get, nat_lt, nat_le}
use Rattle.std.specs.List.{filter_map}
use Rattle.std.proofs.lemmas.Bool.Decides.{nat_tests}
use Rattle.std.proofs.lemmas.List.Elements.{filter_map-append}
use Rattle.kc_base.specs.declared.callback_list.Callback.{Callback}
use Rattle.kc_base.specs.declared.callback_list.Callback.TheVariants.{Started, Done}
use Rattle.board.specs.Entries.{Notice, Starts, Completes, completes_from, callback_of, completion, meaning_at}
use Rattle.transforms.specs.declared.ask.Ask.{Ask}
use Rattle.transforms.specs.declared.request.Finished.{Finished}
use Rattle.dialogues.specs.BoardCalls.{asked_by, outcome}
use Rattle.sequential_model.proofs.Callbacks.{starts_at, drained}
use Rattle.sequential_model.proofs.Standing.{starts_of, notices, IsUntold}

-- one request more
notices_more : (max total n k : ℕ) → notices max total n (suc k) ≡ notices max total n k ++ (starts_of max total (n + k) ++ Completes (n + k) ∷ [])
notices_more max total n zero = let e : n ≡ n + 0 = omega arith in ap (λ m. starts_of max total m ++ Completes m ∷ []) e
notices_more max total n (suc k) =
    let e : (n + 1) + k ≡ n + suc k = omega arith in
    ap (λ ns. starts_of max total n ++ Completes n ∷ ns) (notices_more max total (n + 1) k ∙ ap (λ m. notices max total (n + 1) k ++ (starts_of max total m ++ Completes m ∷ [])) e)
    ∙ sym (append_assoc (starts_of max total n) (Completes n ∷ notices max total (n + 1) k) (starts_of max total (n + suc k) ++ Completes (n + suc k) ∷ []))

-- a request is taken out
pub untold_taken : (max total first done taken : ℕ) (ns : List Notice) → taken ≡ done → IsUntold max total first done taken ns → IsUntold max total first done (taken + 1) (ns ++ starts_of max total done)
untold_taken max total first done taken ns same u = record { many = u.many; up_to = u.up_to; last = starts_of max total done; said = ap (λ xs. xs ++ starts_of max total done) (u.said ∙ by u.now); now = inr (omega (arith, same), refl) }
  where
    by : ((taken ≡ done) × (u.last ≡ [])) ⊎ ((taken ≡ done + 1) × (u.last ≡ starts_of max total done)) → notices max total first u.many ++ u.last ≡ notices max total first u.many
    by (inl q) = ap (λ xs. notices max total first u.many ++ xs) q.1 ∙ append-nil (notices max total first u.many)
    by (inr q) = absurd (omega (arith, same, q.0))

-- it is done
pub untold_done : (max total first done taken : ℕ) (ns : List Notice) → taken ≡ done + 1 → IsUntold max total first done taken ns → IsUntold max total first (done + 1) taken (ns ++ Completes done ∷ [])
untold_done max total first done taken ns next u = record {
  many = suc u.many;
  up_to = omega (arith, u.up_to);
  last = [];
  said = ap (λ xs. xs ++ Completes done ∷ []) (u.said ∙ by u.now)
      ∙ (append_assoc (notices max total first u.many) (starts_of max total done) (Completes done ∷ [])
      ∙ (ap (λ m. notices max total first u.many ++ (starts_of max total m ++ Completes m ∷ [])) (sym u.up_to)
      ∙ (sym (notices_more max total first u.many) ∙ sym (append-nil (notices max total first (suc u.many))))));
  now = inl (next, refl);
}
  where
    by : ((taken ≡ done) × (u.last ≡ [])) ⊎ ((taken ≡ done + 1) × (u.last ≡ starts_of max total done)) → notices max total first u.many ++ u.last ≡ notices max total first u.many ++ starts_of max total done
    by (inl q) = absurd (omega (arith, next, q.0))
    by (inr q) = ap (λ xs. notices max total first u.many ++ xs) q.1

not_below : (a b : ℕ) → b ≤ a → nat_lt a b ≡ false
not_below a b le = grind (arith, nat_tests)

starts_none : (max total n : ℕ) → total ≤ n + max → starts_of max total n ≡ []
starts_none max total n le = ap (λ b. cond b (Starts (n + max) ∷ []) []) (not_below (n + max) total le)

-- where no more are accepted than a queue takes, nothing is told to have started
notices_calm : (max total n first k : ℕ) → first ≤ n → total + 1 ≤ first + max → notices max total n k ≡ notices max (total + 1) n k
notices_calm max total n first zero le calm = refl
notices_calm max total n first (suc k) le calm =
    let rest = notices_calm max total (n + 1) first k (omega (arith, le)) calm in
    let starts : starts_of max total n ≡ starts_of max (total + 1) n = starts_none max total n (omega (arith, le, calm)) ∙ sym (starts_none max (total + 1) n (omega (arith, le, calm))) in
    λ i. starts i ++ Completes n ∷ rest i

-- one more is accepted
pub untold_more : (max total first done taken : ℕ) (ns : List Notice) → (taken ≡ first) ⊎ (total + 1 ≤ first + max) → IsUntold max total first done taken ns → IsUntold max (total + 1) first done taken ns
untold_more max total first done taken ns (inl none) u = by u.now
  where
    by : ((taken ≡ done) × (u.last ≡ [])) ⊎ ((taken ≡ done + 1) × (u.last ≡ starts_of max total done)) → IsUntold max (total + 1) first done taken ns
    by (inl q) =
        let zero_many : u.many ≡ 0 = omega (arith, none, q.0, u.up_to) in
        record {
          many = u.many;
          up_to = u.up_to;
          last = u.last;
          said = u.said ∙ ap (λ xs. xs ++ u.last) (ap (λ k. notices max total first k) zero_many ∙ sym (ap (λ k. notices max (total + 1) first k) zero_many));
          now = inl q;
        }
    by (inr q) = absurd (omega (arith, none, q.0, u.up_to))
untold_more max total first done taken ns (inr calm) u = record {
  many = u.many;
  up_to = u.up_to;
  last = u.last;
  said = u.said ∙ ap (λ xs. xs ++ u.last) (notices_calm max total first first u.many (omega arith) calm);
  now = by u.now;
}
  where
    by : ((taken ≡ done) × (u.last ≡ [])) ⊎ ((taken ≡ done + 1) × (u.last ≡ starts_of max total done)) → ((taken ≡ done) × (u.last ≡ [])) ⊎ ((taken ≡ done + 1) × (u.last ≡ starts_of max (total + 1) done))
    by (inl q) = inl q
    by (inr q) = inr (q.0, q.1 ∙ (starts_none max total done (omega (arith, u.up_to, calm)) ∙ sym (starts_none max (total + 1) done (omega (arith, u.up_to, calm)))))

-- nothing is untold
pub untold_none : (max total first : ℕ) → IsUntold max total first first first []
untold_none max total first = record { many = 0; up_to = omega arith; last = []; said = refl; now = inl (refl, refl) }

-- all is done
pub untold_all : (max total first done taken : ℕ) (ns : List Notice) → done ≡ total → taken ≤ total → IsUntold max total first done taken ns → (k : ℕ) × (first + k ≡ total) × (ns ≡ notices max total first k)
untold_all max total first done taken ns all le u = (u.many, u.up_to ∙ all, u.said ∙ by u.now)
  where
    by : ((taken ≡ done) × (u.last ≡ [])) ⊎ ((taken ≡ done + 1) × (u.last ≡ starts_of max total done)) → notices max total first u.many ++ u.last ≡ notices max total first u.many
    by (inl q) = ap (λ xs. notices max total first u.many ++ xs) q.1 ∙ append-nil (notices max total first u.many)
    by (inr q) = absurd (omega (arith, all, le, q.0))

-- ---- callbacks

callbacks : List Ask → List Notice → List (Callback Finished)
callbacks subs ns = filter_map (callback_of outcome subs) ns

meaning_get : (subs : List Ask) (n : ℕ) (a : Ask) → slice_get subs n ≡ Some a → meaning_at outcome subs n ≡ Some (outcome a)
meaning_get [] n a e = absurd cc
meaning_get (x ∷ subs) zero a e = let f : x ≡ a = cc in ap (λ (y : Ask). Some (outcome y)) f
meaning_get (x ∷ subs) (suc n) a e = meaning_get subs n a e

drop_head : (subs : List Ask) (n : ℕ) (a : Ask) (rest : List Ask) → drop n subs ≡ a ∷ rest → (slice_get subs n ≡ Some a) × (drop (n + 1) subs ≡ rest) × (length subs ≡ n + 1 + length rest)
drop_head [] zero a rest e = absurd cc
drop_head [] (suc n) a rest e = absurd cc
drop_head (x ∷ subs) zero a rest e =
    let f : x ≡ a = cc in
    let g : subs ≡ rest = cc in
    (ap (λ (y : Ask). Some y) f, g, omega (arith, ap length g))
drop_head (x ∷ subs) (suc n) a rest e =
    let r = drop_head subs n a rest e in
    let k : suc n + 1 ≡ suc (n + 1) = omega arith in
    (r.0, ap (λ m. drop m (x ∷ subs)) k ∙ r.1, omega (arith, r.2))

drop_none : (subs : List Ask) (n : ℕ) → drop n subs ≡ [] → length subs ≤ n
drop_none [] n e = omega arith
drop_none (x ∷ subs) zero e = absurd cc
drop_none (x ∷ subs) (suc n) e = let r : length subs ≤ n = drop_none subs n e in omega (arith, r)

length_map : (xs : List Ask) → length (map asked_by xs) ≡ length xs
length_map [] = refl
length_map (x ∷ xs) = ap suc (length_map xs)

same_test : (max total n behind : ℕ) → total ≡ n + 1 + behind → nat_lt (n + max) total ≡ nat_le max behind
same_test max total n behind e = grind (arith, nat_tests)

starts_callbacks : (subs : List Ask) (max n : ℕ) (b : Bool) → callbacks subs (cond b (Starts (n + max) ∷ []) []) ≡ cond b (Started (n + max) ∷ []) []
unfolding callbacks
starts_callbacks subs max n true = refl
starts_callbacks subs max n false = refl

-- a queue on which all is done hands out what a plain drain tells
pub queue_callbacks : (subs : List Ask) (max n k : ℕ) (xs : List Ask) → drop n subs ≡ xs → n + k ≡ length subs → filter_map (callback_of outcome subs) (notices max (length subs) n k) ≡ drained (Some max) n (map asked_by xs)
unfolding callbacks
queue_callbacks subs max n zero [] is all = refl
queue_callbacks subs max n (suc k) [] is all = absurd (omega (arith, all, drop_none subs n is))
queue_callbacks subs max n zero (a ∷ rest) is all = let r = drop_head subs n a rest is in absurd (omega (arith, all, r.2))
queue_callbacks subs max n (suc k) (a ∷ rest) is all =
    let r = drop_head subs n a rest is in
    let later = queue_callbacks subs max (n + 1) k rest r.1 (omega (arith, all)) in
    let test : nat_lt (n + max) (length subs) ≡ nat_le max (length (map asked_by rest)) = same_test max (length subs) n (length (map asked_by rest)) (omega (arith, r.2, length_map rest)) in
    filter_map-append (callback_of outcome subs) (starts_of max (length subs) n) (Completes n ∷ notices max (length subs) (n + 1) k)
    ∙ ((λ i. starts_callbacks subs max n (test i) i ++ filter_map (callback_of outcome subs) (Completes n ∷ notices max (length subs) (n + 1) k))
    ∙ (ap (λ o. starts_at n (length (map asked_by rest)) (Some max) ++ Rattle.std.specs.List.cons_option (completion n o) (filter_map (callback_of outcome subs) (notices max (length subs) (n + 1) k))) (meaning_get subs n a r.0)
    ∙ ap (λ cs. starts_at n (length (map asked_by rest)) (Some max) ++ Done n (outcome a) ∷ cs) later))

-- ---- pads

drop_completes : (n m k : ℕ) → drop n (completes_from m (n + k)) ≡ completes_from (m + n) k
drop_completes zero m k =
    let e : m ≡ m + 0 = omega arith in
    let z : 0 + k ≡ k = zero-add k in
    λ i. completes_from (e i) (z i)
drop_completes (suc n) m k =
    let e : suc m + n ≡ m + suc n = omega arith in
    let z : suc n + k ≡ suc (n + k) = omega arith in
    ap (λ j. drop (suc n) (completes_from m j)) z ∙ (drop_completes n (suc m) k ∙ ap (λ i. completes_from i k) e)

pub length_completes : (n k : ℕ) → length (completes_from n k) ≡ k
length_completes n zero = refl
length_completes n (suc k) = ap suc (length_completes (suc n) k)

from_callbacks : (subs : List Ask) (n k : ℕ) (xs : List Ask) → drop n subs ≡ xs → n + k ≡ length subs → filter_map (callback_of outcome subs) (completes_from n k) ≡ drained None n (map asked_by xs)
from_callbacks subs n zero [] is all = refl
from_callbacks subs n (suc k) [] is all = absurd (omega (arith, all, drop_none subs n is))
from_callbacks subs n zero (a ∷ rest) is all = let r = drop_head subs n a rest is in absurd (omega (arith, all, r.2))
from_callbacks subs n (suc k) (a ∷ rest) is all =
    let r = drop_head subs n a rest is in
    let e : suc n ≡ n + 1 = omega arith in
    let later = ap (λ m. filter_map (callback_of outcome subs) (completes_from m k)) e ∙ from_callbacks subs (n + 1) k rest r.1 (omega (arith, all)) in
    ap (λ o. Rattle.std.specs.List.cons_option (completion n o) (filter_map (callback_of outcome subs) (completes_from (suc n) k))) (meaning_get subs n a r.0)
    ∙ ap (λ cs. Done n (outcome a) ∷ cs) later

-- a pad on which all is done hands out what a plain drain tells
pub pad_callbacks : (subs : List Ask) (n k : ℕ) → n + k ≡ length subs → filter_map (callback_of outcome subs) (drop n (completes_from 0 (length subs))) ≡ drained None n (map asked_by (drop n subs))
pad_callbacks subs n k all =
    ap (λ m. filter_map (callback_of outcome subs) (drop n (completes_from 0 m))) (sym all)
    ∙ (ap (λ ns. filter_map (callback_of outcome subs) ns) (drop_completes n 0 k ∙ ap (λ m. completes_from m k) (zero-add n)) ∙ from_callbacks subs n k (drop n subs) refl all)
