-- the chunks of a job
use Rattle.std.specs.Prelude.{◌≡◌, ◌<◌, ◌≤◌, ◌==◌, ℕ, zero, suc, ◌+◌, ◌-◌, ◌*◌, ◌/◌, ◌%◌, Bool, true, false, if◌then◌else◌, max}
use Rattle.std.specs.Int.{next_multiple_of}
use Rattle.std.proofs.Common.{sym, ◌∙◌, ap, arith, inl, inr, ⊎_elim}
use Rattle.std.proofs.Math.Nat.{mod_self, zero-mod, mod-eq_of_lt}
use Rattle.std.proofs.lemmas.Bool.{cases_lt}
use Rattle.std.proofs.lemmas.Nat.{div-add-mod', mod_below, mod-mul-add, mul-mod_second, mul-le}
use Rattle.mt_jobs.specs.declared.job.MtJob.{MtJob}
use Rattle.mt_jobs.specs.Jobs.{chunk_len, thread_count, IsCut, CutsAt}

-- ---- multiples

-- a product with a multiple
product-mod : (n x y : ℕ) → 0 < y → x % y ≡ 0 → (n * x) % y ≡ 0
product-mod n x y some at =
    let none : n * 0 ≡ 0 = omega arith in
    sym (mul-mod_second n x y) ∙ ap (λ (k : ℕ). (n * k) % y) at ∙ ap (λ (k : ℕ). k % y) none ∙ zero-mod y

multiple : (x y : ℕ) → 0 < y → next_multiple_of x y % y ≡ 0
multiple x y some = ⊎_elim
    (λ (h : x % y < 1).
    let none : x % y ≡ 0 = omega arith in
    let all : y - x % y ≡ y = omega arith in
    let rest : (y - x % y) % y ≡ 0 = ap (λ (k : ℕ). k % y) all ∙ mod_self y in
    let is : x ≡ next_multiple_of x y = omega (arith, rest) in
    sym (ap (λ (k : ℕ). k % y) is) ∙ none)
    (λ (h : 1 ≤ x % y).
    let whole = div-add-mod' x y in
    let below = mod_below x y some in
    let rest : (y - x % y) % y ≡ y - x % y = mod-eq_of_lt (omega arith) in
    let row : (x / y + 1) * y ≡ x / y * y + y = omega arith in
    let is : (x / y + 1) * y + 0 ≡ next_multiple_of x y = omega (arith, rest, row) in
    sym (ap (λ (k : ℕ). k % y) is) ∙ mod-mul-add (x / y + 1) y 0 some)
    (cases_lt (x % y) 1)

not_below : (x y : ℕ) → x ≤ next_multiple_of x y
not_below x y = omega arith

-- ---- the length of a chunk

either : (P : ℕ → Type 0) (b : Bool) (x y : ℕ) → P x → P y → P (if b then x else y)
either P true x y p q = p
either P false x y p q = q

pub cuts_at : (job : MtJob) → CutsAt job.align (chunk_len job) job.size
cuts_at job =
    either (λ n. CutsAt job.align n job.size) (thread_count job == 1) _ _
    (inr (omega arith))
    (inl (omega (arith, not_below (max (job.size / (thread_count job * 4)) (max job.min_chunk 1)) job.align), multiple _ job.align job.aligned.0))

-- ---- the ranges

-- a job's chunks aren't empty, and begin at multiples of align
some : (align chunk size n : ℕ) → CutsAt align chunk size → n * chunk < size → 0 < chunk
some align chunk size n (inl cuts) inside = cuts.0
some align chunk size n (inr one) inside = omega arith

begins : (align chunk size n : ℕ) → 0 < align → CutsAt align chunk size → n * chunk < size → (n * chunk) % align ≡ 0
begins align chunk size n unit (inl cuts) inside = product-mod n chunk align unit cuts.1
begins align chunk size zero unit (inr one) inside =
    let none : 0 * chunk ≡ 0 = omega arith in ap (λ (k : ℕ). k % align) none ∙ zero-mod align
begins align chunk size (suc n) unit (inr one) inside = let row : suc n * chunk ≡ n * chunk + chunk = omega arith in absurd (omega arith)

next : (n chunk : ℕ) → (n + 1) * chunk ≡ n * chunk + chunk
next n chunk = omega arith

pub is_cut : (job : MtJob) → IsCut job
is_cut job =
    let cuts = cuts_at job in
    record {
      in_order = λ m n before has. let row = mul-le (m + 1) (chunk_len job) n (chunk_len job) (omega arith) (omega arith) in omega arith;
      covered = λ p from to.
          let chunk = chunk_len job in
          let n = (p - job.start) / chunk in
          let at = div-add-mod' (p - job.start) chunk in
          let inside : n * chunk < job.size = omega arith in
          let below = mod_below (p - job.start) chunk (some job.align chunk job.size n cuts inside) in
          (n, inside, (omega arith, omega (arith, next n chunk)));
      within = λ n p has is. (omega (arith, is.0), omega (arith, is.1));
      nonempty = λ n has. let s = some job.align (chunk_len job) job.size n cuts has in omega (arith, next n (chunk_len job));
      aligned = λ n has.
          let place : job.start + n * chunk_len job - job.start ≡ n * chunk_len job = omega arith in
          ap (λ (k : ℕ). k % job.align) place ∙ begins job.align (chunk_len job) job.size n job.aligned.0 cuts has;
    }
