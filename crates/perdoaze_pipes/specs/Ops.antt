-- How a request goes on.
use Rattle.std.specs.Prelude.{◌≡◌, ◌≢◌, ◌⊎◌, ◌<◌, ◌≤◌, ◌==◌, if◌then◌else◌, ⊤, ℕ, ℤ, List, length, take, drop, Option, Some, None, Result, Ok, Err}
use Rattle.transforms.specs.declared.request.Dir.{Dir}
use Rattle.transforms.specs.declared.request.Dir.TheVariants.{Enc, Dec, Mac}
use Rattle.perdoaze_calls.specs.Requests.{EncryptsWithin, DecryptsWithin, Digests, GaveNothing, OnPlace}
use Rattle.perdoaze_calls.specs.Status.{code_of}
use Rattle.perdoaze_calls.specs.declared.status.Status.{Status}
use Rattle.perdoaze_calls.specs.declared.status.Status.TheVariants as status
use Rattle.perdoaze_calls.specs.declared.transform.Transform.{Transform}
use Rattle.perdoaze_pipes.specs.declared.op.Op.{Op}
use Rattle.perdoaze_pipes.specs.declared.pipe_error.PipeErr.{PipeErr}
use Rattle.perdoaze_pipes.specs.declared.pipe_error.PipeErr.TheVariants.{Invalid}

-- what it asks, and the words that are the caller's alone
abbrev pub asked_of : Op → List ℕ × List ℕ × ℕ × ℕ × ℕ × ℕ × List ℕ
asked_of o = (o.iv.now, o.aad.now, o.len, o.what, o.session, o.user, o.reserved)

-- what it came to
abbrev pub outcome_of : Op → List ℕ × ℕ × ℤ
outcome_of o = (o.text.now, o.written, o.status)

-- the number that it has in its pipe, and the worker that took it
abbrev pub owner_of : Op → ℕ × ℕ
owner_of o = (o.number, o.worker)

-- nothing of it is changed but its phase, number and worker
abbrev pub IsLeft : Op → Op → Type 0
IsLeft o p = (asked_of p ≡ asked_of o) × (outcome_of p ≡ outcome_of o)

-- it goes from one phase to another, or is in none such and stays
abbrev pub Moves : Op → Op → ℕ → ℕ → Result Unit PipeErr → Type 0
Moves o p from to (Ok u) = (o.phase ≡ from) × (p.phase ≡ to) × IsLeft o p
Moves o p from to (Err e) = (e ≡ Invalid) × (o.phase ≢ from) × (p.phase ≡ o.phase) × IsLeft o p

-- it has this number and this worker from then on
abbrev pub Begun : Op → Op → ℕ → ℕ → Result Unit PipeErr → Type 0
Begun o p number worker (Ok u) = owner_of p ≡ (number, worker)
Begun o p number worker (Err e) = owner_of p ≡ owner_of o

-- it was run under this number, and is idle then
abbrev pub Ends : Op → Op → ℕ → Result Unit PipeErr → Type 0
Ends o p number (Ok u) = (o.phase ≡ 3) × (o.number ≡ number) × (p.phase ≡ 0) × IsLeft o p
Ends o p number (Err e) = (e ≡ Invalid) × ((o.phase ≢ 3) ⊎ (o.number ≢ number)) × (p.phase ≡ o.phase) × IsLeft o p

-- 1: to encrypt, 2: to decrypt, 3: to make a MAC
abbrev pub direction : ℕ → Option Dir
direction n = if n == 1 then Some Enc else (if n == 2 then Some Dec else (if n == 3 then Some Mac else None))

-- the MAC of the first n bytes goes behind them
abbrev pub DigestsBehind : Transform → ℕ → Status → List ℕ → List ℕ → ℕ → Type 0
DigestsBehind t n s old new written =
    ((n ≤ length old) × (take n new ≡ take n old) × Digests t (take n old) s (drop n old) (drop n new) written)
    ⊎ ((length old < n) × (s ≡ status.NoRoom) × GaveNothing old new written)

-- what the request comes to under the transform
abbrev pub ComesTo : Option Dir → Transform → List ℕ → List ℕ → ℕ → Status → List ℕ → List ℕ → ℕ → Type 0
ComesTo (Some Enc) t iv aad n s old new written = EncryptsWithin t iv aad n s old new written
ComesTo (Some Dec) t iv aad n s old new written = DecryptsWithin t iv aad n s old new written
ComesTo (Some Mac) t iv aad n s old new written = DigestsBehind t n s old new written
ComesTo None t iv aad n s old new written = (s ≡ status.Invalid) × GaveNothing old new written

-- it is answered, and nothing else of it is changed
abbrev pub Answers : Option Transform → Op → Op → Type 0
Answers held o p =
    (asked_of p ≡ asked_of o) × (owner_of p ≡ owner_of o)
    × ((s : Status) × (p.status ≡ code_of s)
    × OnPlace held (λ t. ComesTo (direction o.what) t o.iv.now o.aad.now o.len) s o.text.now p.text.now p.written)

-- a request that a worker has is run, once; any other stays
abbrev pub Runs : Option Transform → Op → Op → Result Unit PipeErr → Type 0
Runs held o p (Ok u) = (o.phase ≡ 2) × (p.phase ≡ 3) × Answers held o p
Runs held o p (Err e) = (e ≡ Invalid) × (o.phase ≢ 2) × (p.phase ≡ o.phase) × (owner_of p ≡ owner_of o) × IsLeft o p

-- the same of one among several
abbrev pub RunsOrStays : Option Transform → Op → Op → Type 0
RunsOrStays held o p = (came : Result Unit PipeErr) × Runs held o p came
