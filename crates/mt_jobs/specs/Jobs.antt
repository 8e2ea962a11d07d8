-- How a job is cut into chunks for several threads. The length of a chunk is that of the kernel's
-- padata_do_multithreaded; chunks are counted from the job's start. All quotients are rounded down.
use Rattle.std.specs.Prelude.{◌≡◌, ◌⊎◌, ◌<◌, ◌≤◌, ◌==◌, ℕ, ◌+◌, ◌-◌, ◌*◌, ◌/◌, ◌%◌, if◌then◌else◌, min, max}
use Rattle.std.specs.Int.{next_multiple_of}
use Rattle.std.specs.declared.ops.Range.{Range}
use Rattle.mt_jobs.specs.declared.job.MtJob.{MtJob}

-- the threads for which there is work enough
abbrev pub thread_count : MtJob → ℕ
thread_count job = min job.max_threads (max (job.size / max job.min_chunk job.align) 1)

-- the length of a chunk: the whole job for one thread, else a quarter of a thread's share, so that a thread which ends
-- early finds more to do
abbrev pub chunk_len : MtJob → ℕ
chunk_len job =
    if thread_count job == 1 then job.size
    else next_multiple_of (max (job.size / (thread_count job * 4)) (max job.min_chunk 1)) job.align

-- there is a chunk n, counted from 0
abbrev pub HasChunk : MtJob → ℕ → Type 0
HasChunk job n = n * chunk_len job < job.size

-- its places; the last chunk ends with the job
abbrev pub range_of : MtJob → ℕ → Range ℕ
range_of job n = record {
  start = job.start + n * chunk_len job;
  end = job.start + min ((n + 1) * chunk_len job) job.size;
}

-- place p is one of a range
abbrev pub IsIn : ℕ → Range ℕ → Type 0
IsIn p range = (range.start ≤ p) × (p < range.end)

-- the ranges of a job's chunks cut it: they are in order, none overlaps another, and together they are the job
pub record IsCut (job : MtJob) : Type 0 where
  pub in_order : (m n : ℕ) → m < n → HasChunk job n → (range_of job m).end ≤ (range_of job n).start
  pub covered : (p : ℕ) → job.start ≤ p → p < job.start + job.size → (n : ℕ) × HasChunk job n × IsIn p (range_of job n)
  pub within : (n p : ℕ) → HasChunk job n → IsIn p (range_of job n) → (job.start ≤ p) × (p < job.start + job.size)
  pub nonempty : (n : ℕ) → HasChunk job n → (range_of job n).start < (range_of job n).end
  pub aligned : (n : ℕ) → HasChunk job n → ((range_of job n).start - job.start) % job.align ≡ 0

-- pieces of this length begin at multiples of align, or there is one piece alone
abbrev pub CutsAt : ℕ → ℕ → ℕ → Type 0
CutsAt align chunk size = ((0 < chunk) × (chunk % align ≡ 0)) ⊎ (size ≤ chunk)
