use Rattle.mt_jobs.proofs.Cut.{is_cut}
use Rattle.mt_jobs.proofs.laws.chunks_cut_the_job.Goals as goal

pub returns : goal.returns
returns c = is_cut
