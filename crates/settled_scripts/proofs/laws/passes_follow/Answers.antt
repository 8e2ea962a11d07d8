use Rattle.settled_scripts.proofs.Printing.{passes_follow, posts_follow}
use Rattle.settled_scripts.proofs.laws.passes_follow.Goals as goal

pub returns-clause-passes : goal.returns-clause-passes
returns-clause-passes c = passes_follow

pub returns-clause-posts : goal.returns-clause-posts
returns-clause-posts c = posts_follow
