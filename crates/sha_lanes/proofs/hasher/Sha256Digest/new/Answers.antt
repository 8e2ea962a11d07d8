use Rattle.std.proofs.Common.{rules}
use Rattle.sha2.specs.Sha256.{hash_after}
use Rattle.sha_lanes.specs.Hashers.{HasAbsorbed}
use Rattle.sha_lanes.proofs.hasher.Sha256Digest.new.Goals as goal

pub returns : goal.returns
unfolding HasAbsorbed hash_after
returns c = search rules
