use Rattle.std.proofs.Common.{ap₂, List, ℕ, ◌++◌, length}
use Rattle.std.proofs.lemmas.List.{drop-replicate}
use Rattle.poly1305.proofs.parts.filled.Goals as goal

pub returns : goal.returns
returns c = ap₂ (λ (a b : List ℕ). a ++ b) c.copy_from_slice.ensures.after (drop-replicate (length c.args.bytes.now) 64 0)
