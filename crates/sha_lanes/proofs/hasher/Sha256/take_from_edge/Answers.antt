use Rattle.std.proofs.Common.{◌≡◌, ◌∙◌, ◌-◌, ◌*◌, ◌/◌, ◌%◌, List, ℕ, ap, arith, drop, length}
use Rattle.std.proofs.lemmas.List.{length-drop, take_all, take_at}
use Rattle.sha2.specs.Sha256.{initial_hash_256}
use Rattle.sha_lanes.proofs.Messages.{from_edge}
use Rattle.sha_lanes.proofs.hasher.Sha256.take_from_edge.Goals as goal

pub returns-clause-absorbed : goal.returns-clause-absorbed
returns-clause-absorbed c = λ m edge held.
    let d : List ℕ = c.args.bytes.now in
    let a : ℕ = length d / 64 * 64 in
    let tail : c.copy_from_slice.new.self ≡ drop a d = c.copy_from_slice.ensures.after ∙ take_all (length d - a) (drop a d) (omega (arith, length-drop a d)) in
    let long : length c.copy_from_slice.new.self ≡ length d % 64 = ap length tail ∙ omega (arith, length-drop a d) in
    from_edge initial_hash_256 m d c.args.self.now.buffer _ held edge c.take_blocks.ensures (take_at c.copy_from_slice.new.self _ (length d % 64) long ∙ tail)
