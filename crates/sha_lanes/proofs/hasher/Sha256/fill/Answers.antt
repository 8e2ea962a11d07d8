use Rattle.std.proofs.Common.{◌≡◌, ◌-◌, ◌++◌, List, ℕ, [], arith, drop, refl, take}
use Rattle.std.proofs.lemmas.List.{append-nil, drop_all, length-drop}
use borrow.Rule.Slice.PartMut.{post_of}
use Rattle.sha2.specs.Sha256.{initial_hash_256}
use Rattle.sha_lanes.proofs.Messages.{filled}
use Rattle.sha_lanes.proofs.hasher.Sha256.fill.Goals as goal

pub returns-clause-absorbed : goal.returns-clause-absorbed
returns-clause-absorbed c = λ m at held.
    let b : List ℕ = c.args.self.now.buffer in
    let used = c.args.used in
    let rest : post_of used (64 - used) b ≡ [] = drop_all (64 - used) (drop used b) (omega (arith, length-drop used b)) in
    let block : take used b ++ (c.copy_from_slice.new.self ++ post_of used (64 - used) b) ≡ take used b ++ c.args.bytes.now =
    rw (rest, append-nil, c.copy_from_slice.ensures.after) refl in
    filled initial_hash_256 m c.args.bytes.now b _ used held at c.requires block c.compressed-self.ensures
