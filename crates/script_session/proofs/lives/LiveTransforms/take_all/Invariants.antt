use Rattle.std.proofs.Common.{◌≡◌, ◌+◌, ◌≤◌, ◌++◌, []}
use Rattle.std.specs.BTreeMap.{btree_map_len}
use Rattle.std.specs.Vec.{vec_capacity, vec_len}
use Rattle.script_session.specs.Filed.{lives_of}
use Rattle.script_session.proofs.lives.LiveTransforms.take_all.Given as goal

-- those that were taken out, and those that stand, and room for these
abbrev pub invariant-loop-live : goal.invariant-loop-live
invariant-loop-live l = (l.all.items ++ lives_of l.self ≡ lives_of l.fn.self) × (vec_len l.all + btree_map_len l.self.transforms ≤ vec_capacity l.all) × (l.self.labels.entries ≡ [])

abbrev pub decreases-loop-live : goal.decreases-loop-live
decreases-loop-live l = btree_map_len l.self.transforms
