use Rattle.std.proofs.Common.{◌≡◌, ◌∙◌, ◌+◌, ◌-◌, ◌%◌, ◌++◌, List, ℕ, ap, arith, length, length-append, refl, take}
use Rattle.std.proofs.lemmas.List.{append_assoc, length-take-le, take-append-drop}
use Rattle.std.proofs.lemmas.Slice.{take-put_mid}
use Rattle.sha2.specs.Sha256.{initial_hash_256}
use Rattle.sha_lanes.specs.Hashers.{HasAbsorbed}
use Rattle.sha_lanes.proofs.Messages.{short}
use Rattle.sha_lanes.proofs.hasher.Sha256.take.Goals as goal

pub returns-then-used-eq0 : goal.returns-then-used-eq0
unfolding HasAbsorbed
returns-then-used-eq0 c = λ m held. (
  omega (arith, c.take_from_edge.ensures.length, held.0, length-append m c.args.bytes.now),
  c.take_from_edge.ensures.absorbed m (omega (arith, held.0)) held.1,
)

pub returns-then-bytes-used : goal.returns-then-bytes-used
unfolding HasAbsorbed
returns-then-bytes-used c = λ m held.
    let d : List ℕ = c.args.bytes.now in
    let used : ℕ = c.args.self.now.length % 64 in
    let at : length m % 64 ≡ used = omega (arith, held.0) in (
      omega (arith, held.0, length-append m d),
      short initial_hash_256 m d c.args.self.now.buffer _ used held.1 at (omega arith)
          (take-put_mid used (used + length d - used) c.args.self.now.buffer c.copy_from_slice.new.self (used + length d) (omega (arith, ap length c.copy_from_slice.ensures.after)) (omega arith)
          ∙ ap (λ (x : List ℕ). take used c.args.self.now.buffer ++ x) c.copy_from_slice.ensures.after),
    )

pub returns-else-bytes-used : goal.returns-else-bytes-used
unfolding HasAbsorbed
returns-else-bytes-used c = λ m held.
    let d : List ℕ = c.args.bytes.now in
    let used : ℕ = c.args.self.now.length % 64 in
    let at : length m % 64 ≡ used = omega (arith, held.0) in
    let front = c.split_at.result.0.now in
    let is_front : front ≡ take (64 - used) d = c.split_at.ensures.front in
    let long : length front ≡ 64 - used = ap length is_front ∙ length-take-le (64 - used) d (omega arith) in
    let filled = c.fill.ensures.absorbed m at held.1 in
    let edge : length (m ++ front) % 64 ≡ 0 = omega (arith, length-append m front) in
    let done = c.take_from_edge-else-bytes-used.ensures.absorbed (m ++ front) edge filled in
    let whole : (m ++ front) ++ c.split_at.result.1.now ≡ m ++ d =
    append_assoc m front c.split_at.result.1.now ∙ rw (is_front, c.split_at.ensures.back, take-append-drop (64 - used) d) refl in (
      omega (arith, c.take_from_edge-else-bytes-used.ensures.length, c.fill.ensures.length, held.0, length-append m d),
      rw whole at done,
    )
