use Rattle.std.proofs.Common.{◌≡◌, ◌∙◌, ◌-◌, ◌*◌, ◌%◌, ◌^◌, ◌∷◌, ℕ, ap, arith, length, replicate}
use Rattle.std.specs.Int.{w64, to_be_bytes}
use Rattle.sha_lanes.specs.Hashers.{HasAbsorbed}
use Rattle.sha_lanes.proofs.Messages.{padded, zeros}
use Rattle.sha_lanes.proofs.hasher.Sha256.finish.Goals as goal

pub returns : goal.returns
unfolding HasAbsorbed
returns c = λ m held.
    let used : c.args.self.length % 64 ≡ length m % 64 = omega (arith, held.0) in
    let bits : c.args.self.length * 8 % 2 ^ 64 ≡ length m * 8 % 2 ^ 64 = omega (arith, held.0) in
    let zeros_of_padding = zeros ((119 - c.args.self.length % 64) % 64) (omega arith) ∙ ap (λ (n : ℕ). 0x80 ∷ replicate ((119 - n) % 64) 0) used in
    let length_of_padding = c.to_be_bytes.ensures ∙ ap (to_be_bytes w64) bits in
    c.digest_of.ensures ∙ padded c.take-2.new.self m _ _ (c.take-2.ensures _ (c.take.ensures m held)) zeros_of_padding length_of_padding
