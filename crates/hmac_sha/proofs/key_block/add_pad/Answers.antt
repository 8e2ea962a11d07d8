use Rattle.std.proofs.Common.{◌≡◌, ◌<◌, ◌+◌, ◌++◌, ℕ, List, length, map, take, drop, set, get_or, arith, bit_xor}
use Rattle.std.proofs.lemmas.Grind.{common_steps}
use Rattle.std.proofs.lemmas.List.Edits.{map_over_more}
use Rattle.std_defs.specs.Hmac.{xor_pad}
use Rattle.hmac_sha.proofs.key_block.add_pad.Goals as goal

made-length : (f : ℕ → ℕ) (b orig : List ℕ) (i : ℕ) → i < length orig → b ≡ map f (take i orig) ++ drop i orig → length b ≡ length orig
made-length f b orig i within is = grind (arith, common_steps)

default_unread : (b : List ℕ) (i d e : ℕ) → i < length b → get_or b i d ≡ get_or b i e
default_unread b i d e within = grind (arith, common_steps)

more : (f : ℕ → ℕ) (b orig : List ℕ) (i : ℕ) → i < length orig → b ≡ map f (take i orig) ++ drop i orig
    → set b i (f (get_or b i 0)) ≡ map f (take (i + 1) orig) ++ drop (i + 1) orig
more f b orig i within is =
    map_over_more f orig b i (get_or b i 0) within is (default_unread b i 0 (get_or b i 0) (omega (arith, made-length f b orig i within is)))

pub loop-byte-preserved : goal.loop-byte-preserved
loop-byte-preserved c = more (λ b. bit_xor b c.args.pad) c.loop-byte.block c.args.block.now c.loop-byte.byte-index (omega arith) c.loop-byte.invariant

pub returns : goal.returns
unfolding xor_pad
returns c = grind (arith, common_steps)
