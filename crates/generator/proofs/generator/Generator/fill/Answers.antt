use Rattle.std.proofs.Common.{◌≡◌, ◌*◌, ◌%◌, ◌/◌, rules, length, refl, ◌∙◌, ap, take, arith, w64}
use Rattle.std.specs.Int.{to_be_bytes}
use Rattle.rand_core.specs.Steps.{word_bytes}
use Rattle.rand_core.proofs.StepsLemmas.{word_written, filled_whole, filled_over}
use Rattle.generator.proofs.generator.Generator.fill.Goals as goal

pub loop-i-init : goal.loop-i-init
unfolding word_bytes
loop-i-init c = refl

pub loop-i-preserved : goal.loop-i-preserved
loop-i-preserved c =
    let wrote = c.copy_from_slice.ensures.after ∙ c.to_be_bytes.ensures in
    let len : length c.copy_from_slice.new.self ≡ 8 = rw wrote refl in
    word_written (to_be_bytes w64) _ c.loop-i.i (8 * c.loop-i.i) _ _ _ _ _ c.loop-i.bytes c.copy_from_slice.new.self _
    c.loop-i.invariant c.next_u64-word.ensures wrote (omega arith) (omega arith)

pub returns-then-over-gt0 : goal.returns-then-over-gt0
returns-then-over-gt0 c =
    let done : c.loop-i.i ≡ length c.args.bytes.now / 8 = omega arith in
    let copy = c.copy_from_slice-then-over-gt0 in
    let over = length c.loop-i.bytes % 8 in
    filled_over (to_be_bytes w64) _ _ _ _ _ over _ _ _ _ c.loop-i.bytes copy.new.self _
    (rw done at c.loop-i.invariant) c.next_u64.ensures (copy.ensures.after ∙ ap (take over) c.to_be_bytes-last.ensures)
    (omega arith) (search rules) (omega arith) (omega arith)

pub returns-else-over-gt0 : goal.returns-else-over-gt0
returns-else-over-gt0 c =
    filled_whole (to_be_bytes w64) _ c.loop-i.i _ (8 * c.loop-i.i) _ _ _ c.loop-i.bytes c.loop-i.invariant
    (omega arith) (omega arith) (omega arith)
