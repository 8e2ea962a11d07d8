use Rattle.std.proofs.Common.{arith, ap, length, ◌∙◌, ◌≡◌, ◌≤◌, suc}
use Rattle.padata_core.specs.Pad.{Pad}
use Rattle.padata_core.proofs.Step.{release_step}
use Rattle.cryptd.specs.Server.{Server}
use Rattle.board.proofs.stage.pass_back.Goals as goal

pub loop-number-preserved : goal.loop-number-preserved
loop-number-preserved g c =
    (let e = c.in-Some.ensures in
    let d = c.release.ensures in
    let i = c.loop-number.invariant in
    let room = i.0.room in
    let len = i.0.length in
    let j = c.requires.1 in
    let more : length c.loop-number.pad.outcomes ≡ suc (length c.collect_next.new.self.outcomes) = ap length e.1 in
    let some : 1 ≤ c.loop-number.server.passed = omega arith in
    let less = ap (λ (s : Server _ _). s.passed) d in (
      release_step c.loop-number.pad c.collect_next.new.self _ c.in-Some.number c.in-Some.out _ _ (record { list = c.loop-number.server.pending; spare = c.loop-number.server.passed }) (record { list = c.release.new.self.pending; spare = c.release.new.self.passed }) i.0 e.0 e.1 e.2 (ap (λ (s : Server _ _). s.pending) d) (omega arith),
      ap (λ (p : Pad _ _). p.lists) e.2 ∙ i.1,
      ap (λ (p : Pad _ _). p.waiting) e.2 ∙ i.2,
      ap (λ (p : Pad _ _). p.spare) e.2 ∙ i.3,
      ap (λ (s : Server _ _). s.queue) d ∙ i.4,
      ap (λ (s : Server _ _). s.held) d ∙ i.5,
      ap (λ (s : Server _ _). s.busy) d ∙ i.6,
      ap (λ (s : Server _ _). s.spare) d ∙ i.7,
    ))
