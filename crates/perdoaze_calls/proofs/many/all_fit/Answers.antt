use Rattle.std.proofs.Common.{◌≡◌, ◌<◌, arith, inl, inr, length}
use Rattle.std.proofs.lemmas.Bool.{cases_lt}
use Rattle.perdoaze_calls.proofs.Encryptions.{fits_here}
use Rattle.perdoaze_calls.proofs.many.all_fit.Goals as goal

pub loop-i-preserved : goal.loop-i-preserved
loop-i-preserved c =
    let i = c.loop-i.i in
    let inside : i < length c.args.asked.now = c.loop-i-test.true in
    λ k below. elim (cases_lt k i) [
      | inl first ↦ c.loop-i.invariant k first
      | inr from ↦
          let is : k ≡ i = omega (arith, below, from) in
          rw is (fits_here c.args.asked.now i _ inside c.args.key c.args.tag_size c.args.buffers.now _ (omega (arith, inside, c.if-asked-buffers.false)) (c.fits.ensures c.if-not-fits.false))
    ]
