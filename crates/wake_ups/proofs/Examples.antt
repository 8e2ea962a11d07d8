-- The two runs, step by step.
use Rattle.std.proofs.Common.{inl, inr, refl, arith}
use Rattle.wake_ups.specs.Wakeups.{Run, RunBy, start}
use Rattle.wake_ups.specs.Laws.{NobodyIsBetween}
use Rattle.wake_ups.specs.Examples.{SameNumber, losing_steps, lost, waking_steps, woken}

pub loses : RunBy SameNumber (start 2) losing_steps lost
loses = (tt, (omega arith, (omega arith, (omega arith, (omega arith, ((omega arith, omega arith, inr (omega arith)), ((omega arith, omega arith, inr (omega arith)), ((refl, omega arith), (omega arith, (omega arith, (omega arith, (omega arith, (omega arith, ((omega arith, omega arith, inr (omega arith)), (tt, (tt, (omega arith, ((refl, omega arith), (omega arith, (omega arith, (omega arith, (tt, (omega arith, (omega arith, (omega arith, (omega arith, (omega arith, (omega arith, (omega arith, (omega arith, refl))))))))))))))))))))))))))))))

pub lost_still : NobodyIsBetween lost
lost_still = record { putting = refl; comparing = refl; rousing = refl; notifying = refl; moving = refl; waking = refl; taking = refl; emptied = refl; awake = refl; tired = refl; drowsy = refl; sleepy = refl }

pub wakes : Run (start 1) waking_steps woken
wakes = ((omega arith, omega arith, inr (omega arith)), (tt, (omega arith, (omega arith, (omega arith, (omega arith, (omega arith, ((omega arith, omega arith, inr (omega arith)), (tt, (omega arith, (tt, (omega arith, (omega arith, (omega arith, (omega arith, (omega arith, (omega arith, (tt, (omega arith, (omega arith, (omega arith, (omega arith, ((omega arith, inl (omega arith)), refl)))))))))))))))))))))))

pub woken_still : NobodyIsBetween woken
woken_still = record { putting = refl; comparing = refl; rousing = refl; notifying = refl; moving = refl; waking = refl; taking = refl; emptied = refl; awake = refl; tired = refl; drowsy = refl; sleepy = refl }
