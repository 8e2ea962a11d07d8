-- The search for a pipeline that a caller serves next.
use Rattle.std.proofs.Common.{length, ap, arith, inl, inr}
use Rattle.board.specs.declared.stage.Stage.{Stage}
use Rattle.board.specs.declared.stage.Stage.TheVariants as stage
use Rattle.board.specs.Stages.{MayServe, IsQuiet}

-- a stage that may serve isn't quiet
pub not_quiet : {J O : Type 0} (s : Stage J O) → MayServe s → IsQuiet s → ⊥
not_quiet (stage.Pad pad) m z = (let w = ap length z in omega arith)
not_quiet (stage.Queue queue) m (inl held) = (let h = m.0 in cc)
not_quiet (stage.Queue queue) m (inr (inl busy)) = (let h = m.1 in cc)
not_quiet (stage.Queue queue) m (inr (inr none)) = (let w = ap length none in let l = m.2 in omega arith)
not_quiet (stage.Chain c) m z = (let w = ap length z in omega arith)
