use Rattle.std.proofs.Common.{arith, subst, sym}
use Rattle.std.specs.Io.KnownBytes.{Appends}
use Rattle.kc_base.specs.Streams.{AppendsFront}
use Rattle.script_session.proofs.Probed.{stopped}
use Rattle.client_run.proofs.Texts.{writing-more, writing-front}
use Rattle.client_run.proofs.run.write_texts.Goals as goal

pub loop-text-preserved : goal.loop-text-preserved
loop-text-preserved g c =
    let held = g.K.Sink.held in
    record {
      part =
          writing-more c.args.texts.now (held c.args.out.now) c.loop-text.text-index (held c.loop-text.out) c.loop-text.invariant.part c.text-item.result c.loop-text-test.true (sym c.text-item.is)
          (held c.write_piece.new.out) (subst (Appends (held c.loop-text.out) (held c.write_piece.new.out)) c.as_slice.ensures c.in_ok-write_piece.ensures.bytes);
      later = omega arith;
    }

pub returns-in_err-write_piece-clause-bytes : goal.returns-in_err-write_piece-clause-bytes
returns-in_err-write_piece-clause-bytes g c =
    let held = g.K.Sink.held in
    stopped c.from_residual.result _ c.from_residual.ensures.0
    (writing-front c.args.texts.now (held c.args.out.now) c.loop-text.text-index (held c.loop-text.out) c.loop-text.invariant.part c.text-item.result c.loop-text-test.true (sym c.text-item.is)
    (held c.write_piece.new.out) (subst (AppendsFront (held c.loop-text.out) (held c.write_piece.new.out)) c.as_slice.ensures c.in_err-write_piece.ensures.bytes))
