use Rattle.std.proofs.Common.{[], subst, ◌∙◌, append-nil}
use Rattle.std.specs.Io.KnownBytes.{Appends}
use Rattle.kc_base.specs.Streams.{AppendsFront}
use Rattle.load_mode.specs.Requests.{load_line}
use Rattle.script_run.proofs.Loaded.{line-text}
use Rattle.script_run.proofs.load.write_line.Goals as goal

pub returns-in_err-write_and_flush-clause-front : goal.returns-in_err-write_and_flush-clause-front
returns-in_err-write_and_flush-clause-front g c =
    let held = g.K.Sink.held in
    let o = c.args.options.now in
    subst (AppendsFront (held c.args.out.now) (held c.write_and_flush.new.out)) (c.as_slice.ensures ∙ line-text o.seed o.count c.args.digest c.in_ok-text.text c.requires c.in_ok-text.ensures) c.in_err-write_and_flush.ensures.bytes

pub returns-clause-line : goal.returns-clause-line
returns-clause-line g c =
    let held = g.K.Sink.held in
    let o = c.args.options.now in
    subst (Appends (held c.args.out.now) (held c.write_and_flush.new.out)) (c.as_slice.ensures ∙ line-text o.seed o.count c.args.digest c.in_ok-text.text c.requires c.in_ok-text.ensures) c.in_ok-write_and_flush.ensures.bytes

pub returns-clause-front : goal.returns-clause-front
returns-clause-front g c =
    let held = g.K.Sink.held in
    let o = c.args.options.now in (
      load_line o.seed o.count,
      ([], append-nil (load_line o.seed o.count)),
      subst (Appends (held c.args.out.now) (held c.write_and_flush.new.out)) (c.as_slice.ensures ∙ line-text o.seed o.count c.args.digest c.in_ok-text.text c.requires c.in_ok-text.ensures) c.in_ok-write_and_flush.ensures.bytes,
    )
