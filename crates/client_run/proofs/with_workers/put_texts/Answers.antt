use Rattle.std.proofs.Common.{◌≡◌, ◌++◌, Some, Ok, ap, ◌∙◌}
use Rattle.std.specs.Option.{option_to_list}
use Rattle.client_run.specs.WithWorkers.{printed_by}
use Rattle.client_run.proofs.Gathered.{gathered-more, on-ok}
use Rattle.client_run.proofs.with_workers.put_texts.Goals as goal

pub loop-out-preserved : goal.loop-out-preserved
loop-out-preserved c =
    let got : c.pop.result ≡ Some (Ok c.in-Ok.text) = c.in-Some.is ∙ ap (λ x. Some x) c.in-Ok.is in
    on-ok _ _ c.args.outs
    (λ v held. gathered-more v.items c.loop-out.left.items c.pop.new.self.items c.loop-out.client c.args.first.reply.text (printed_by c.loop-out.output) c.args.first.malformed c.loop-out.output.malformed c.in-Ok.text (printed_by c.put_client.new.self) c.put_client.new.self.malformed held
    (c.pop.ensures.items ∙ ap (λ o. c.pop.new.self.items ++ option_to_list o) got) c.in_ok-put_client.ensures.text c.in_ok-put_client.ensures.malformed)
    c.loop-out.invariant
