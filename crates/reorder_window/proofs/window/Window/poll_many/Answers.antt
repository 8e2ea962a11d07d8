use Rattle.std.proofs.Common.{◌≡◌, ◌<◌, ◌∷◌, ◌∙◌, sym, ap, length, length-set, take, drop, arith, refl, true, subst}
use Rattle.std.specs.List.{All}
use Rattle.std.proofs.lemmas.List.Elements.{All-push}
use Rattle.reorder_window.specs.Windows.{WindowOf, run_by}
use Rattle.reorder_window.specs.declared.running.Running.{Running}
use Rattle.reorder_window.proofs.Batching.{drop_head, rest_more, poll_requests, poll_each_came, poll_stands}
use Rattle.reorder_window.proofs.window.Window.poll_many.Goals as goal

pub loop-i-preserved : goal.loop-i-preserved
loop-i-preserved g c =
    let f = c.args.self.now in
    let out = c.loop-i.out in
    let i = c.loop-i.i in
    let held = c.loop-i.invariant in
    let came = c.in-Some.ensures.came in
    let y = run_by _ came.1.0.0 true in
    let l : i < length out = omega arith in
    let e : drop i f.running ≡ y ∷ c.poll.new.self.running = sym (ap (λ (x : WindowOf g.row.R.Denot). x.running) held.came) ∙ came.1.0.1 in
    let head = drop_head f.running c.poll.new.self.running i y e in
    let within = head.0 in
    record {
      size = length-set out i _ ∙ held.size;
      rest = rest_more out c.args.out.now i _ held.rest;
      within = omega arith;
      polled = poll_requests f.running c.poll.new.self.running out i came.1.0.0 _ l e held.polled;
      done = subst (All (λ (x : Running g.row.R.Denot). x.is_done ≡ true)) (sym head.1) (All-push (λ x. x.is_done ≡ true) (take i f.running) y held.done refl);
      came = poll_each_came f c.loop-i.self _ i held.came came.1.1 head.2;
      stands = poll_stands f c.loop-i.self _ out i _ _ l (ap (λ (x : WindowOf g.row.R.Denot). x.polled) held.came) came.0 held.stands c.in-Some.ensures.stands;
    }
