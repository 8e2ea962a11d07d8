use Rattle.std.proofs.Common.{◌≡◌, ◌-◌, ◌∙◌, ap, sym, subst, length, take, drop, arith}
use Rattle.std.specs.Prelude.{Contains, MatchBool}
use Rattle.std.proofs.lemmas.Slice.{between_to_end}
use Rattle.script_text.specs.LineCutter.{CutterState}
use Rattle.script_text.proofs.PendingLemmas.{pending_feed}
use Rattle.script_text.proofs.cutter.LineCutter.has_line.Goals as goal

pub returns : goal.returns
returns c bytes is =
    let all = c.deref.result.now in
    let seen = c.self.inside.seen in
    let rest = take (length all - seen) (drop seen all) in
    let same : rest ≡ c.args.self.now.unseen = between_to_end all seen (length all) (omega arith) ∙ (ap (drop seen) c.deref.ensures.value ∙ ap (λ (k : CutterState). k.unseen) c.self.view_is) in
    subst (λ b. MatchBool b (Contains bytes 10) (Contains bytes 10 → ⊥)) (sym c.is_some.ensures) (pending_feed rest c.feed_place.result c.feed_place.ensures bytes c.args.self.now (sym same) is)
