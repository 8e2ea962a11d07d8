use Rattle.std.proofs.Common.{sym, ◌∙◌, ap, arith}
use Rattle.script_text.specs.LineCutter.{all_seen}
use Rattle.script_text.proofs.KeptLemmas.{all_seen_short}
use Rattle.script_text.proofs.cutter.LineCutter.see_all.Goals as goal

pub returns : goal.returns
returns c =
    let inside = c.self.inside in
    all_seen_short inside.bytes.items inside.at inside.seen c.len-length.result inside.long c.self.invariant.0 (omega (arith, c.len-length.ensures, inside.bytes.ok.0))
    (sym c.is_too_long.ensures ∙ c.if-is_too_long.false) ∙ ap all_seen c.self.view_is
