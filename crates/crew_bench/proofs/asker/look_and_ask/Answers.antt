use Rattle.std.proofs.Common.{refl, sym, subst, ap, ◌∙◌, Ok, false}
use Rattle.std.specs.Prelude.{IsFalse}
use Rattle.alg_registry.specs.Legal.{is_worker}
use Rattle.turn_lock.specs.Passes.{knows}
use Rattle.crew_bench.proofs.Asked.{cbc_aes, asks_cbc, has_begun}
use Rattle.crew_bench.proofs.asker.look_and_ask.Goals as goal

pub look-pass-requires-clause-may : goal.look-pass-requires-clause-may
look-pass-requires-clause-may g c =
    (asks_cbc, subst (λ n. IsFalse (is_worker n)) (sym c.requires.caller) refl)

pub ask_until-requires-clause-began : goal.ask_until-requires-clause-began
ask_until-requires-clause-began g c =
    has_begun c.names_exist.ensures.looks (knows c.args.pass) (knows c.look-pass.result.0) cbc_aes false c.look-pass.result.1 c.in-Began.larval (c.in-Ok.is ∙ ap Ok c.in-Began.is) c.look-pass.ensures.turn
