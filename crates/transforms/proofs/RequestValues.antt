-- The value of a request at each driver of a plan is that at the plan's own.
use Rattle.std.proofs.Common.{◌≡◌, refl, ap, sym, ◌∙◌, Option, Some}
use Rattle.std.specs.Arc.{arc_value}
use Rattle.alg_names.specs.Name.{Tree, Args, node, end, arg, word_of, args_of, list_of}
use Rattle.templates.specs.Words.{template_named}
use Rattle.templates.specs.declared.template_words.Template.{Template}
use Rattle.templates.specs.declared.template_words.Template.TheVariants as template
use Rattle.templates.specs.declared.driver_plans.Plan.{Plan}
use Rattle.templates.specs.Plans.{plan_at}
use Rattle.transforms.specs.AskValue.{ask_value}
use Rattle.transforms.specs.Drivers.{driver_of, unqueued, unwrapped_over, unwrapped}
use Rattle.transforms.specs.RequestValue.{Gives, gives_over, request_value, values_of}
use Rattle.transforms.specs.declared.ask.Ask.{Ask}
use Rattle.transforms.proofs.Drivers.{driver_is}

-- wrappers change no value
queued_value : (x : Tree) → request_value x ≡ request_value (unqueued x (template_named (word_of x)) (args_of x))
unfolding request_value
queued_value (node w ts) = by_shape (template_named w) ts refl
  where
    by_shape : (o : Option Template) (us : Args) → template_named w ≡ o → request_value (node w us) ≡ request_value (unqueued (node w us) o (list_of us))
    by_shape (Some template.Pcrypt) (arg y end) n = ap (λ o. gives_over o (values_of (arg y end))) n
    by_shape o us n = refl

unwrapped_value : (t : Tree) → request_value t ≡ request_value (unwrapped t)
unfolding request_value
unwrapped_value (node w ts) = by_shape (template_named w) ts refl
  where
    by_shape : (o : Option Template) (us : Args) → template_named w ≡ o → request_value (node w us) ≡ request_value (unwrapped_over (node w us) o (list_of us))
    by_shape (Some template.Pcrypt) (arg x end) n = ap (λ o. gives_over o (values_of (arg x end))) n
    by_shape (Some template.Cryptd) (arg x end) n = ap (λ o. gives_over o (values_of (arg x end))) n ∙ queued_value x
    by_shape o us n = refl

-- any driver of a plan gives what its own gives
pub planned_value : (t : Tree) (p : Plan) → plan_at t ≡ Some p → request_value t ≡ request_value (driver_of p)
planned_value t p e = unwrapped_value t ∙ ap request_value (driver_is t p e)

-- an ask at any driver of its transform's plan
pub asked_value : (a : Ask) (t : Tree) → plan_at t ≡ Some (arc_value a.keyed).0 → ask_value a ≡ request_value t (arc_value a.keyed).1 a.authsize a.request
asked_value a t e = ap (λ (g : Gives). g (arc_value a.keyed).1 a.authsize a.request) (sym (planned_value t (arc_value a.keyed).0 e))
