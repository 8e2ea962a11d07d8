-- A request has the value of the same request with its text in one segment.
use Rattle.std.proofs.Common.{◌≡◌, ℕ, List, [], ◌∷◌, refl, ap, if◌then◌else◌, Option, Some}
use Rattle.std_defs.specs.Modes.{rfc3686_counter}
use Rattle.std_defs.specs.Rfc4106.{rfc4106_takes, rfc4106_iv, rfc4106_associated}
use Rattle.std_defs.specs.Value.{Value}
use Rattle.std_defs.specs.Value.Value.{invalid}
use Rattle.alg_names.specs.Name.{Tree, Args, node, end, arg}
use Rattle.templates.specs.Words.{template_named}
use Rattle.templates.specs.declared.template_words.Template.{Template}
use Rattle.templates.specs.declared.template_words.Template.TheVariants.{Cbc, Ctr, Rfc3686, Xts, GcmBase, Rfc4106, Ccm, Hmac, Cmac, Authenc, Pcrypt, Cryptd}
use Rattle.templates.specs.declared.driver_plans.Plan.{Plan}
use Rattle.transforms.specs.Asked.{TakesInput, takes, kind_takes}
use Rattle.transforms.specs.Cuts.{uncut}
use Rattle.transforms.specs.Plans.{PlanKind, front_key, last_four, kind_of, takes_input, iv_size}
use Rattle.transforms.specs.Plans.PlanKind.{skcipher, mac, aead}
use Rattle.transforms.specs.RequestValue.{Gives, gives_over, request_value, values_of}
use Rattle.transforms.specs.declared.request.Request.{Request}

-- it gives the same for the request in one segment
abbrev Joins : Gives → Type 0
Joins g = (key : List ℕ) (n : ℕ) (q : Request) → g key n q ≡ g key n (uncut q)

abbrev AllJoin : List Gives → Type 0
AllJoin [] = Unit {0}
AllJoin (g ∷ gs) = Joins g × AllJoin gs

over : (o : Option Template) (gs : List Gives) → AllJoin gs → Joins (gives_over o gs)
over (Some Pcrypt) (x ∷ []) h = h.0
over (Some Cryptd) (x ∷ []) h = h.0
over (Some Rfc3686) (x ∷ []) h = λ key n q. h.0 (front_key key) n (record q { iv = rfc3686_counter (last_four key) q.iv })
over (Some Rfc4106) (x ∷ []) h = λ key n q.
    ap (λ (v : Value). if rfc4106_takes q.aad then v else invalid)
    (h.0 (front_key key) n (record q { iv = rfc4106_iv (last_four key) q.iv; aad = rfc4106_associated q.aad }))
over (Some Cbc) (x ∷ []) h = λ key n q. refl
over (Some Ctr) (x ∷ []) h = λ key n q. refl
over (Some Xts) (x ∷ []) h = λ key n q. refl
over (Some Hmac) (x ∷ []) h = λ key n q. refl
over (Some Cmac) (x ∷ []) h = λ key n q. refl
over (Some GcmBase) (c ∷ g ∷ []) h = λ key n q. refl
over (Some Ccm) (x ∷ []) h = λ key n q. refl
over (Some Authenc) (m ∷ e ∷ []) h = λ key n q. refl
over _ _ h = λ key n q. refl

mutual
  unfolding request_value

  pub uncut_value : (driver : Tree) → Joins (request_value driver)
  uncut_value (node word args) = over (template_named word) (values_of args) (all_join args)

  all_join : (args : Args) → AllJoin (values_of args)
  all_join end = tt
  all_join (arg t ts) = (uncut_value t, all_join ts)

by_kind : (kind : PlanKind) (input : TakesInput) (size n : ℕ) (q : Request) → kind_takes kind input size n q ≡ kind_takes kind input size n (uncut q)
by_kind skcipher input size n q = refl
by_kind mac input size n q = refl
by_kind aead input size n q = refl

pub uncut_taken : (plan : Plan) (n : ℕ) (q : Request) → takes plan n q ≡ takes plan n (uncut q)
uncut_taken plan n q = by_kind (kind_of plan) (takes_input plan) (iv_size plan) n q
