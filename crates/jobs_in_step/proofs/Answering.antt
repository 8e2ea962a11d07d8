-- A lane: what its job becomes when it is taken apart, what sealing asks of it, and the answer.
use Rattle.std.proofs.Common.{◌≡◌, ◌+◌, ◌-◌, ◌%◌, ◌^◌, ◌<◌, ◌≤◌, ◌++◌, ℕ, List, Option, Some, None, MatchOption, refl, sym, ap, ap₂, subst, ◌∙◌, arith, length, take, replicate, length-append}
use Rattle.std.proofs.Math.Seq.{take-append_seam}
use Rattle.std.proofs.lemmas.List.{take_all, length-replicate}
use Rattle.std.specs.Bool.{⊤}
use Rattle.std.specs.Arc.{arc_value}
use Rattle.std.specs.Global.{Global}
use Rattle.std.specs.Option.{option_map}
use Rattle.std.specs.declared.sync.Arc.{Arc}
use Rattle.std_defs.specs.Aes.{seal}
use Rattle.std_defs.specs.Authenc.{authenc_seal}
use Rattle.std_defs.specs.Modes.{cbc_seal}
use Rattle.std_defs.specs.Value.{Value, or_invalid}
use Rattle.std_defs.specs.Value.Value.{bytes}
use Rattle.templates.specs.declared.driver_plans.Plan.{Plan}
use Rattle.transforms.specs.Asked.{room_of}
use Rattle.transforms.specs.Drivers.{driver_of}
use Rattle.transforms.specs.Forms.{key_of}
use Rattle.transforms.specs.RequestValue.{request_value}
use Rattle.transforms.specs.Tagged.{tagged}
use Rattle.transforms.specs.declared.any_aes.AnyAes.{AnyAes}
use Rattle.transforms.specs.declared.ask.Ask.{Ask}
use Rattle.transforms.specs.declared.job.Job.{Job}
use Rattle.transforms.specs.declared.request.Dir.TheVariants.{Enc}
use Rattle.transforms.specs.declared.request.Request.{Request}
use Rattle.jobs_in_step.specs.Lanes.{Asked, IsAnswer, IsPart, IsReady, aad_in, job_value, text_length}
use Rattle.jobs_in_step.specs.Steps.{Fits, authenc_gives, cbc_gives, plain_room, tagged_room}

-- ---- what sealing asks for

pub whole : (asked : Asked) (text : List ℕ) (len : ℕ) → IsReady plain_room asked text → len ≡ text_length asked → (len % 16 ≡ 0) × (len ≤ length text)
whole None text len r is = (omega (arith, is), omega (arith, is))
whole (Some a) text len r is = (omega (arith, is, r.0.blocks), omega (arith, is, ap length r.1))

pub packet : (asked : Asked) (text aad : List ℕ) (len : ℕ) → IsReady tagged_room asked text → len ≡ text_length asked → aad ≡ aad_in asked
    → (len % 16 ≡ 0) × (len ≤ length text) × (length aad + len < 2 ^ 63)
packet None text aad len r is these = (omega (arith, is), omega (arith, is), omega (arith, is, ap length these))
packet (Some a) text aad len r is these =
    let q = (arc_value a).request in
    let long = length-append q.text.text (replicate (arc_value a).authsize 0) in
    (omega (arith, is, r.0.blocks), omega (arith, is, ap length r.1, long), omega (arith, is, ap length these, r.2))

-- ---- what was sealed

pub answered : (aes : AnyAes) (asked : Asked) (old new iv : List ℕ) (len : ℕ) → IsReady plain_room asked old → len ≡ text_length asked
    → ((a : Arc Ask Global) → asked ≡ Some a → length (arc_value a).request.iv ≡ 16 → iv ≡ (arc_value a).request.iv)
    → cbc_seal (seal (key_of aes)) iv (take len old) ≡ Some (take len new) → length new ≡ length old → IsAnswer (cbc_gives aes) asked new
answered aes None old new iv len r is ivs made long = tt
answered aes (Some a) old new iv len r is ivs made long =
    let text_is : take len old ≡ (arc_value a).request.text.text = take_all len old (omega (arith, is, ap length r.1)) ∙ r.1 in
    let all : take len new ≡ new = take_all len new (omega (arith, is, long, ap length r.1)) in
    sym (ap or_invalid (ap₂ (cbc_seal (seal (key_of aes))) (sym (ivs a refl r.0.iv)) (sym text_is) ∙ made ∙ ap (λ (t : List ℕ). Some t) all))

pub answered_tagged : (block : List ℕ) (aes : AnyAes) (asked : Asked) (old mid new iv aad tag : List ℕ) (len : ℕ) → IsReady tagged_room asked old → len ≡ text_length asked
    → ((a : Arc Ask Global) → asked ≡ Some a → length (arc_value a).request.iv ≡ 16 → iv ≡ (arc_value a).request.iv) → aad ≡ aad_in asked
    → authenc_seal block (cbc_seal (seal (key_of aes)) iv) aad (take len old) ≡ Some (take len mid, tag) → length mid ≡ length old
    → (length mid ≤ len + 32 → new ≡ take len mid ++ take (length mid - len) tag) → IsAnswer (authenc_gives block aes) asked new
answered_tagged block aes None old mid new iv aad tag len r is ivs these made long put = tt
answered_tagged block aes (Some a) old mid new iv aad tag len r is ivs these made long put =
    let s : List ℕ → List ℕ = seal (key_of aes) in
    let n : ℕ = (arc_value a).authsize in
    let text : List ℕ = (arc_value a).request.text.text in
    let room : length old ≡ len + n = omega (arith, is, ap length r.1, length-append text (replicate n 0), length-replicate {A = ℕ} n 0) in
    let text_is : take len old ≡ text = ap (take len) r.1 ∙ ap (λ (k : ℕ). take k (text ++ replicate n 0)) is ∙ take-append_seam text (replicate n 0) in
    let behind : length mid - len ≡ n = omega (arith, long, room) in
    let new_is : new ≡ take len mid ++ take n tag = put (omega (arith, long, room, r.0.tag)) ∙ ap (λ (k : ℕ). take len mid ++ take k tag) behind in
    ap bytes new_is
    ∙ sym (ap (λ (o : Option (List ℕ × List ℕ)). or_invalid (option_map (tagged n) o))
    (ap (λ (v : List ℕ). authenc_seal block (cbc_seal s v) (arc_value a).request.aad text) (sym (ivs a refl r.0.iv))
    ∙ ap₂ (λ (d t : List ℕ). authenc_seal block (cbc_seal s iv) d t) (sym these) (sym text_is) ∙ made))

-- ---- a job, taken apart and answered

module _ (keyed : Plan × List ℕ) where
  pub ready : (room : ℕ → Request → List ℕ) (job : Option Job) (asked : Asked) (text : List ℕ)
      → ((n : ℕ) (q : Request) → q.dir ≡ Enc → room n q ≡ room_of keyed.0 n q)
      → MatchOption job ⊤ (λ j. (arc_value (arc_value j.ask).keyed ≡ keyed) × Fits (arc_value j.ask)) → IsPart job asked text → IsReady room asked text
  ready room None asked text rooms fit part = subst (λ (x : Asked). IsReady room x text) (sym part.0) part.1
  ready room (Some j) asked text rooms fit part =
      let a : Ask = arc_value j.ask in
      let room_is : text ≡ room a.authsize a.request =
      part.1 ∙ ap (λ (k : Plan × List ℕ). room_of k.0 a.authsize a.request) fit.0 ∙ sym (rooms a.authsize a.request fit.1.dir) in
      subst (λ (x : Asked). IsReady room x text) (sym part.0) (fit.1, room_is, part.2)

  pub as_answer : (value : ℕ → Request → Value) (job : Option Job) (asked : Asked) (before text : List ℕ)
      → ((n : ℕ) (q : Request) → q.dir ≡ Enc → value n q ≡ request_value (driver_of keyed.0) keyed.1 n q)
      → MatchOption job ⊤ (λ j. (arc_value (arc_value j.ask).keyed ≡ keyed) × Fits (arc_value j.ask)) → IsPart job asked before → IsAnswer value asked text
      → option_map (λ a. bytes text) asked ≡ option_map job_value job
  as_answer value None asked before text values fit part answer = ap (option_map (λ a. bytes text)) part.0
  as_answer value (Some j) asked before text values fit part answer =
      let a : Ask = arc_value j.ask in
      let same : bytes text ≡ value a.authsize a.request = subst (λ (x : Asked). IsAnswer value x text) part.0 answer in
      ap (option_map (λ a. bytes text)) part.0
      ∙ ap (λ (v : Value). Some v) (same ∙ values a.authsize a.request fit.1.dir ∙ ap (λ (k : Plan × List ℕ). request_value (driver_of k.0) k.1 a.authsize a.request) (sym fit.0))
