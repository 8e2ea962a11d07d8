-- A text that is sealed from its place into another.
use Rattle.std.proofs.Common.{◌≡◌, ℕ, suc, ◌+◌, ◌/◌, ◌%◌, ◌≤◌, List, ◌++◌, length, take, drop, Some, refl, sym, ap, ◌∙◌, arith, length-append, length-drop, length-take}
use Rattle.std.proofs.lemmas.List.{drop-drop}
use Rattle.std_defs.specs.Aes.{seal}
use Rattle.std_defs.specs.Authenc.{authenc_seal}
use Rattle.std_defs.specs.Blocks.{joined}
use Rattle.std_defs.specs.Hmac.{hmac_under}
use Rattle.std_defs.specs.Modes.{cbc_block, cbc_seal}
use Rattle.std_defs.specs.Value.Value.{bytes}
use Rattle.jobs_in_step.specs.Steps.{authenc_gives}
use Rattle.templates.specs.declared.driver_plans.Plan.{Plan}
use Rattle.transforms.specs.Forms.{key_of}
use Rattle.transforms.specs.InPlace as kept
use Rattle.transforms.specs.InPlace.{sealing}
use Rattle.transforms.specs.declared.any_aes.AnyAes.{AnyAes}
use Rattle.transforms.specs.declared.request.Request.{Request}
use Rattle.perdoaze_calls.proofs.Answering.{IsKey, has_value, front_is, rest_is}
use Rattle.perdoaze_calls.specs.Requests.{Gave}
use Rattle.perdoaze_calls.specs.declared.transform.Transform.{Transform}

-- what was made of as many bytes as it has
pub made_length : (made old new : List ℕ) (n : ℕ) → new ≡ made ++ drop n old → length new ≡ length old → n ≤ length old → length made ≡ n
made_length made old new n e same within = omega (arith, ap length e, length-append made (drop n old), length-drop n old, same, within)

-- the ciphertext stands at the front
pub cbc_made : (f : List ℕ → List ℕ) (iv text old new : List ℕ) → length text % 16 ≡ 0
    → new ≡ joined (λ j. cbc_block f iv text (suc j)) (length text / 16) ++ drop (length text) old → length new ≡ length old → length text ≤ length old
    → cbc_seal f iv text ≡ Some (take (length text) new)
cbc_made f iv text old new whole e same within =
    let made : List ℕ = joined (λ j. cbc_block f iv text (suc j)) (length text / 16) in
    let front : take (length text) new ≡ made = ap (take (length text)) e ∙ front_is made old (length text) (made_length made old new (length text) e same within) in
    rw (front, whole) refl

pub cbc_rest : (f : List ℕ → List ℕ) (iv text old new : List ℕ)
    → new ≡ joined (λ j. cbc_block f iv text (suc j)) (length text / 16) ++ drop (length text) old → length new ≡ length old → length text ≤ length old
    → drop (length text) new ≡ drop (length text) old
cbc_rest f iv text old new e same within =
    let made : List ℕ = joined (λ j. cbc_block f iv text (suc j)) (length text / 16) in
    ap (drop (length text)) e ∙ rest_is made old (length text) (made_length made old new (length text) e same within)

-- a ciphertext of n bytes, its tag, and what lies behind them
module _ (mid new piece : List ℕ) (n size : ℕ) (is : new ≡ take n mid ++ piece ++ drop (length piece) (drop n mid)) (long : length piece ≡ size) (room : n + size ≤ length mid) where
  both_long : length (take n mid ++ piece) ≡ n + size
  both_long = omega (arith, length-append (take n mid) piece, length-take n mid, long, room)

  behind : drop (length piece) (drop n mid) ≡ drop (n + size) mid
  behind = drop-drop (length piece) n mid ∙ ap (λ (k : ℕ). drop (n + k) mid) long

  split : new ≡ (take n mid ++ piece) ++ drop (n + size) mid
  split = is ∙ ap (λ (b : List ℕ). (take n mid ++ piece) ++ b) behind

  pub tagged_front : take (n + size) new ≡ take n mid ++ piece
  tagged_front = ap (take (n + size)) split ∙ front_is (take n mid ++ piece) mid (n + size) both_long

  pub tagged_rest : (old : List ℕ) → drop n mid ≡ drop n old → drop (n + size) new ≡ drop (n + size) old
  tagged_rest old e =
      ap (drop (n + size)) split ∙ rest_is (take n mid ++ piece) mid (n + size) both_long
      ∙ sym behind ∙ ap (drop (length piece)) e
      ∙ drop-drop (length piece) n old ∙ ap (λ (k : ℕ). drop (n + k) old) long

-- and the value of the request
pub authenc_made : (block : List ℕ) (aes : AnyAes) (iv aad text mid new mac piece : List ℕ) (size : ℕ)
    → cbc_seal (seal (key_of aes)) iv text ≡ Some (take (length text) mid) → mac ≡ hmac_under block (aad ++ take (length text) mid) → piece ≡ take size mac
    → length piece ≡ size → length text + size ≤ length mid
    → new ≡ take (length text) mid ++ piece ++ drop (length piece) (drop (length text) mid)
    → authenc_gives block aes size (sealing iv aad text) ≡ bytes (take (length text + size) new)
unfolding authenc_seal
authenc_made block aes iv aad text mid new mac piece size sealed made front long room is =
    let tag : take size (hmac_under block (aad ++ take (length text) mid)) ≡ piece = ap (take size) (sym made) ∙ sym front in
    rw (sealed, tagged_front mid new piece (length text) size is long room, tag) refl

-- what went out
pub gave_at : (t : Transform) (k : Plan × List ℕ) (q : Request) (old new : List ℕ) (n : ℕ) → IsKey t k → kept.HasValue k t.authsize q (bytes (take n new))
    → drop n new ≡ drop n old → length new ≡ length old → n ≤ length old → Gave t q old new n
gave_at t k q old new n i value rest long fits = record {
  value = has_value t k q (bytes (take n new)) i value;
  fits = omega (arith, long, fits);
  rest = rest;
}
