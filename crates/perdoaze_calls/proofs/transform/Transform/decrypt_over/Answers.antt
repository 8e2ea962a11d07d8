use Rattle.std.proofs.Common.{◌≡◌, ◌+◌, ◌-◌, ℕ, Bool, List, length, take, drop, refl, ap, subst, ◌∙◌, arith}
use Rattle.piece_modes.specs.Pieces.{text_over}
use Rattle.transforms.specs.InPlace.{opening}
use Rattle.perdoaze_calls.proofs.Answering.{IsKey}
use Rattle.perdoaze_calls.proofs.Overs.{same_total, decrypted_over, refused_over}
use Rattle.perdoaze_calls.specs.Over.{Opens}
use Rattle.perdoaze_calls.proofs.transform.Transform.decrypt_over.Goals as goal

pub returns-then-not-right-clause-came : goal.returns-then-not-right-clause-came
returns-then-not-right-clause-came c =
    let t = c.args.self.now in
    let k = c.in-Ok.keyed.now in
    let old : List ℕ = text_over c.args.pieces.now in
    let new : List ℕ = text_over c.open_keyed_over.new.pieces in
    let size : ℕ = c.args.n - t.authsize in
    let i : IsKey t c.in-Ok.keyed.now = record { plan = c.in-Ok.ensures.0; key = c.in-Ok.ensures.1 } in
    let all : c.args.n - t.authsize + t.authsize ≡ c.args.n = omega (arith, c.if-n-tag_size.false) in
    let is : c.read_at.new.into ≡ take t.authsize (drop (c.args.n - t.authsize) (text_over c.args.pieces.now)) =
    c.read_at.ensures ∙ ap (λ (m : ℕ). take m (drop (c.args.n - t.authsize) (text_over c.args.pieces.now))) c.split_at_mut-tag.ensures.front_len in
    refused_over t k c.args.iv.now c.args.aad.now old new c.read_at.new.into size c.args.n i all (c.have.ensures c.if-not-have.false) is 0 refl
    (subst (λ (b : Bool). Opens b k (length c.read_at.new.into) (opening c.args.iv.now c.args.aad.now (take size old) c.read_at.new.into) size old new) c.if-not-right.true c.in_ok-right.ensures.opened)

pub returns-clause-came : goal.returns-clause-came
returns-clause-came c =
    let t = c.args.self.now in
    let k = c.in-Ok.keyed.now in
    let old : List ℕ = text_over c.args.pieces.now in
    let new : List ℕ = text_over c.open_keyed_over.new.pieces in
    let size : ℕ = c.args.n - t.authsize in
    let i : IsKey t c.in-Ok.keyed.now = record { plan = c.in-Ok.ensures.0; key = c.in-Ok.ensures.1 } in
    let all : c.args.n - t.authsize + t.authsize ≡ c.args.n = omega (arith, c.if-n-tag_size.false) in
    let is : c.read_at.new.into ≡ take t.authsize (drop (c.args.n - t.authsize) (text_over c.args.pieces.now)) =
    c.read_at.ensures ∙ ap (λ (m : ℕ). take m (drop (c.args.n - t.authsize) (text_over c.args.pieces.now))) c.split_at_mut-tag.ensures.front_len in
    decrypted_over t k c.args.iv.now c.args.aad.now old new c.read_at.new.into size c.args.n i all (c.have.ensures c.if-not-have.false) is
    (same_total c.args.pieces.now c.open_keyed_over.new.pieces c.open_keyed_over.ensures.sizes) c.open_keyed_over.ensures.rest
    (subst (λ (b : Bool). Opens b k (length c.read_at.new.into) (opening c.args.iv.now c.args.aad.now (take size old) c.read_at.new.into) size old new) c.if-not-right.false c.in_ok-right.ensures.opened)
