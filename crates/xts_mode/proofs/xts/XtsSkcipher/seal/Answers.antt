use Rattle.std.proofs.Common.{◌≡◌, ℕ, List, ◌-◌, ◌/◌, ◌%◌, ◌≤◌, refl, sym, ◌∙◌, arith, length}
use Rattle.std.proofs.lemmas.Bool.{leb-true, leb-false}
use Rattle.std_defs.specs.Xts.{times_alpha_power}
use Rattle.xts_mode.proofs.DataUnit.{seal_short, seal_whole, seal_partial, end_turned, last_place, place_behind}
use Rattle.xts_mode.proofs.xts.XtsSkcipher.seal.Goals as goal

pub returns-then-not-is_data_unit : goal.returns-then-not-is_data_unit
returns-then-not-is_data_unit g c = (
  refl,
  seal_short (g.C.BlockCipher.sealed c.args.self.now.0) (g.C.BlockCipher.sealed c.args.self.now.1) c.args.iv.now c.args.b.now (leb-false 16 (length c.args.b.now) (sym c.is_data_unit.ensures ∙ c.if-not-is_data_unit.true)),
  refl,
)

pub returns-then-stolen-eq0 : goal.returns-then-stolen-eq0
returns-then-stolen-eq0 g c =
    let block : 16 ≤ length c.args.b.now = leb-true 16 (length c.args.b.now) (sym c.is_data_unit.ensures ∙ c.if-not-is_data_unit.false) in
    rw (← c.self.view_is)
    (seal_whole (g.C.BlockCipher.sealed c.self.inside.body) (g.C.BlockCipher.sealed c.self.inside.tweak) c.args.iv.now c.args.b.now c.first_tweak-tweak.result c.turn_blocks.new.text
    block (rw (← c.self.view_is) at c.first_tweak-tweak.ensures) c.if-stolen-eq0.true c.turn_blocks.ensures.text)

pub returns : goal.returns
returns g c =
    let block : 16 ≤ length c.args.b.now = leb-true 16 (length c.args.b.now) (sym c.is_data_unit.ensures ∙ c.if-not-is_data_unit.false) in
    let f : List ℕ → List ℕ = g.C.BlockCipher.sealed c.self.inside.body in
    let first : List ℕ = c.first_tweak-tweak.result in
    let a : ℕ = length c.args.b.now - length c.args.b.now % 16 - 16 in
    let last : c.turn_blocks-2.new.tweak ≡ times_alpha_power first (length c.args.b.now / 16 - 1) =
    last_place first c.turn_blocks-2.new.tweak c.args.b.now a block refl c.turn_blocks-2.ensures.tweak in
    let behind : c.next-next.result ≡ times_alpha_power first (length c.args.b.now / 16) =
    place_behind first c.turn_blocks-2.new.tweak c.next-next.result c.args.b.now block last c.next-next.ensures in
    rw (← c.self.view_is)
    (seal_partial f (g.C.BlockCipher.sealed c.self.inside.tweak) c.args.iv.now c.args.b.now first _ block
    (rw (← c.self.view_is) at c.first_tweak-tweak.ensures)
    (end_turned f first c.args.b.now c.turn_blocks-2.new.text a block refl c.turn_blocks-2.ensures.text (length c.args.b.now / 16 - 1) (length c.args.b.now / 16) _
    c.turn_blocks-2.new.tweak c.next-next.result c.steal.new.text last behind (omega arith) refl c.steal.ensures))
