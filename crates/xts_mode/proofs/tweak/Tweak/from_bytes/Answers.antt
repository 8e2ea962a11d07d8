use Rattle.std.proofs.Common.{◌≡◌, ◌∙◌, ◌-◌, ℕ, ap, arith, length, take, drop}
use Rattle.xts_mode.proofs.Alpha.{of_halves}
use Rattle.xts_mode.proofs.tweak.Tweak.from_bytes.Goals as goal

pub returns : goal.returns
returns c =
    let wide : length c.args.bytes.now - 8 ≡ 8 = omega arith in
    of_halves c.from_le_bytes.result c.from_le_bytes-2.result c.args.bytes.now c.copy_from_slice.new.self c.copy_from_slice-2.new.self c.requires (λ i. (c.type_inv.bytes i).fits)
    c.copy_from_slice.ensures.after (c.copy_from_slice-2.ensures.after ∙ ap (λ (k : ℕ). take k (drop 8 c.args.bytes.now)) wide) c.from_le_bytes.ensures c.from_le_bytes-2.ensures
