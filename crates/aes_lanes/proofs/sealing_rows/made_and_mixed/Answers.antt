use Rattle.std.specs.Prelude.{◌≡◌, [], ◌∷◌, map}
use Rattle.std.proofs.Common.{◌∙◌, sym, ap, arith}
use Rattle.std_defs.specs.Aes.{mix_columns}
use Rattle.aes_lanes.specs.SealingTower.{tower_byte, less_sbox}
use Rattle.aes_lanes.specs.Rows.{eight_blocks}
use Rattle.aes_lanes.proofs.Transposed.{mapped_blocks, mapped_twice}
use Rattle.aes_lanes.proofs.RowsMixed.{mixed_row, rows_mixed}
use Rattle.aes_lanes.proofs.RowsSealed.{made_row, made_bytes, made_long, made_row_is}
use Rattle.aes_lanes.proofs.sealing_rows.made_and_mixed.Goals as goal

pub returns : goal.returns
returns c =
    let a = c.args.a in
    let b = c.args.b in
    let d = c.args.c in
    let e = c.args.d in
    let first : map tower_byte c.added-3.result ≡ mixed_row (made_row a) (made_row b) (made_row d) (made_row e) = made_row_is a b d e _ _ _ _ _ _ _ _ _ c.made.ensures.twice c.made-2.ensures.twice c.made-2.ensures.once c.made-3.ensures.once c.made-4.ensures.once c.added.ensures c.added-2.ensures c.added-cd.ensures c.added-3.ensures in
    let second : map tower_byte c.added-6.result ≡ mixed_row (made_row b) (made_row d) (made_row e) (made_row a) = made_row_is b d e a _ _ _ _ _ _ _ _ _ c.made-2.ensures.twice c.made-3.ensures.twice c.made-3.ensures.once c.made-4.ensures.once c.made.ensures.once c.added-4.ensures c.added-5.ensures c.added-da.ensures c.added-6.ensures in
    let third : map tower_byte c.added-9.result ≡ mixed_row (made_row d) (made_row e) (made_row a) (made_row b) = made_row_is d e a b _ _ _ _ _ _ _ _ _ c.made-3.ensures.twice c.made-4.ensures.twice c.made-4.ensures.once c.made.ensures.once c.made-2.ensures.once c.added-7.ensures c.added-8.ensures c.added-ab.ensures c.added-9.ensures in
    let fourth : map tower_byte c.added-12.result ≡ mixed_row (made_row e) (made_row a) (made_row b) (made_row d) = made_row_is e a b d _ _ _ _ _ _ _ _ _ c.made-4.ensures.twice c.made.ensures.twice c.made.ensures.once c.made-2.ensures.once c.made-3.ensures.once c.added-10.ensures c.added-11.ensures c.added-bc.ensures c.added-12.ensures in
    mapped_blocks tower_byte c.added-3.result c.added-6.result c.added-9.result c.added-12.result (omega arith) (omega arith) (omega arith) (omega arith)
    ∙ (λ j. eight_blocks (first j ∷ second j ∷ third j ∷ fourth j ∷ []))
    ∙ rows_mixed (made_row a) (made_row b) (made_row d) (made_row e) (made_long a c.fits-a.0) (made_long b c.fits-b.0) (made_long d c.fits-c.0) (made_long e c.fits-d.0)
    (made_bytes a c.fits-a.1) (made_bytes b c.fits-b.1) (made_bytes d c.fits-c.1) (made_bytes e c.fits-d.1)
    ∙ ap (map mix_columns) (sym (mapped_twice less_sbox tower_byte a b d e c.fits-a.0 c.fits-b.0 c.fits-c.0 c.fits-d.0))
