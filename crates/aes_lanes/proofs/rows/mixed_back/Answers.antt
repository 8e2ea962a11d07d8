use Rattle.std.specs.Prelude.{◌≡◌, [], ◌∷◌, ℕ, List, map, bit_xor}
use Rattle.std.proofs.Common.{◌∙◌, sym, ap, arith}
use lib.Lanes.{zip2}
use Rattle.std_defs.specs.Aes.{mix_columns, inverse_mix_columns}
use Rattle.aes_lanes.specs.Tower.{term_byte}
use Rattle.aes_lanes.specs.Rows.{eight_blocks}
use Rattle.aes_lanes.proofs.Transposed.{mapped_blocks}
use Rattle.aes_lanes.proofs.RowsMixed.{crossed_row, term_bytes, term_long, rows_mixed_back, crossed_is}
use Rattle.aes_lanes.proofs.rows.mixed_back.Goals as goal

pub returns : goal.returns
returns c =
    let t : List ℕ → List ℕ = map term_byte in
    let a = c.args.a in
    let b = c.args.b in
    let d = c.args.c in
    let e = c.args.d in
    let first : t c.terms_added-3.result ≡ crossed_row (t a) (zip2 bit_xor (t a) (t d)) = crossed_is a a d _ _ _ c.terms_added.ensures c.four_times_term-u.ensures c.terms_added-3.ensures in
    let second : t c.terms_added-4.result ≡ crossed_row (t b) (zip2 bit_xor (t b) (t e)) = crossed_is b b e _ _ _ c.terms_added-2.ensures c.four_times_term-v.ensures c.terms_added-4.ensures in
    let third : t c.terms_added-5.result ≡ crossed_row (t d) (zip2 bit_xor (t a) (t d)) = crossed_is d a d _ _ _ c.terms_added.ensures c.four_times_term-u.ensures c.terms_added-5.ensures in
    let fourth : t c.terms_added-6.result ≡ crossed_row (t e) (zip2 bit_xor (t b) (t e)) = crossed_is e b e _ _ _ c.terms_added-2.ensures c.four_times_term-v.ensures c.terms_added-6.ensures in
    c.mixed.ensures
    ∙ ap (map mix_columns) (mapped_blocks term_byte c.terms_added-3.result c.terms_added-4.result c.terms_added-5.result c.terms_added-6.result (omega arith) (omega arith) (omega arith) (omega arith)
    ∙ (λ j. eight_blocks (first j ∷ second j ∷ third j ∷ fourth j ∷ [])))
    ∙ rows_mixed_back (t a) (t b) (t d) (t e) (term_long a c.fits-a.0) (term_long b c.fits-b.0) (term_long d c.fits-c.0) (term_long e c.fits-d.0)
    (term_bytes a c.fits-a.1) (term_bytes b c.fits-b.1) (term_bytes d c.fits-c.1) (term_bytes e c.fits-d.1)
    ∙ ap (map inverse_mix_columns) (sym (mapped_blocks term_byte a b d e c.fits-a.0 c.fits-b.0 c.fits-c.0 c.fits-d.0))
