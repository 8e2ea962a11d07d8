use Rattle.std.specs.Prelude.{◌≡◌, [], ◌∷◌, ℕ, List, map}
use Rattle.std.proofs.Common.{◌∙◌, sym, ap, arith}
use Rattle.std_defs.specs.Aes.{mix_columns}
use Rattle.aes_lanes.specs.Tower.{term_byte}
use Rattle.aes_lanes.specs.Rows.{eight_blocks}
use Rattle.aes_lanes.proofs.Transposed.{mapped_blocks}
use Rattle.aes_lanes.proofs.RowsMixed.{mixed_row, term_bytes, term_long, rows_mixed, row_is}
use Rattle.aes_lanes.proofs.rows.mixed.Goals as goal

pub returns : goal.returns
returns c =
    let t : List ℕ → List ℕ = map term_byte in
    let a = c.args.a in
    let b = c.args.b in
    let d = c.args.c in
    let e = c.args.d in
    let first : t c.terms_added-2.result ≡ mixed_row (t a) (t b) (t d) (t e) = row_is a b d e _ _ _ _ _ c.terms_added-ab.ensures c.twice_term.ensures c.terms_added.ensures c.terms_added-cd.ensures c.terms_added-2.ensures in
    let second : t c.terms_added-4.result ≡ mixed_row (t b) (t d) (t e) (t a) = row_is b d e a _ _ _ _ _ c.terms_added-bc.ensures c.twice_term-2.ensures c.terms_added-3.ensures c.terms_added-da.ensures c.terms_added-4.ensures in
    let third : t c.terms_added-6.result ≡ mixed_row (t d) (t e) (t a) (t b) = row_is d e a b _ _ _ _ _ c.terms_added-cd.ensures c.twice_term-3.ensures c.terms_added-5.ensures c.terms_added-ab.ensures c.terms_added-6.ensures in
    let fourth : t c.terms_added-8.result ≡ mixed_row (t e) (t a) (t b) (t d) = row_is e a b d _ _ _ _ _ c.terms_added-da.ensures c.twice_term-4.ensures c.terms_added-7.ensures c.terms_added-bc.ensures c.terms_added-8.ensures in
    mapped_blocks term_byte c.terms_added-2.result c.terms_added-4.result c.terms_added-6.result c.terms_added-8.result (omega arith) (omega arith) (omega arith) (omega arith)
    ∙ (λ j. eight_blocks (first j ∷ second j ∷ third j ∷ fourth j ∷ []))
    ∙ rows_mixed (t a) (t b) (t d) (t e) (term_long a c.fits-a.0) (term_long b c.fits-b.0) (term_long d c.fits-c.0) (term_long e c.fits-d.0)
    (term_bytes a c.fits-a.1) (term_bytes b c.fits-b.1) (term_bytes d c.fits-c.1) (term_bytes e c.fits-d.1)
    ∙ ap (map mix_columns) (sym (mapped_blocks term_byte a b d e c.fits-a.0 c.fits-b.0 c.fits-c.0 c.fits-d.0))
