use Rattle.std.proofs.Common.{◌≡◌, ◌∙◌, ◌/◌, arith, refl, sym, length}
use Rattle.std.proofs.lemmas.Bool.{eqb-true}
use Rattle.std_defs.specs.Poly1305.{accumulated}
use Rattle.poly1305.proofs.powers.Powers.after_whole.Goals as goal

pub returns-then-is_empty-clause-value : goal.returns-then-is_empty-clause-value
unfolding accumulated
returns-then-is_empty-clause-value c =
    let empty : length c.args.bytes.now ≡ 0 = eqb-true _ _ (sym c.is_empty.ensures ∙ c.if-is_empty.true) in
    let none : length c.args.bytes.now / 16 ≡ 0 = omega arith in
    rw none refl
