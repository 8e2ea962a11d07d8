use Rattle.std.proofs.Common.{Err, arith}
use Rattle.alg_names.specs.declared.name_errors.NameErr.TheVariants.{TooDeep}
use Rattle.alg_names.proofs.Building.{read_as, allowed}
use Rattle.alg_names.proofs.parser.parse_name.Goals as goal

pub returns-then-levels-gt-MAX_LEVELS-clause-all : goal.returns-then-levels-gt-MAX_LEVELS-clause-all
returns-then-levels-gt-MAX_LEVELS-clause-all c t h l d w =
    let n = c.in-Ok.ensures.name in
    read_as (Err TooDeep) c.args.text.now tt (l, n.0, n.1, omega (arith, n.2, c.if-levels-gt-MAX_LEVELS.true)) t h (allowed c.args.text.now t h l d w)

pub returns-else-levels-gt-MAX_LEVELS-clause-all : goal.returns-else-levels-gt-MAX_LEVELS-clause-all
returns-else-levels-gt-MAX_LEVELS-clause-all c t h l d w = read_as c.build.result c.args.text.now c.build.ensures.name c.build.ensures.refused t h (allowed c.args.text.now t h l d w)
