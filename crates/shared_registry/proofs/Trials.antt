-- The run of two callers, by computation.
use Rattle.std.proofs.Common.{refl}
use Rattle.alg_registry.specs.Legal.{LegalReg}
use Rattle.alg_registry.specs.Made.{Made}
use Rattle.alg_names.specs.Spelled.{tree_of}
use Rattle.templates.specs.Table.{table}
use Rattle.templates.specs.Words.{template_named}
use Rattle.shared_registry.specs.Faithful.{IsFaithful}
use Rattle.shared_registry.specs.Trial.{side_by_side}

side_legal : LegalReg side_by_side
side_legal = (
  (refl, refl),
  (
    (refl, refl),
    (
      (refl, refl),
      (
        (refl, refl),
        (
          (refl, refl),
          (
            (refl, refl),
            (
              (refl, refl),
              (
                (refl, refl),
                (
                  (refl, refl, refl),
                  ((refl, refl), ((refl, refl, (refl, refl)), (refl, ((refl, refl), ((refl, refl, tt), (refl, tt)))))),
                ),
              ),
            ),
          ),
        ),
      ),
    ),
  ),
)

side_made : Made table side_by_side
unfolding table tree_of template_named
side_made = (refl, (refl, (refl, (tt, (refl, (tt, ((refl, refl), ((refl, refl), (refl, (tt, (refl, (tt, ((refl, refl), (refl, (tt, tt)))))))))))))))

pub side_faithful : IsFaithful side_by_side
side_faithful = record { legal = side_legal; made = side_made }
