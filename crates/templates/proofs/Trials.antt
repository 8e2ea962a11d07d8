-- The trial, by computation.
use Rattle.std.proofs.Common.{◌≡◌, refl, ap, arith, Option, Some, List, ℕ, [], ◌∷◌}
use Rattle.kc_base.specs.declared.error_numbers.Errno.TheVariants.{ENOENT}
use Rattle.alg_registry.specs.declared.entry.EndAnswer.{EndAnswer}
use Rattle.alg_registry.specs.declared.entry.EndAnswer.TheVariants.{Built, Failed}
use Rattle.alg_registry.specs.Made.{Made}
use Rattle.alg_names.specs.Spelled.{tree_of}
use Rattle.templates.specs.Table.{table}
use Rattle.templates.specs.Words.{template_named}
use Rattle.templates.specs.Trial.{cbc_with, cbc_spec, ctr_spec}

pub cbc_built : Made table (cbc_with (Built 3 cbc_spec))
unfolding table tree_of template_named
cbc_built = (refl, (tt, ((refl, refl), (refl, tt))))

abbrev first_byte : List ℕ → ℕ
first_byte [] = 0
first_byte (x ∷ xs) = x

b_not_t : (let n : ℕ = 98 in n) ≡ 116 → ⊥
b_not_t e = absurd (omega (arith, e))

abbrev second_byte : List ℕ → ℕ
second_byte [] = 0
second_byte (x ∷ xs) = first_byte xs

abbrev name_second : Option EndAnswer → ℕ
name_second (Some (Built id spec)) = second_byte spec.driver
name_second _ = 8

pub ctr_not : Made table (cbc_with (Built 3 ctr_spec)) → ⊥
unfolding table tree_of template_named
ctr_not made = b_not_t (ap name_second made.1.1.1.0)

b_not_eight : (let n : ℕ = 98 in n) ≡ 8 → ⊥
b_not_eight e = absurd (omega (arith, e))

pub failed_not : Made table (cbc_with (Failed ENOENT)) → ⊥
unfolding table tree_of template_named
failed_not made = b_not_eight (ap name_second made.1.1.1.0)
