-- The table at a name's spelling; what children have in common.
use Rattle.std.proofs.Common.{◌≡◌, ℕ, ◌≤◌, Bool, true, false, not, ◌&&◌, List, length, ap, ◌∙◌, arith, Some, Err}
use Rattle.std.specs.Prelude.{nat_lt}
use Rattle.std.specs.Option.{option_map_or}
use Rattle.std.proofs.lemmas.Bool.Decides.{nat_tests}
use Rattle.kc_base.specs.declared.error_numbers.Errno.TheVariants.{ENOENT}
use Rattle.alg_registry.specs.declared.spec.Spec.{Spec}
use Rattle.alg_names.specs.Name.{Tree, spelling, depth, width}
use Rattle.alg_names.specs.Spelled.{tree_of}
use Rattle.templates.specs.Names.{IsKnown}
use Rattle.templates.specs.Nesting.{is_nested_well}
use Rattle.templates.specs.Table.{table, children_of, derived_of, spellings, is_allowed}
use Rattle.templates.specs.Resolution.{weight, weight_of}

pub tree_of-spelling : (t : Tree) → IsKnown t → tree_of (spelling t) ≡ Some t
tree_of-spelling t known = known.read

pub table-children : (t : Tree) → IsKnown t → table.children (spelling t) ≡ spellings (children_of t)
unfolding table
table-children t allowed = ap (λ o. spellings (option_map_or children_of o (Err ENOENT))) (tree_of-spelling t allowed)

pub table-derived : (t : Tree) (below : List (ℕ × Spec)) → IsKnown t → table.derived (spelling t) below ≡ derived_of t below
unfolding table
table-derived t below allowed = ap (λ o. option_map_or (λ u. derived_of u below) o (Err ENOENT)) (tree_of-spelling t allowed)

not_above : (a b : ℕ) → a ≤ b → not (nat_lt b a) ≡ true
not_above a b le = grind (arith, nat_tests)

pub table-name : (t : Tree) → IsKnown t → is_nested_well t ≡ true → table.is_name (spelling t) ≡ true
unfolding table
table-name t allowed nested =
    ap (λ o. option_map_or (is_allowed (spelling t)) o false) (tree_of-spelling t allowed)
    ∙ all_four (not (nat_lt 127 (length (spelling t)))) (not (nat_lt 8 (depth t))) (not (nat_lt 4 (width t))) (is_nested_well t) (not_above _ _ allowed.allowed.short) (not_above _ _ allowed.allowed.levels) (not_above _ _ allowed.allowed.arguments) nested
  where
    all_four : (a b c d : Bool) → a ≡ true → b ≡ true → c ≡ true → d ≡ true → (a && b && c && d) ≡ true
    all_four a b c d p q r s = cc

pub weight_of-spelling : (t : Tree) → IsKnown t → weight_of (spelling t) ≡ weight t
weight_of-spelling t allowed = ap (λ o. option_map_or weight o 0) (tree_of-spelling t allowed)
