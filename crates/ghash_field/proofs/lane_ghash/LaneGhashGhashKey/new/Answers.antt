use Rattle.std.proofs.Common.{ℕ, ◌∙◌, ap, sym, List}
use Rattle.std_defs.specs.Blocks.{block_number, block_bytes}
use Rattle.std_defs.specs.GhashField.{field_product}
use Rattle.ghash_field.proofs.LaneRows.{next_field_power, first_field_power}
use Rattle.ghash_field.proofs.lane_ghash.LaneGhashGhashKey.new.Goals as goal

pub invariant_of-result : goal.invariant_of-result
invariant_of-result c =
    let h = c.new-first.result.h in
    let fits = c.new-first.result.fits in
    let p2 = c.new-second.ensures ∙ next_field_power h 1 h c.product_by.result fits (first_field_power h fits) (c.product_by.ensures ∙ ap (λ (v : List ℕ). field_product (block_number v) h) (c.halves_of.ensures ∙ c.lanes_of.ensures ∙ ap block_bytes (sym c.new-first.ensures))) in
    let p3 = c.new-third.ensures ∙ next_field_power h 2 c.new-second.result.h c.product_by-2.result fits p2 (c.product_by-2.ensures ∙ ap (λ (v : List ℕ). field_product (block_number v) h) (c.halves_of-2.ensures ∙ c.lanes_of-2.ensures)) in
    let p4 = c.new-fourth.ensures ∙ next_field_power h 3 c.new-third.result.h c.product_by-3.result fits p3 (c.product_by-3.ensures ∙ ap (λ (v : List ℕ). field_product (block_number v) h) (c.halves_of-3.ensures ∙ c.lanes_of-3.ensures)) in
    let p5 = c.new-fifth.ensures ∙ next_field_power h 4 c.new-fourth.result.h c.product_by-4.result fits p4 (c.product_by-4.ensures ∙ ap (λ (v : List ℕ). field_product (block_number v) h) (c.halves_of-4.ensures ∙ c.lanes_of-4.ensures)) in
    let p6 = c.new-sixth.ensures ∙ next_field_power h 5 c.new-fifth.result.h c.product_by-5.result fits p5 (c.product_by-5.ensures ∙ ap (λ (v : List ℕ). field_product (block_number v) h) (c.halves_of-5.ensures ∙ c.lanes_of-5.ensures)) in
    let p7 = c.new-seventh.ensures ∙ next_field_power h 6 c.new-sixth.result.h c.product_by-6.result fits p6 (c.product_by-6.ensures ∙ ap (λ (v : List ℕ). field_product (block_number v) h) (c.halves_of-6.ensures ∙ c.lanes_of-6.ensures)) in
    let p8 = c.new-eighth.ensures ∙ next_field_power h 7 c.new-seventh.result.h c.product_by-7.result fits p7 (c.product_by-7.ensures ∙ ap (λ (v : List ℕ). field_product (block_number v) h) (c.halves_of-7.ensures ∙ c.lanes_of-7.ensures)) in
    record { powers = (p2, p3, p4, p5, p6, p7, p8) }
