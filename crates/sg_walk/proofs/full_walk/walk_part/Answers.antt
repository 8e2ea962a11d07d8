use Rattle.std.proofs.Common.{◌≡◌, ◌+◌, ◌-◌, ◌*◌, ◌/◌, ℕ, List, [], refl, ap, ◌∙◌, arith, length, map, drop, get_or, set}
use Rattle.std.proofs.lemmas.List.{get_or_default}
use Rattle.std.specs.List.{concat}
use Rattle.sg_walk.proofs.Joined.{same_behind}
use Rattle.sg_walk.proofs.Steps.{stepped_same, stepped_within, same_parts, behind_within, stepped_both}
use Rattle.sg_walk.proofs.full_walk.walk_part.Goals as goal

pub returns-then-at-len-clause-stepped : goal.returns-then-at-len-clause-stepped
returns-then-at-len-clause-stepped g c =
    let parts = c.args.parts.now in
    let i : ℕ = c.args.i in
    let part : List ℕ = get_or c.args.parts.now c.args.i c.index-parts-i-2.result in
    let is : get_or c.args.parts.now c.args.i c.index-parts-i-2.result ≡ get_or c.args.parts.now c.args.i [] = get_or_default parts i c.index-parts-i-2.result [] c.requires.within in
    let len : c.len-len.result ≡ length (get_or c.args.parts.now c.args.i []) = c.len-len.ensures ∙ ap length (get_or_default parts i c.index-parts-i.result [] c.requires.within) in
    let k : ℕ = (c.len-len.result - c.args.skip) / 16 * 16 in
    let all : (c.len-len.result - c.args.skip) / 16 * 16 ≡ length (get_or c.args.parts.now c.args.i []) + 0 - c.args.skip = omega (arith, len, c.if-at-len.true) in
    stepped_same g.W.Walker.makes c.args.walker.now c.step_within.new.walker parts (set parts i c.step_within.new.part) _ _ k _ refl all
    (stepped_within g.W.Walker.makes c.args.walker.now c.step_within.new.walker parts i c.args.skip k part c.step_within.new.part c.requires.within is
    (omega (arith, len, ap length is)) c.step_within.ensures.rest c.step_within.ensures.len c.step_within.ensures.made)

pub step_across-count-requires-clause-inside : goal.step_across-count-requires-clause-inside
step_across-count-requires-clause-inside g c =
    let parts = c.args.parts.now in
    let i : ℕ = c.args.i in
    let part : List ℕ = get_or c.args.parts.now c.args.i c.index-parts-i-2.result in
    let new : List ℕ = c.step_within.new.part in
    let is : get_or c.args.parts.now c.args.i c.index-parts-i-2.result ≡ get_or c.args.parts.now c.args.i [] = get_or_default parts i c.index-parts-i-2.result [] c.requires.within in
    let len : c.len-len.result ≡ length (get_or c.args.parts.now c.args.i []) = c.len-len.ensures ∙ ap length (get_or_default parts i c.index-parts-i.result [] c.requires.within) in
    let k : ℕ = (c.len-len.result - c.args.skip) / 16 * 16 in
    let sizes : map length (set c.args.parts.now c.args.i c.step_within.new.part) ≡ map length c.args.parts.now =
    same_parts g.W.Walker.makes c.args.walker.now c.step_within.new.walker parts i c.args.skip k part new c.requires.within is
    (omega (arith, len, ap length is)) c.step_within.ensures.rest c.step_within.ensures.len in
    let behind : length (concat (drop c.args.i (set c.args.parts.now c.args.i c.step_within.new.part))) ≡ length (concat (drop c.args.i c.args.parts.now)) =
    same_behind (set parts i new) parts i sizes in
    omega (arith, len, behind, behind_within parts i c.requires.within)

pub overflow_sub-result : goal.overflow_sub-result
overflow_sub-result g c =
    let len : c.len-len.result ≡ length (get_or c.args.parts.now c.args.i []) =
    c.len-len.ensures ∙ ap length (get_or_default c.args.parts.now c.args.i c.index-parts-i.result [] c.requires.within) in
    omega (arith, len)

pub overflow_sub-result-2 : goal.overflow_sub-result-2
overflow_sub-result-2 g c =
    let parts = c.args.parts.now in
    let i : ℕ = c.args.i in
    let part : List ℕ = get_or c.args.parts.now c.args.i c.index-parts-i-2.result in
    let new : List ℕ = c.step_within.new.part in
    let is : get_or c.args.parts.now c.args.i c.index-parts-i-2.result ≡ get_or c.args.parts.now c.args.i [] = get_or_default parts i c.index-parts-i-2.result [] c.requires.within in
    let len : c.len-len.result ≡ length (get_or c.args.parts.now c.args.i []) = c.len-len.ensures ∙ ap length (get_or_default parts i c.index-parts-i.result [] c.requires.within) in
    let k : ℕ = (c.len-len.result - c.args.skip) / 16 * 16 in
    let sizes : map length (set c.args.parts.now c.args.i c.step_within.new.part) ≡ map length c.args.parts.now =
    same_parts g.W.Walker.makes c.args.walker.now c.step_within.new.walker parts i c.args.skip k part new c.requires.within is
    (omega (arith, len, ap length is)) c.step_within.ensures.rest c.step_within.ensures.len in
    let behind : length (concat (drop c.args.i (set c.args.parts.now c.args.i c.step_within.new.part))) ≡ length (concat (drop c.args.i c.args.parts.now)) =
    same_behind (set parts i new) parts i sizes in
    omega (arith, len, behind, behind_within parts i c.requires.within, c.step_across-count.ensures.count)

pub returns-clause-stepped : goal.returns-clause-stepped
returns-clause-stepped g c =
    let parts = c.args.parts.now in
    let i : ℕ = c.args.i in
    let part : List ℕ = get_or c.args.parts.now c.args.i c.index-parts-i-2.result in
    let new : List ℕ = c.step_within.new.part in
    let is : get_or c.args.parts.now c.args.i c.index-parts-i-2.result ≡ get_or c.args.parts.now c.args.i [] = get_or_default parts i c.index-parts-i-2.result [] c.requires.within in
    let len : c.len-len.result ≡ length (get_or c.args.parts.now c.args.i []) = c.len-len.ensures ∙ ap length (get_or_default parts i c.index-parts-i.result [] c.requires.within) in
    let k : ℕ = (c.len-len.result - c.args.skip) / 16 * 16 in
    let sizes : map length (set c.args.parts.now c.args.i c.step_within.new.part) ≡ map length c.args.parts.now =
    same_parts g.W.Walker.makes c.args.walker.now c.step_within.new.walker parts i c.args.skip k part new c.requires.within is
    (omega (arith, len, ap length is)) c.step_within.ensures.rest c.step_within.ensures.len in
    let behind : length (concat (drop c.args.i (set c.args.parts.now c.args.i c.step_within.new.part))) ≡ length (concat (drop c.args.i c.args.parts.now)) =
    same_behind (set parts i new) parts i sizes in
    let makes = g.W.Walker.makes in
    let first = stepped_within makes c.args.walker.now c.step_within.new.walker parts i c.args.skip k part new c.requires.within is
    (omega (arith, len, ap length is)) c.step_within.ensures.rest c.step_within.ensures.len c.step_within.ensures.made in
    let count : k + c.step_across-count.result
    ≡ length (get_or c.args.parts.now c.args.i []) + (c.step_across-count.result - (c.len-len.result - (c.args.skip + (c.len-len.result - c.args.skip) / 16 * 16))) - c.args.skip =
    omega (arith, len, behind, behind_within parts i c.requires.within, c.step_across-count.ensures.count) in
    stepped_same makes c.args.walker.now c.step_across-count.new.walker parts c.step_across-count.new.parts _ _ (k + c.step_across-count.result) _ refl count
    (stepped_both makes c.args.walker.now c.step_within.new.walker c.step_across-count.new.walker parts (set parts i new) c.step_across-count.new.parts i c.args.skip c.len-len.result k c.step_across-count.result
    g.met.W.Walker.joins (omega arith) first c.step_across-count.ensures.stepped)

pub returns-clause-whole : goal.returns-clause-whole
returns-clause-whole g c =
    let parts = c.args.parts.now in
    let i : ℕ = c.args.i in
    let part : List ℕ = get_or c.args.parts.now c.args.i c.index-parts-i-2.result in
    let new : List ℕ = c.step_within.new.part in
    let is : get_or c.args.parts.now c.args.i c.index-parts-i-2.result ≡ get_or c.args.parts.now c.args.i [] = get_or_default parts i c.index-parts-i-2.result [] c.requires.within in
    let len : c.len-len.result ≡ length (get_or c.args.parts.now c.args.i []) = c.len-len.ensures ∙ ap length (get_or_default parts i c.index-parts-i.result [] c.requires.within) in
    let k : ℕ = (c.len-len.result - c.args.skip) / 16 * 16 in
    let sizes : map length (set c.args.parts.now c.args.i c.step_within.new.part) ≡ map length c.args.parts.now =
    same_parts g.W.Walker.makes c.args.walker.now c.step_within.new.walker parts i c.args.skip k part new c.requires.within is
    (omega (arith, len, ap length is)) c.step_within.ensures.rest c.step_within.ensures.len in
    let behind : length (concat (drop c.args.i (set c.args.parts.now c.args.i c.step_within.new.part))) ≡ length (concat (drop c.args.i c.args.parts.now)) =
    same_behind (set parts i new) parts i sizes in
    λ more. omega (arith, len, behind, behind_within parts i c.requires.within, c.step_across-count.ensures.count, more)
