use Rattle.std.proofs.Common.{◌≡◌, ◌∙◌, refl, sym, ap, ℕ, ◌+◌, ◌-◌, ◌/◌, ◌%◌, List, [], ◌∷◌, ◌++◌, length, take, drop, Some, None, arith, rules, length-append, length-drop, take_all}
use Rattle.std.specs.List.{slice_split}
use Rattle.script_text.specs.Arguments.{hexes_of, is_bar}
use Rattle.script_text.specs.InSegments.{digits_of}
use Rattle.script_text.proofs.PlaceLemmas.{place_found, split_there, not_split}
use Rattle.script_text.proofs.PartLemmas.{still, none_read, part_read, part_malformed, all_read, none_in_segments}
use Rattle.script_text.proofs.arguments.parts_of.Goals as goal

pub loop-end-init : goal.loop-end-init
loop-end-init c =
    rw (c.in_ok-with_capacity.ensures.items, c.in_ok-with_capacity-2.ensures.items) (record { even = refl; all = none_read (slice_split is_bar c.args.token.now) })

pub returns-in_err-append_part : goal.returns-in_err-append_part
returns-in_err-append_part c =
    let left = c.loop-end.left.now in
    let end = c.in-Some.end in
    let digits = c.loop-end.parts.digits.items in
    let sizes = c.loop-end.parts.sizes.items in
    let there = split_there is_bar left end (place_found is_bar left (Some end) c.in-Some.ensures) c.in-Some.ensures.0.high in
    let lost : length (digits_of (take end left)) % 2 ≡ 1 → hexes_of (slice_split is_bar c.args.token.now) ≡ None =
    λ odd. none_in_segments _ (c.loop-end.invariant.all ∙ ap (still digits sizes) there ∙ part_malformed digits sizes c.loop-end.invariant.even (take end left) (slice_split is_bar (drop (end + 1) left)) odd) in
    search rules

pub loop-end-preserved : goal.loop-end-preserved
loop-end-preserved c =
    let left = c.loop-end.left.now in
    let end = c.in-Some.end in
    let digits = c.loop-end.parts.digits.items in
    let sizes = c.loop-end.parts.sizes.items in
    let part = take end left in
    let rest = drop (end + 1) left in
    let there = split_there is_bar left end (place_found is_bar left (Some end) c.in-Some.ensures) c.in-Some.ensures.0.high in
    let even = c.in_ok-append_part.ensures.even in
    rw (c.in_ok-append_part.ensures.digits, c.in_ok-append_part.ensures.sizes) (record {
      even = omega (arith, c.loop-end.invariant.even, even, length-append digits (digits_of part));
      all =
          c.loop-end.invariant.all ∙ ap (still digits sizes) there
          ∙ part_read digits sizes c.loop-end.invariant.even part (slice_split is_bar rest) even
          ∙ ap (λ (l : List ℕ). still (digits ++ digits_of part) (sizes ++ length (digits_of part) / 2 ∷ []) (slice_split is_bar l)) (sym (take_all (length left - (end + 1)) rest (omega (arith, length-drop (end + 1) left))));
    })

pub returns-in_err-append_part-2 : goal.returns-in_err-append_part-2
returns-in_err-append_part-2 c =
    let left = c.loop-end.left.now in
    let digits = c.loop-end.parts.digits.items in
    let sizes = c.loop-end.parts.sizes.items in
    let last = not_split is_bar left (length left) (place_found is_bar left None c.in_default.ensures) (omega arith) in
    let lost : length (digits_of left) % 2 ≡ 1 → hexes_of (slice_split is_bar c.args.token.now) ≡ None =
    λ odd. none_in_segments _ (c.loop-end.invariant.all ∙ ap (still digits sizes) last ∙ part_malformed digits sizes c.loop-end.invariant.even left [] odd) in
    search rules

pub returns : goal.returns
returns c =
    let left = c.loop-end.left.now in
    let digits = c.loop-end.parts.digits.items in
    let sizes = c.loop-end.parts.sizes.items in
    let last = not_split is_bar left (length left) (place_found is_bar left None c.in_default.ensures) (omega arith) in
    let even = c.in_ok-append_part-2.ensures.even in
    rw (c.in_ok-append_part-2.ensures.digits, c.in_ok-append_part-2.ensures.sizes) (
    c.loop-end.invariant.all ∙ ap (still digits sizes) last
    ∙ part_read digits sizes c.loop-end.invariant.even left [] even
    ∙ all_read _ _ (omega (arith, c.loop-end.invariant.even, even, length-append digits (digits_of left)))
    )
