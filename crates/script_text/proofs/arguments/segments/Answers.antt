use Rattle.std.proofs.Common.{◌≡◌, ◌∙◌, sym, ap, Bool, true, false, cond, Some, None, rules}
use Rattle.std.specs.List.{slice_split}
use Rattle.script_text.specs.Arguments.{hex_of, hexes_of, is_bar}
use Rattle.script_text.specs.InSegments.{in_segments, spelled_in, are_sizes}
use Rattle.script_text.proofs.PartLemmas.{text_with, text_in_segments, sizes_malformed, sizes_total}
use Rattle.script_text.proofs.arguments.segments.Goals as goal

pub returns-then-not-are_sizes : goal.returns-then-not-are_sizes
returns-then-not-are_sizes c =
    let sizes = c.in_ok-digits.field-0.sizes.items in
    let unfit : are_sizes sizes ≡ false = search rules in
    λ _. sizes_malformed (hexes_of (slice_split is_bar c.args.token.now)) sizes (hex_of c.in_ok-digits.field-0.digits.items) c.in_ok-digits.ensures unfit

pub cut_from-requires : goal.cut_from-requires
cut_from-requires c =
    let parts = hexes_of (slice_split is_bar c.args.token.now) in
    let read = text_with c.in_ok-bytes.bytes c.in_ok-digits.field-0.sizes.items in
    let is : in_segments parts ≡ Some read = c.in_ok-digits.ensures ∙ ap (spelled_in read.sizes) (ap hex_of (sym c.deref-2.ensures.value) ∙ c.in_ok-bytes.ensures) in
    sizes_total parts read is

pub returns : goal.returns
returns c =
    let parts = hexes_of (slice_split is_bar c.args.token.now) in
    let read = text_with c.in_ok-bytes.bytes c.in_ok-digits.field-0.sizes.items in
    let is : in_segments parts ≡ Some read = c.in_ok-digits.ensures ∙ ap (spelled_in read.sizes) (ap hex_of (sym c.deref-2.ensures.value) ∙ c.in_ok-bytes.ensures) in
    let fit : are_sizes read.sizes ≡ true = search rules in
    text_in_segments parts read is ∙ ap (λ (b : Bool). cond b (Some read) None) fit ∙ search rules
