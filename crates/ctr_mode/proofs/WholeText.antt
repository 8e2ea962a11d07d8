-- A text under the key stream of a counter.
use Rattle.std.proofs.Common.{◌≡◌, ℕ, List, ◌+◌, ◌%◌, ◌^◌, ap, sym, ◌∙◌}
use Rattle.std_defs.specs.Blocks.{block_number, block_bytes, with_stream}
use Rattle.std_defs.specs.Modes.{ctr, ctr_stream}

pub ctr_text : (sealed : List ℕ → List ℕ) (next : ℕ) (first text new : List ℕ) → next ≡ block_number first
    → new ≡ with_stream (λ n. sealed (block_bytes ((next + n) % 2 ^ 128))) text → ctr sealed first text ≡ new
unfolding ctr_stream
ctr_text sealed next first text new is made = ap (λ (t : ℕ). with_stream (ctr_stream sealed t) text) (sym is) ∙ sym made
