use Rattle.std.proofs.Common.{◌≡◌, ◌++◌, take, drop, length}
use Rattle.sg_walk.specs.Segments.{cut_sizes}
use Rattle.sg_walk.proofs.sizes.shorten_each.Given as goal

-- the sizes that were cut, and what is to be kept of those that are left
abbrev pub invariant-loop-size : goal.invariant-loop-size
invariant-loop-size l = record {
  cut : take l.size-index l.sizes ++ cut_sizes l.rest (drop l.size-index l.sizes) ≡ cut_sizes l.len l.fn.sizes;
  same : length l.sizes ≡ length l.fn.sizes;
}
