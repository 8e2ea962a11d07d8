use Rattle.std.proofs.Common.{◌≡◌, ◌%◌, length}
use Rattle.std.specs.List.{slice_split}
use Rattle.script_text.specs.Arguments.{hexes_of, is_bar}
use Rattle.script_text.specs.InSegments.{in_segments}
use Rattle.script_text.proofs.PartLemmas.{still}
use Rattle.script_text.proofs.arguments.parts_of.Given as goal

-- the digits so far and the parts that are left are all
abbrev pub invariant-loop-end : goal.invariant-loop-end
invariant-loop-end l = record {
  even : length l.parts.digits.items % 2 ≡ 0;
  all : in_segments (hexes_of (slice_split is_bar l.token)) ≡ still l.parts.digits.items l.parts.sizes.items (slice_split is_bar l.left);
}

abbrev pub decreases-loop-end : goal.decreases-loop-end
decreases-loop-end l = length l.left
