use Rattle.std.proofs.Common.{◌≡◌, take}
use Rattle.aes_block.proofs.tag.tags_differ.Given as goal

abbrev pub invariant-loop-i : goal.invariant-loop-i
invariant-loop-i l = record {
  same : l.differences ≡ 0 → take l.i l.full ≡ take l.i l.tag;
  back : take l.i l.full ≡ take l.i l.tag → l.differences ≡ 0;
}
