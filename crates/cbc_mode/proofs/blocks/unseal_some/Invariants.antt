use Rattle.std.proofs.Common.{◌≡◌, ◌++◌, ◌*◌, drop}
use Rattle.std_defs.specs.Blocks.{joined}
use Rattle.std_defs.specs.Modes.{cbc_before, cbc_plain_block}
use Rattle.cbc_mode.proofs.blocks.unseal_some.Given as goal

abbrev pub invariant-loop-j : goal.invariant-loop-j
invariant-loop-j g l = record {
  made : l.text ≡ joined (cbc_plain_block (g.C.BlockCipher.unsealed l.cipher) l.fn.before l.fn.text) l.j ++ drop (16 * l.j) l.fn.text;
  last : l.previous ≡ cbc_before l.fn.before l.fn.text l.j;
}
