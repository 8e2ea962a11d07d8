use Rattle.std.proofs.Common.{◌≡◌, take}
use Rattle.alg_names.specs.Reader.{run, start, IsNarrow}
use Rattle.alg_names.specs.Drafts.{reading_of}
use Rattle.alg_names.proofs.parser.build.Given as goal

abbrev pub invariant-loop-byte : goal.invariant-loop-byte
invariant-loop-byte l = record {
  read : reading_of l.draft ≡ run start (take l.byte-index l.text);
  narrow : IsNarrow (reading_of l.draft);
}
