use Rattle.std.proofs.Common.{◌∙◌, ap, sym, List, ℕ, ◌++◌}
use Rattle.std_defs.specs.Blocks.{block_number}
use Rattle.ctr_mode.specs.Texts.{row}
use Rattle.ctr_mode.proofs.Growing.{ctr-more, on_more}
use Rattle.ctr_mode.proofs.text.CtrText.apply.Goals as goal

pub returns : goal.returns
returns g c = λ first t made held.
    let s = c.args.self.now in
    let d = c.args.piece.now in (
      on_more (block_number first) s.stream.1 c.apply.new.self.1 (row s.stream.0.next) (row c.apply.new.self.0.next) t d held.0 c.apply.ensures.on,
      ap (λ (v : List ℕ). v ++ c.apply.new.text) held.1
          ∙ sym (ctr-more (g.C.BlockCipher.sealed c.args.cipher.now) first t d c.apply.new.text (row s.stream.0.next) s.stream.1 held.0 c.apply.ensures.text),
    )
