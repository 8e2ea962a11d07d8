use Rattle.std.proofs.Common.{[], ◌++◌, ◌∷◌, subst, refl}
use Rattle.std.proofs.lemmas.Bool.{eq-eqb}
use Rattle.board.specs.declared.entry.BoardEntry.TheVariants.{Collect}
use Rattle.board.specs.Entries.{entries_of}
use Rattle.board.specs.Order.{AreRightForAfter}
use Rattle.board.proofs.Transfer.{each_right, entries-more}
use Rattle.board.proofs.Handing.{all_out}
use Rattle.board.proofs.laws.collects_hand_out_all.Goals as goal

pub returns : goal.returns
returns g c = λ h p caller to legal finished.
    (let more = entries-more h p (Collect caller p to) (eq-eqb p p refl) in
    rw more (all_out (entries_of p h) caller p to (subst (λ es. AreRightForAfter [] es) more (each_right [] (h ++ Collect caller p to ∷ []) p legal)) finished))
