use Rattle.std.proofs.Common.{◌≡◌, ℕ, ◌-◌, ◌∷◌, [], arith, refl}
use Rattle.alg_names.specs.Name.{node, end}
use Rattle.alg_names.specs.Reader.{Reading, lost, reading, begins, in_word, closed, step}
use Rattle.alg_names.specs.Scan.{Shows}
use Rattle.alg_names.specs.declared.grammar.Spot.{Spot}
use Rattle.alg_names.specs.declared.grammar.Spot.TheVariants.{Begins, InWord, Closed}
use Rattle.alg_names.proofs.Growing.{reach_comma, reach_close}
use Rattle.alg_names.proofs.grammar.next.Goals as goal
use Rattle.alg_names.proofs.grammar.next.Goals.{in-Begins, in_default-matches}

comma : (r : Reading) (spot : Spot) (n l : ℕ) → Shows r (record { spot = spot; unclosed = n; levels = l }) → (spot ≡ Begins → ⊥) → (n ≡ 0 → ⊥) → Shows (step r 44) (record { spot = Begins; unclosed = n; levels = l })
comma lost spot n l h a k = h
comma (reading fs begins) Begins n l h a k = absurd (a refl)
comma (reading fs begins) InWord n l h a k = absurd h.2
comma (reading fs begins) Closed n l h a k = absurd h.2
comma (reading [] (in_word w)) spot n l h a k = absurd (k h.0)
comma (reading (f ∷ fs) (in_word w)) spot n l h a k = (h.0, omega (arith, h.1, reach_comma f fs (node w end)), tt)
comma (reading [] (closed t)) spot n l h a k = absurd (k h.0)
comma (reading (f ∷ fs) (closed t)) spot n l h a k = (h.0, omega (arith, h.1, reach_comma f fs t), tt)

close : (r : Reading) (spot : Spot) (n l : ℕ) → Shows r (record { spot = spot; unclosed = n; levels = l }) → (spot ≡ Begins → ⊥) → (n ≡ 0 → ⊥) → Shows (step r 41) (record { spot = Closed; unclosed = n - 1; levels = l })
close lost spot n l h a k = h
close (reading fs begins) Begins n l h a k = absurd (a refl)
close (reading fs begins) InWord n l h a k = absurd h.2
close (reading fs begins) Closed n l h a k = absurd h.2
close (reading [] (in_word w)) spot n l h a k = absurd (k h.0)
close (reading (f ∷ fs) (in_word w)) spot n l h a k = (omega (arith, h.0), omega (arith, h.1, reach_close f fs (node w end)), tt)
close (reading [] (closed t)) spot n l h a k = absurd (k h.0)
close (reading (f ∷ fs) (closed t)) spot n l h a k = (omega (arith, h.0), omega (arith, h.1, reach_close f fs t), tt)

pub returns-in-44 : goal.returns-in-44
returns-in-44 c r h =
    let k : c.args.scan.spot ≡ Begins → ⊥ = elim c.match-matches-2.branch [ in-Begins w ↦ (λ e. cc) | in_default-matches w ↦ w.in_default-matches.not-Begins ] in
    rw c.in-44.is (comma r c.args.scan.spot c.args.scan.unclosed c.args.scan.levels h k c.if-scan-eq0.false)

pub returns-in-41 : goal.returns-in-41
returns-in-41 c r h =
    let k : c.args.scan.spot ≡ Begins → ⊥ = elim c.match-matches-2.branch [ in-Begins w ↦ (λ e. cc) | in_default-matches w ↦ w.in_default-matches.not-Begins ] in
    rw c.in-41.is (close r c.args.scan.spot c.args.scan.unclosed c.args.scan.levels h k c.if-scan-eq0.false)
