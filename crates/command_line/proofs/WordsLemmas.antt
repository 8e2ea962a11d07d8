-- The command line is one of which `clap` says exactly what it accepts.
use Rattle.std.proofs.Common.{◌≡◌, ◌∙◌, Bool, Option, ap}
use Rattle.clap.specs.Words.{Text}
use Rattle.command_line.specs.CommandLine.{mode_by}

pub same_mode : {w x n o l m c d : Option Text} {t u : Bool} → w ≡ x → t ≡ u → n ≡ o → l ≡ m → c ≡ d → mode_by w t n l c ≡ mode_by x u o m d
same_mode {w} {x} {n} {o} {l} {m} {c} {d} {t} {u} a b g e f =
    ap (λ y. mode_by y t n l c) a ∙ (ap (λ y. mode_by x y n l c) b ∙ (ap (λ y. mode_by x u y l c) g ∙ (ap (λ y. mode_by x u o y c) e ∙ ap (λ y. mode_by x u o m y) f)))
