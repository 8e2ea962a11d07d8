-- Two callers build side by side.
use Rattle.std.specs.Prelude.{true, false, List, [], ◌∷◌, codes}
use Rattle.kc_base.specs.declared.error_numbers.Errno.TheVariants.{EINVAL}
use Rattle.alg_registry.specs.declared.entry.Looked.TheVariants.{Found, Pending, Began}
use Rattle.alg_registry.specs.declared.entry.EndAnswer.TheVariants.{Built, Joined, Failed}
use Rattle.alg_registry.specs.declared.entry.RegEntry.{RegEntry}
use Rattle.alg_registry.specs.declared.entry.RegEntry.TheVariants.{Look, Claim, End, Waited}
use Rattle.templates.specs.Trial.{cbc_spec}

-- Caller 0 looks for `cbc(aes)` by two texts, and for a name that has no instance. Worker 1 builds the first and the
-- last, caller 0 the second, which joins the first.
abbrev pub side_by_side : List RegEntry
side_by_side =
    Look 0 (codes "cbc(aes)") false (Began 0)
    ∷ Look 0 (codes "cbc(aes-generic)") false (Began 1)
    ∷ Look 0 (codes "cbc(sha256)") false (Began 2)
    ∷ Claim 1 0
    ∷ Look 0 (codes "cbc(aes)") false (Pending 0)
    ∷ Claim 0 1
    ∷ Look 1 (codes "aes") true (Found 0)
    ∷ Look 0 (codes "aes-generic") true (Found 0)
    ∷ End 1 0 (Built 3 cbc_spec)
    ∷ Claim 1 2
    ∷ End 0 1 (Joined 3 (0 ∷ []))
    ∷ Waited 0 0
    ∷ Look 1 (codes "sha256") true (Found 1)
    ∷ End 1 2 (Failed EINVAL)
    ∷ Waited 0 2
    ∷ []
