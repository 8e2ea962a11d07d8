-- That larvals don't wait for each other in a ring.
use Rattle.std.specs.Prelude.{◌≡◌, ℕ, Bool, true, false, ◌==◌, List, [], ◌∷◌, None}
use Rattle.std.specs.List.{list_any}
use Rattle.alg_registry.specs.declared.entry.Looked.{Looked}
use Rattle.alg_registry.specs.declared.entry.Looked.TheVariants.{Pending, Began}
use Rattle.alg_registry.specs.declared.entry.RegEntry.{RegEntry}
use Rattle.alg_registry.specs.Legal.{LegalReg, ended_as}
use Rattle.alg_registry.specs.Made.{Made, looks_for}
use Rattle.templates.specs.Table.{table}

-- the answer of a look names the larval
abbrev pub names_larval : ℕ → Looked → Bool
names_larval m (Pending larval) = larval == m
names_larval m (Began larval) = larval == m
names_larval m _ = false

-- A larval waits for another: a look for one of its children came to that one, which hasn't ended.
abbrev pub WaitsFor : List RegEntry → ℕ → ℕ → Type 0
WaitsFor h n m = (list_any (names_larval m) (looks_for n [] h) ≡ true) × (ended_as h m ≡ None)

-- the first waits for the next, that one for the next, and so on to the last
abbrev pub WaitInRow : List RegEntry → ℕ → List ℕ → ℕ → Type 0
WaitInRow h n [] m = WaitsFor h n m
WaitInRow h n (k ∷ between) m = WaitsFor h n k × WaitInRow h k between m

-- no larval waits for itself, through whatever others
abbrev pub NoRing : List RegEntry → Type 0
NoRing h = LegalReg h → Made table h → (n : ℕ) (between : List ℕ) → WaitInRow h n between n → ⊥
