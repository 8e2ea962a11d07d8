-- One run: an instance under cryptd is looked up and built.
use Rattle.std.specs.Prelude.{ℕ, ◌≡◌, true, false, List, [], ◌∷◌, ◌++◌, Option, Some, codes, map, Ok, Err, if◌then◌else◌, slice_set}
use Rattle.std.proofs.Common.{refl, ap}
use Rattle.alg_registry.specs.declared.spec.Kind.TheVariants.{Skcipher}
use Rattle.alg_registry.specs.declared.spec.Wrap.TheVariants.{Plain, Cryptd}
use Rattle.alg_registry.specs.declared.spec.Spec.{Spec}
use Rattle.alg_registry.specs.declared.entry.Looked.TheVariants.{Found, Began}
use Rattle.alg_registry.specs.declared.entry.EndAnswer.{EndAnswer}
use Rattle.alg_registry.specs.declared.entry.EndAnswer.TheVariants.{Built}
use Rattle.alg_registry.specs.declared.entry.RegEntry.{RegEntry}
use Rattle.alg_registry.specs.declared.entry.RegEntry.TheVariants.{Look, Claim, End, Get, Put, Unlist}
use Rattle.alg_registry.specs.Rows.{references_of, is_held_at}
use Rattle.std.specs.Str.{bytes_eq}
use Rattle.kc_base.specs.declared.error_numbers.Errno.TheVariants.{ENOENT}
use Rattle.alg_registry.specs.Made.{Templates, Made}
use Rattle.alg_registry.specs.Legal.{LegalReg}

abbrev pub cbc_spec : Spec
cbc_spec = record { name = codes "cbc(aes)"; driver = codes "cbc(aes-generic)"; kind = Skcipher; wrap = Plain; priority = 100; below = 0 ∷ [] }

abbrev pub cryptd_spec : Spec
cryptd_spec = record { name = codes "cbc(aes)"; driver = codes "cryptd(cbc(aes-generic))"; kind = Skcipher; wrap = Cryptd; priority = 150; below = 3 ∷ [] }

abbrev pub run : List RegEntry
run =
    Look 0 (codes "cryptd(cbc(aes))") false (Began 0)
    ∷ Claim 0 0
    ∷ Look 0 (codes "cbc(aes)") true (Began 1)
    ∷ Claim 0 1
    ∷ Look 0 (codes "aes") true (Found 0)
    ∷ End 0 1 (Built 3 cbc_spec)
    ∷ End 0 0 (Built 4 cryptd_spec)
    ∷ Get 0 4 true
    ∷ []

-- the run is legal, entry by entry
pub run_legal : LegalReg run
run_legal = (
  (refl, refl),
  (
    (refl, refl),
    (
      (refl, refl),
      (
        (refl, refl),
        ((refl, refl), ((refl, refl, refl), ((refl, refl, refl), ((refl, refl), tt)))),
      ),
    ),
  ),
)

-- the run with another entry in the place of one
abbrev pub with_entry : ℕ → RegEntry → List RegEntry
with_entry place entry = slice_set run place entry

-- the first look is a worker's, who may look for a child alone
abbrev pub asked_by_worker : List RegEntry
asked_by_worker = with_entry 0 (Look 1 (codes "cryptd(cbc(aes))") false (Began 0))

pub asked_by_worker_illegal : LegalReg asked_by_worker → ⊥
asked_by_worker_illegal legal = cc (legal.0.0)

-- the first claim is of a larval that hasn't begun
abbrev pub claimed_early : List RegEntry
claimed_early = with_entry 1 (Claim 0 1)

pub claimed_early_illegal : LegalReg claimed_early → ⊥
claimed_early_illegal legal = cc (legal.1.0.0)

-- the second look begins a larval of a number that was used
abbrev pub began_again : List RegEntry
began_again = with_entry 2 (Look 0 (codes "cbc(aes)") true (Began 0))

pub began_again_illegal : LegalReg began_again → ⊥
began_again_illegal legal = cc (legal.1.1.0.1)

-- the second claim is of the larval that was claimed before
abbrev pub claimed_twice : List RegEntry
claimed_twice = with_entry 3 (Claim 0 0)

pub claimed_twice_illegal : LegalReg claimed_twice → ⊥
claimed_twice_illegal legal = cc (legal.1.1.1.0.1)

-- the third look finds another entry than the one of that name
abbrev pub found_another : List RegEntry
found_another = with_entry 4 (Look 0 (codes "aes") true (Found 1))

pub found_another_illegal : LegalReg found_another → ⊥
found_another_illegal legal = cc (legal.1.1.1.1.0.1)

-- the first end is by a caller that didn't claim the larval
abbrev pub ended_by_another : List RegEntry
ended_by_another = with_entry 5 (End 1 1 (Built 3 cbc_spec))

pub ended_by_another_illegal : LegalReg ended_by_another → ⊥
ended_by_another_illegal legal = cc (legal.1.1.1.1.1.0.0)

-- the second end registers its instance under an id that was used
abbrev pub built_again : List RegEntry
built_again = with_entry 6 (End 0 0 (Built 3 cryptd_spec))

pub built_again_illegal : LegalReg built_again → ⊥
built_again_illegal legal = cc (legal.1.1.1.1.1.1.0.2)

-- the reference is refused although the entry is listed
abbrev pub refused_reference : List RegEntry
refused_reference = with_entry 7 (Get 0 4 false)

pub refused_reference_illegal : LegalReg refused_reference → ⊥
refused_reference_illegal legal = cc (legal.1.1.1.1.1.1.1.0.1)

-- an instance whose driver of a child was unlisted is found no more
abbrev pub after_unlist : List RegEntry
after_unlist = run ++ Unlist 0 (codes "aes-generic") (Some 0) ∷ Look 0 (codes "cbc(aes)") true (Began 2) ∷ Get 0 4 false ∷ []

pub after_unlist_legal : LegalReg after_unlist
after_unlist_legal = (
  (refl, refl),
  (
    (refl, refl),
    (
      (refl, refl),
      (
        (refl, refl),
        (
          (refl, refl),
          (
            (refl, refl, refl),
            ((refl, refl, refl), ((refl, refl), ((refl, refl), ((refl, refl), ((refl, refl), tt))))),
          ),
        ),
      ),
    ),
  ),
)

abbrev pub found_after_unlist : List RegEntry
found_after_unlist = run ++ Unlist 0 (codes "aes-generic") (Some 0) ∷ Look 0 (codes "cbc(aes)") true (Found 3) ∷ []

pub found_after_unlist_illegal : LegalReg found_after_unlist → ⊥
found_after_unlist_illegal legal = cc (legal.1.1.1.1.1.1.1.1.1.0.1)

-- the references that callers and held entries have at the end of the run
pub run_references : map (references_of run) (0 ∷ 1 ∷ 2 ∷ 3 ∷ 4 ∷ 5 ∷ []) ≡ 1 ∷ 0 ∷ 0 ∷ 1 ∷ 1 ∷ 0 ∷ []
run_references = refl

-- after the only reference is given back, what isn't listed is gone, down to the driver
pub all_gone : map (is_held_at (run ++ Unlist 0 (codes "aes-generic") (Some 0) ∷ Put 0 4 ∷ [])) (0 ∷ 1 ∷ 2 ∷ 3 ∷ 4 ∷ 5 ∷ []) ≡ false ∷ true ∷ true ∷ false ∷ false ∷ false ∷ []
all_gone = refl

pub none_gone : map (is_held_at (run ++ Unlist 0 (codes "aes-generic") (Some 0) ∷ [])) (0 ∷ 1 ∷ 2 ∷ 3 ∷ 4 ∷ 5 ∷ []) ≡ true ∷ true ∷ true ∷ true ∷ true ∷ false ∷ []
none_gone = refl

-- a table of two templates, for the run
abbrev pub two_templates : Templates
two_templates = record {
  is_name = λ text. true;
  is_driver = λ spec. true;
  children = λ text. if bytes_eq text (codes "cryptd(cbc(aes))") then Ok (codes "cbc(aes)" ∷ []) else (if bytes_eq text (codes "cbc(aes)") then Ok (codes "aes" ∷ []) else Err ENOENT);
  derived = λ text below. if bytes_eq text (codes "cbc(aes)") then Ok (record cbc_spec { below = map (λ b. b.0) below }) else Ok (record cryptd_spec { below = map (λ b. b.0) below });
}

pub run_made : Made two_templates run
run_made = ((refl), (tt, ((refl, refl), (tt, ((refl, refl), (refl, (refl, (tt, tt))))))))

-- an end by an instance over another entry than was found is none
abbrev pub wrong_child : List RegEntry
wrong_child = Look 0 (codes "cbc(aes)") false (Began 0) ∷ Claim 0 0 ∷ Look 0 (codes "aes") true (Found 0) ∷ End 0 0 (Built 3 (record cbc_spec { below = 1 ∷ [] })) ∷ []

zero_not_one : (let n : ℕ = 0 in n) ≡ 1 → ⊥
zero_not_one e = cc

abbrev first_of_list : List ℕ → ℕ
first_of_list [] = 7
first_of_list (x ∷ xs) = x

abbrev first_below : Option EndAnswer → ℕ
first_below (Some (Built id spec)) = first_of_list spec.below
first_below _ = 8

pub wrong_child_not_made : Made two_templates wrong_child → ⊥
wrong_child_not_made made = zero_not_one (ap (λ (o : Option EndAnswer). first_below o) made.1.1.1.0)

-- nor is one before the child was looked for
abbrev pub too_early : List RegEntry
too_early = Look 0 (codes "cbc(aes)") false (Began 0) ∷ Claim 0 0 ∷ End 0 0 (Built 3 cbc_spec) ∷ []

pub too_early_not_made : Made two_templates too_early → ⊥
too_early_not_made made = cc (made.1.1.0)
