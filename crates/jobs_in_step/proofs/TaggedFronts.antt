-- A text whose front was sealed, and a tag behind it.
use Rattle.std.proofs.Common.{◌≡◌, ℕ, ◌+◌, ◌≤◌, List, ◌++◌, length, take, drop, true, refl, sym, ap, ◌∙◌, arith, Option, Some, length-append, length-drop}
use Rattle.std.proofs.lemmas.List.{drop-drop}
use Rattle.std.proofs.Math.Seq.{take-append_seam, drop-append_seam}
use Rattle.std.specs.Option.{option_map}
use Rattle.std_defs.specs.Aes.{seal}
use Rattle.std_defs.specs.Authenc.{authenc_seal}
use Rattle.std_defs.specs.Modes.{cbc_seal}
use Rattle.std_defs.specs.Value.{or_invalid}
use Rattle.std_defs.specs.Value.Value.{bytes}
use Rattle.transforms.specs.Asked.{TakesInput, kind_takes}
use Rattle.transforms.specs.Forms.{key_of}
use Rattle.transforms.specs.InPlace.{sealing}
use Rattle.transforms.specs.Plans.{PlanKind}
use Rattle.transforms.specs.Plans.PlanKind.{aead}
use Rattle.transforms.specs.Tagged.{tagged}
use Rattle.transforms.specs.declared.any_aes.AnyAes.{AnyAes}
use Rattle.transforms.specs.declared.request.Dir.TheVariants.{Enc}
use Rattle.transforms.specs.declared.request.Request.{Request}
use Rattle.jobs_in_step.specs.Steps.{authenc_gives, cbc_gives}

-- no tag
module _ (old new : List ℕ) (len n : ℕ) (none : n ≤ 0) where
  no_more : len + n ≡ len
  no_more = omega (arith, none)

  pub plain_front : (aes : AnyAes) (iv aad : List ℕ) → cbc_seal (seal (key_of aes)) iv (take len old) ≡ Some (take len new)
      → bytes (take (len + n) new) ≡ cbc_gives aes n (sealing iv aad (take len old))
  plain_front aes iv aad made = ap (λ (k : ℕ). bytes (take k new)) no_more ∙ sym (ap or_invalid made)

  pub plain_rest : drop len new ≡ drop len old → drop (len + n) new ≡ drop (len + n) old
  plain_rest same = ap (λ (k : ℕ). drop k new) no_more ∙ same ∙ ap (λ (k : ℕ). drop k old) (sym no_more)

-- the first n bytes of a tag behind what was sealed
module _ (old mid new tag : List ℕ) (len n : ℕ) (within : len + n ≤ length mid) (long : length new ≡ length mid)
    (put : new ≡ take len mid ++ take n tag ++ drop (len + n) mid) where
  abbrev made : List ℕ
  made = take len mid ++ take n tag

  parts : new ≡ made ++ drop (len + n) mid
  parts = put

  size : length made ≡ len + n
  size = omega (arith, ap length parts, length-append made (drop (len + n) mid), length-drop (len + n) mid, within, long)

  pub tagged_front : (block : List ℕ) (aes : AnyAes) (iv aad : List ℕ) → authenc_seal block (cbc_seal (seal (key_of aes)) iv) aad (take len old) ≡ Some (take len mid, tag)
      → bytes (take (len + n) new) ≡ authenc_gives block aes n (sealing iv aad (take len old))
  tagged_front block aes iv aad sealed =
      ap bytes (ap (take (len + n)) parts ∙ ap (λ (k : ℕ). take k (made ++ drop (len + n) mid)) (sym size) ∙ take-append_seam made (drop (len + n) mid))
      ∙ sym (ap (λ (o : Option (List ℕ × List ℕ)). or_invalid (option_map (tagged n) o)) sealed)

  pub tagged_rest : drop len mid ≡ drop len old → drop (len + n) new ≡ drop (len + n) old
  tagged_rest same =
      ap (drop (len + n)) parts ∙ ap (λ (k : ℕ). drop k (made ++ drop (len + n) mid)) (sym size) ∙ drop-append_seam made (drop (len + n) mid)
      ∙ (sym (drop-drop n len mid) ∙ ap (drop n) same ∙ drop-drop n len old)

-- the requests that are taken
pub authenc_takes : (kind : PlanKind) (input : TakesInput) (size n : ℕ) (q : Request) → kind ≡ aead → size ≡ 16
    → input q.iv (length q.aad) (length q.text.text) ≡ true → q.dir ≡ Enc → length q.iv ≡ 16 → kind_takes kind input size n q ≡ true
authenc_takes kind input size n q is s i d v = rw (is, d, v, s, i) refl
