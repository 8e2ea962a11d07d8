-- Texts that are told from marks by their first byte.
use Rattle.std.proofs.Common.{◌≡◌, ◌∙◌, refl, ap, ℕ, Bool, true, false, not, cond, List, [], ◌∷◌, length, arith}
use Rattle.std.proofs.lemmas.List.Splits.{slice_split-cons_no}
use Rattle.std.specs.Prelude.{◌==◌, ◌&&◌, ◌||◌, filter, codes}
use Rattle.std.specs.List.{onto_first, slice_split}
use Rattle.std.specs.Str.{bytes_eq}
use Rattle.script_text.specs.Parts.{is_mark_token, may_be_mark}
use Rattle.script_text.specs.Tokens.{is_blank, tokens_of}
use Rattle.script_text.proofs.PlaceLemmas.{part_first, positive}

abbrev filled : List (List ℕ) → List (List ℕ)
filled parts = filter (λ part. not (length part == 0)) parts

-- a first token that doesn't begin with a percent sign
other_token : (b : ℕ) (part : List ℕ) (tokens : List (List ℕ)) → (b == 37) ≡ false → is_mark_token ((b ∷ part) ∷ tokens) ≡ false
other_token b part [] other = ap (λ c. c && bytes_eq part (codes "%")) other
other_token b part (token ∷ tokens) other = refl

begins_other : (b : ℕ) (part : List ℕ) (parts : List (List ℕ)) → (b == 37) ≡ false → is_mark_token (filled ((b ∷ part) ∷ parts)) ≡ false
begins_other b part parts other =
    ap is_mark_token
    (part_first (b ∷ part) parts ∙ ap (λ c. cond c (filled parts) ((b ∷ part) ∷ filled parts)) (positive (length (b ∷ part)) (omega arith)))
    ∙ other_token b part (filled parts) other

onto_other : (b : ℕ) (parts : List (List ℕ)) → (b == 37) ≡ false → is_mark_token (filled (onto_first b parts)) ≡ false
onto_other b [] other = begins_other b [] [] other
onto_other b (part ∷ parts) other = begins_other b part parts other

behind_other : (b : ℕ) (text : List ℕ) → (b == 37) ≡ false → is_blank b ≡ false → is_mark_token (tokens_of (b ∷ text)) ≡ false
behind_other b text other apart =
    ap (λ parts. is_mark_token (filled parts)) (slice_split-cons_no is_blank b text apart) ∙ onto_other b (slice_split is_blank text) other

neither : (a b : Bool) → (a || b) ≡ false → (a ≡ false) × (b ≡ false)
neither true b e = absurd (cc)
neither false b e = (refl, e)

pub unmarked : (text : List ℕ) → may_be_mark text ≡ false → is_mark_token (tokens_of text) ≡ false
unmarked [] e = refl
unmarked (b ∷ text) e = (let both = neither (b == 37) (is_blank b) e in behind_other b text both.0 both.1)
