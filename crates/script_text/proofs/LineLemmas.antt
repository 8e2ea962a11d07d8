-- The first line of a script, and what follows it.
use Rattle.std.proofs.Common.{◌≡◌, ℕ, ◌+◌, ◌<◌, ◌≤◌, Bool, true, false, not, cond, List, [], ◌∷◌, length, get_or, inl, inr, refl, sym, ap, ◌∙◌, arith, map, subst}
use Rattle.std.proofs.lemmas.Bool.Decides.{nat_tests}
use Rattle.std.proofs.lemmas.Bool.{cases_Bool, cases_lt, false≢true}
use Rattle.std.proofs.lemmas.List.Sums.{prefix_len_passes, prefix_len_stops}
use Rattle.std.proofs.lemmas.List.Elements.{All-from_get_or, All-contains, Contains-get_or}
use Rattle.std.specs.List.{onto_first, position_or_len, All, Contains}
use Rattle.script_text.specs.Lines.{is_feed, lines_of}
use Rattle.script_text.specs.Script.{line_of, script_of}
use Rattle.script_text.specs.declared.commands.Line.{Line}

lines_at_feed : (b : ℕ) (bs : List ℕ) → is_feed b ≡ true → lines_of (b ∷ bs) ≡ (b ∷ []) ∷ lines_of bs
lines_at_feed b bs hit = ap (λ c. cond c ((b ∷ []) ∷ lines_of bs) (onto_first b (lines_of bs))) hit

lines_at_other : (b : ℕ) (bs : List ℕ) → is_feed b ≡ false → lines_of (b ∷ bs) ≡ onto_first b (lines_of bs)
lines_at_other b bs miss = ap (λ c. cond c ((b ∷ []) ∷ lines_of bs) (onto_first b (lines_of bs))) miss

place_at_feed : (b : ℕ) (bs : List ℕ) → is_feed b ≡ true → position_or_len is_feed (b ∷ bs) ≡ 0
place_at_feed b bs hit = ap (λ c. cond (not c) (1 + position_or_len is_feed bs) 0) hit

place_at_other : (b : ℕ) (bs : List ℕ) → is_feed b ≡ false → position_or_len is_feed (b ∷ bs) ≡ 1 + position_or_len is_feed bs
place_at_other b bs miss = ap (λ c. cond (not c) (1 + position_or_len is_feed bs) 0) miss

-- without a line feed there is one line
pub lone_line : (bytes : List ℕ) → 0 < length bytes → length bytes ≤ position_or_len is_feed bytes → lines_of bytes ≡ bytes ∷ []
lone_line [] some le = absurd (omega (arith, some))
lone_line (b ∷ []) some le =
    elim (cases_Bool (is_feed b)) [
      | inl hit ↦ lines_at_feed b [] hit
      | inr miss ↦ lines_at_other b [] miss
    ]
lone_line (b ∷ c ∷ cs) some le =
    elim (cases_Bool (is_feed b)) [
      | inl hit ↦ (let at : position_or_len is_feed (b ∷ c ∷ cs) ≡ 0 = place_at_feed b (c ∷ cs) hit in absurd (omega (arith, at, le)))
      | inr miss ↦ (
          let at : position_or_len is_feed (b ∷ c ∷ cs) ≡ 1 + position_or_len is_feed (c ∷ cs) = place_at_other b (c ∷ cs) miss in
          lines_at_other b (c ∷ cs) miss ∙ ap (onto_first b) (lone_line (c ∷ cs) (omega arith) (omega (arith, at, le))))
    ]

pub not_is : (b : Bool) → not b ≡ true → b ≡ false
not_is true e = sym e
not_is false e = refl

none_passes : (bytes : List ℕ) → length bytes ≤ position_or_len is_feed bytes → All (λ b. is_feed b ≡ false) bytes
none_passes bytes le =
    All-from_get_or (λ b. is_feed b ≡ false) bytes 0 (λ k below. not_is _ (prefix_len_passes (λ b. not (is_feed b)) bytes k 0 (omega arith)))

pub is_ten : (x : ℕ) → not (is_feed x) ≡ false → x ≡ 10
is_ten x e = grind (arith, nat_tests)

-- a line feed that was found
pub has_feed : (bytes : List ℕ) → position_or_len is_feed bytes < length bytes → Contains bytes 10
has_feed bytes lt =
    let p = position_or_len is_feed bytes in
    subst (Contains bytes) (is_ten (get_or bytes p 0) (prefix_len_stops (λ b. not (is_feed b)) bytes 0 lt)) (Contains-get_or bytes p 0 lt)

pub no_feed : (bytes : List ℕ) → length bytes ≤ position_or_len is_feed bytes → Contains bytes 10 → ⊥
no_feed bytes le has = false≢true (sym (All-contains (λ b. is_feed b ≡ false) bytes 10 (none_passes bytes le) has))

-- where no line feed stands, the bytes are one line
pub line_without_feed : (bytes : List ℕ) → 0 < length bytes → (Contains bytes 10 → ⊥) → lines_of bytes ≡ bytes ∷ []
line_without_feed bytes some none =
    elim (cases_lt (position_or_len is_feed bytes) (length bytes)) [
      | inl lt ↦ absurd (none (has_feed bytes lt))
      | inr le ↦ lone_line bytes some le
    ]

pub lone_script : (bytes : List ℕ) (said : Line) → 0 < length bytes → (Contains bytes 10 → ⊥) → said ≡ line_of bytes → script_of bytes ≡ said ∷ []
lone_script bytes said some none said_is = ap (map line_of) (line_without_feed bytes some none) ∙ ap (λ x. x ∷ []) (sym said_is)
