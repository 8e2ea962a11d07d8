-- Lines cut out of bytes that come in pieces.
use Rattle.std.proofs.Common.{◌≡◌, ℕ, zero, suc, ◌+◌, ◌-◌, ◌<◌, ◌≤◌, ◌&&◌, Bool, true, false, not, cond, List, [], ◌∷◌, length, take, drop, get_or, Option, Some, None, inl, inr, refl, sym, ap, ap₂, ◌∙◌, arith, ◌++◌, map, subst, append-nil, append_assoc, length-append, add-one}
use Rattle.std.specs.Prelude.{nat_lt, ◌==◌, if◌then◌else◌, filter, slice_index, MatchOption, MatchBool, is_some}
use Rattle.memchr.specs.Find.{IsFirstByte}
use Rattle.std.proofs.lemmas.Bool.Decides.{nat_tests}
use Rattle.std.proofs.lemmas.Bool.{cases_Bool, cases_lt, and_parts}
use Rattle.std.proofs.lemmas.List.{take-append-drop, get_or-take, length-take-le}
use Rattle.std.proofs.Math.Seq.{drop-cons, get_or-append_seam}
use Rattle.std.proofs.lemmas.List.Sums.{prefix_len_passes, prefix_len_stops}
use Rattle.std.proofs.lemmas.List.Elements.{All-from_get_or, All-contains, Contains-append_right, Contains-append_cases, Contains-get_or, All-cons, All-nil}
use Rattle.std.specs.List.{onto_first, position_or_len, All, Contains}
use Rattle.script_text.specs.Lines.{is_feed, lines_of, ends_with, without_return, without_last}
use Rattle.script_text.specs.LineCutter.{CutterState, IsPending, IsFirstFeed, CutsNext, CutsLast, kept_of, all_seen, all_begun}
use Rattle.script_text.specs.Script.{line_of, line_of_text, line_of_tokens, script_of}
use Rattle.script_text.specs.Tokens.{tokens_of}
use Rattle.script_text.specs.Whole.{whole_script, AreFirst, WholeLinesStay, NoWholeLine}
use Rattle.script_text.specs.declared.commands.Line.{Line}
use Rattle.script_text.specs.declared.commands.Line.TheVariants.{Malformed}
use Rattle.script_text.proofs.LineLemmas.{is_ten, not_is, no_feed, line_without_feed}
use Rattle.script_text.proofs.PlaceLemmas.{place_found}

-- ---- where a line feed stands

pub lt_true : (m n : ℕ) → m < n → nat_lt m n ≡ true
lt_true m n lt = grind (arith, nat_tests)

pub le_false : (m n : ℕ) → n ≤ m → nat_lt m n ≡ false
le_false m n le = grind (arith, nat_tests)

no_feed_before : (bytes : List ℕ) (p : ℕ) → p ≡ position_or_len is_feed bytes → p ≤ length bytes → Contains (take p bytes) 10 → ⊥
no_feed_before bytes p at le has =
    let long = length-take-le p bytes le in
    let all : All (λ b. is_feed b ≡ false) (take p bytes) =
    All-from_get_or (λ b. is_feed b ≡ false) (take p bytes) 0
    (λ k below. ap is_feed (get_or-take p bytes k 0 (omega arith)) ∙ not_is _ (prefix_len_passes (λ b. not (is_feed b)) bytes k 0 (omega arith))) in
    let bad : true ≡ false = All-contains (λ b. is_feed b ≡ false) (take p bytes) 10 all has in
    cc

pub first_feed : (bytes : List ℕ) (p : ℕ) → p ≡ position_or_len is_feed bytes → p < length bytes → IsFirstFeed bytes p
first_feed bytes p at lt =
    let ten : get_or bytes p 0 ≡ 10 = ap (λ n. get_or bytes n 0) at ∙ is_ten (get_or bytes (position_or_len is_feed bytes) 0) (prefix_len_stops (λ b. not (is_feed b)) bytes 0 (omega (arith, at))) in
    record {
      below = lt;
      no_feed = no_feed_before bytes p at (omega arith);
      bytes_are =
          sym (take-append-drop p bytes)
          ∙ ap (λ xs. take p bytes ++ xs) (drop-cons bytes p 0 lt ∙ ap₂ (λ x n. x ∷ drop n bytes) ten (sym (add-one p)));
    }

-- what a search answers
pub feed_found : (bytes : List ℕ) (answer : Option ℕ) → IsFirstByte is_feed bytes answer → MatchOption answer (Contains bytes 10 → ⊥) (IsFirstFeed bytes)
feed_found bytes None none = let at = place_found is_feed bytes None none in no_feed bytes (omega (arith, at))
feed_found bytes (Some place) found = first_feed bytes place (place_found is_feed bytes (Some place) found) found.0.high

pub no_feed_in : (xs ys : List ℕ) → (Contains xs 10 → ⊥) → (Contains ys 10 → ⊥) → Contains (xs ++ ys) 10 → ⊥
no_feed_in xs ys a b has = elim (Contains-append_cases xs ys 10 has) [ inl l ↦ a l | inr r ↦ b r ]

-- whether a search finds one says whether one is pending, since the line that has begun has none
pub pending_feed : (unseen : List ℕ) (answer : Option ℕ) → MatchOption answer (Contains unseen 10 → ⊥) (IsFirstFeed unseen)
    → (bytes : List ℕ) (kept : CutterState) → kept.unseen ≡ unseen → IsPending bytes kept → MatchBool (is_some answer) (Contains bytes 10) (Contains bytes 10 → ⊥)
pending_feed unseen None none bytes kept same is =
    λ has. no_feed_in is.begun kept.unseen is.no_feed (subst (λ xs. Contains xs 10 → ⊥) (sym same) none) (subst (λ xs. Contains xs 10) is.bytes_are has)
pending_feed unseen (Some place) found bytes kept same is =
    let before = take place unseen in
    let there : Contains unseen 10 = subst (λ xs. Contains xs 10) (sym found.bytes_are) (Contains-append_right before (10 ∷ drop (place + 1) unseen) 10 (0, omega arith, refl)) in
    subst (λ xs. Contains xs 10) (sym is.bytes_are) (Contains-append_right is.begun kept.unseen 10 (subst (λ xs. Contains xs 10) (sym same) there))

pub none_in_none : Contains {X = ℕ} [] 10 → ⊥
none_in_none has = absurd (omega (arith, has.1))

lt_from_true : (m n : ℕ) → nat_lt m n ≡ true → m < n
lt_from_true m n e = grind (arith, nat_tests)

eqb-eq : (m n : ℕ) → (m == n) ≡ true → m ≡ n
eqb-eq m n e = grind (arith, nat_tests)

-- ---- what is kept

kept_short : (begun xs : List ℕ) → kept_of begun ≡ Some xs → begun ≡ xs
kept_short begun xs e =
    elim (cases_lt 65536 (length begun)) [
      | inl lt ↦ (let none : kept_of begun ≡ None = ap (λ c. cond c None (Some begun)) (lt_true 65536 (length begun) lt) in let bad : None ≡ Some xs = sym none ∙ e in absurd cc)
      | inr le ↦ (let some : kept_of begun ≡ Some begun = ap (λ c. cond c None (Some begun)) (le_false 65536 (length begun) le) in let is : Some begun ≡ Some xs = sym some ∙ e in cc)
    ]

-- what was kept and what was unseen are kept together
kept_on : (begun unseen : List ℕ) → all_begun (kept_of begun) unseen ≡ kept_of (begun ++ unseen)
kept_on begun unseen =
    elim (cases_lt 65536 (length begun)) [
      | inl lt ↦ (
          let long = length-append begun unseen in
          ap (λ c. all_begun (cond c None (Some begun)) unseen) (lt_true 65536 (length begun) lt)
          ∙ sym (ap (λ c. cond c None (Some (begun ++ unseen))) (lt_true 65536 (length (begun ++ unseen)) (omega arith))))
      | inr le ↦ ap (λ c. all_begun (cond c None (Some begun)) unseen) (le_false 65536 (length begun) le)
    ]

pub nothing_ends : (old new : CutterState) → new ≡ all_seen old → (Contains old.unseen 10 → ⊥) → CutsNext old new None
nothing_ends old new is none = λ bytes p.
    let free : Contains bytes 10 → ⊥ = λ has. no_feed_in p.begun old.unseen p.no_feed none (subst (λ xs. Contains xs 10) p.bytes_are has) in (
      free,
      record {
        begun = bytes;
        no_feed = free;
        kept_is = ap (λ k. k.begun) is ∙ (ap (λ k. all_begun k old.unseen) p.kept_is ∙ (kept_on p.begun old.unseen ∙ ap kept_of (sym p.bytes_are)));
        bytes_are = sym (append-nil bytes) ∙ ap (λ xs. bytes ++ xs) (sym (ap (λ k. k.unseen) is));
      },
    )

-- ---- what a line says that is too long

pub ends_feed : (text : List ℕ) → ends_with 10 (text ++ 10 ∷ []) ≡ true
ends_feed text =
    let long = length-append text (10 ∷ []) in
    let at : length (text ++ 10 ∷ []) - 1 ≡ length text = omega arith in
    let ten : slice_index (text ++ 10 ∷ []) (length (text ++ 10 ∷ []) - 1) ≡ 10 = ap (λ n. get_or (text ++ 10 ∷ []) n 0) at ∙ get_or-append_seam text 10 [] 0 in
    ap₂ (λ b n. b && (n == 10)) (lt_true 0 (length (text ++ 10 ∷ [])) (omega arith)) ten

-- without a line feed none is at the end
pub ends_none : (bytes : List ℕ) → (Contains bytes 10 → ⊥) → ends_with 10 bytes ≡ false
ends_none bytes none =
    elim (cases_Bool (ends_with 10 bytes)) [
      | inl hit ↦ (
          let parts = and_parts (nat_lt 0 (length bytes)) (slice_index bytes (length bytes - 1) == 10) hit in
          let some : 0 < length bytes = lt_from_true 0 (length bytes) parts.0 in
          let ten : get_or bytes (length bytes - 1) 0 ≡ 10 = eqb-eq (get_or bytes (length bytes - 1) 0) 10 parts.1 in
          absurd (none (subst (Contains bytes) ten (Contains-get_or bytes (length bytes - 1) 0 (omega arith)))))
      | inr miss ↦ miss
    ]

long_text : (n : ℕ) (text : List ℕ) → 65536 < n → line_of_text n text ≡ Malformed
long_text n text lt = ap (λ c. cond c Malformed (line_of_tokens (tokens_of text))) (lt_true 65536 n lt)

long_case : (c : Bool) (n : ℕ) (text whole : List ℕ) → 65537 < n → cond c (line_of_text (n - 1) text) (line_of_text n whole) ≡ Malformed
long_case true n text whole lt = long_text (n - 1) text (omega arith)
long_case false n text whole lt = long_text n whole (omega arith)

pub long_line : (line : List ℕ) → 65537 < length line → line_of line ≡ Malformed
long_line line lt = long_case (ends_with 10 line) (length line) (without_return (without_last line)) line lt

-- a last line
pub long_last : (bytes : List ℕ) → (Contains bytes 10 → ⊥) → 65536 < length bytes → line_of bytes ≡ Malformed
long_last bytes none lt =
    ap (λ c. cond c (line_of_text (length bytes - 1) (without_return (without_last bytes))) (line_of_text (length bytes) bytes)) (ends_none bytes none)
    ∙ long_text (length bytes) bytes lt

-- ---- the next line

-- what the line says: by its bytes, where what had begun of it was kept
pub record Says (begun : Option (List ℕ)) (rest : List ℕ) (said : Line) : Type 0 where
  pub long : begun ≡ None → said ≡ Malformed
  pub line : (xs : List ℕ) → begun ≡ Some xs → said ≡ line_of (xs ++ rest)

says_next : (begun rest : List ℕ) (said : Line) → Says (kept_of begun) (rest ++ 10 ∷ []) said → said ≡ line_of ((begun ++ rest) ++ 10 ∷ [])
says_next begun rest said says =
    elim (cases_lt 65536 (length begun)) [
      | inl lt ↦ (
          let long = length-append begun rest in
          let longer = length-append (begun ++ rest) (10 ∷ []) in
          says.long (ap (λ c. cond c None (Some begun)) (lt_true 65536 (length begun) lt)) ∙ sym (long_line ((begun ++ rest) ++ 10 ∷ []) (omega arith)))
      | inr le ↦ says.line begun (ap (λ c. cond c None (Some begun)) (le_false 65536 (length begun) le)) ∙ ap line_of (sym (append_assoc begun rest (10 ∷ [])))
    ]

pub next_cut : (old new : CutterState) (place : ℕ) (said : Line) → IsFirstFeed old.unseen place → Says old.begun (take place old.unseen ++ 10 ∷ []) said
    → new ≡ record { begun = Some []; unseen = drop (place + 1) old.unseen } → CutsNext old new (Some said)
next_cut old new place said feed says is = λ bytes p. (
  drop (place + 1) old.unseen,
  record {
    text = p.begun ++ take place old.unseen;
    no_feed = no_feed_in p.begun (take place old.unseen) p.no_feed feed.no_feed;
    bytes_are = p.bytes_are ∙ (ap (λ xs. p.begun ++ xs) feed.bytes_are ∙ sym (append_assoc p.begun (take place old.unseen) (10 ∷ drop (place + 1) old.unseen)));
    said_is = says_next p.begun (take place old.unseen) said (subst (λ o. Says o (take place old.unseen ++ 10 ∷ []) said) p.kept_is says);
  },
  record {
    begun = [];
    no_feed = none_in_none;
    kept_is = ap (λ (k : CutterState). k.begun) is;
    bytes_are = sym (ap (λ (k : CutterState). k.unseen) is);
  },
)

-- ---- the last line

pub last_none : (old : CutterState) → old.begun ≡ Some [] → old.unseen ≡ [] → CutsLast old old None
last_none old begun unseen = λ bytes p none. (
  record { begun = []; no_feed = none_in_none; kept_is = begun; bytes_are = sym unseen },
  p.bytes_are ∙ ap₂ (λ xs ys. xs ++ ys) (kept_short p.begun [] (sym p.kept_is ∙ begun)) unseen,
)

says_last : (begun rest : List ℕ) (said : Line) → (Contains (begun ++ rest) 10 → ⊥) → Says (kept_of begun) rest said → said ≡ line_of (begun ++ rest)
says_last begun rest said none says =
    elim (cases_lt 65536 (length begun)) [
      | inl lt ↦ (
          let long = length-append begun rest in
          says.long (ap (λ c. cond c None (Some begun)) (lt_true 65536 (length begun) lt)) ∙ sym (long_last (begun ++ rest) none (omega arith)))
      | inr le ↦ says.line begun (ap (λ c. cond c None (Some begun)) (le_false 65536 (length begun) le))
    ]

some_last : (begun rest : List ℕ) → ((xs : List ℕ) → kept_of begun ≡ Some xs → 0 < length (xs ++ rest)) → 0 < length (begun ++ rest)
some_last begun rest some =
    elim (cases_lt 65536 (length begun)) [
      | inl lt ↦ (let long = length-append begun rest in omega arith)
      | inr le ↦ some begun (ap (λ c. cond c None (Some begun)) (le_false 65536 (length begun) le))
    ]

pub last_cut : (old new : CutterState) (said : Line) → Says old.begun old.unseen said → ((xs : List ℕ) → old.begun ≡ Some xs → 0 < length (xs ++ old.unseen))
    → new ≡ record { begun = Some []; unseen = [] } → CutsLast old new (Some said)
last_cut old new said says some is = λ bytes p none.
    let free : Contains (p.begun ++ old.unseen) 10 → ⊥ = subst (λ xs. Contains xs 10 → ⊥) p.bytes_are none in (
      record { begun = []; no_feed = none_in_none; kept_is = ap (λ (k : CutterState). k.begun) is; bytes_are = sym (ap (λ (k : CutterState). k.unseen) is) },
      (
        says_last p.begun old.unseen said free (subst (λ o. Says o old.unseen said) p.kept_is says) ∙ ap line_of (sym p.bytes_are),
        subst (λ xs. 0 < length xs) (sym p.bytes_are) (some_last p.begun old.unseen (subst (λ o. (xs : List ℕ) → o ≡ Some xs → 0 < length (xs ++ old.unseen)) p.kept_is some)),
      ),
    )

-- ---- the lines of bytes

not_feed : (b : ℕ) (text : List ℕ) → (Contains (b ∷ text) 10 → ⊥) → is_feed b ≡ false
not_feed b text none =
    elim (cases_Bool (is_feed b)) [
      | inl hit ↦ absurd (none (subst (Contains (b ∷ text)) (eqb-eq b 10 hit) (Contains-get_or (b ∷ text) 0 0 (omega arith))))
      | inr miss ↦ miss
    ]

no_feed_one : (b : ℕ) → is_feed b ≡ false → Contains (b ∷ []) 10 → ⊥
no_feed_one b miss has =
    let same : is_feed 10 ≡ false = All-contains (λ x. is_feed x ≡ false) (b ∷ []) 10 (All-cons (λ x. is_feed x ≡ false) b [] miss (All-nil (λ x. is_feed x ≡ false))) has in
    let bad : true ≡ false = same in
    cc

-- a line that a line feed ends
pub lines_cut : (text rest : List ℕ) → (Contains text 10 → ⊥) → lines_of (text ++ 10 ∷ rest) ≡ (text ++ 10 ∷ []) ∷ lines_of rest
lines_cut [] rest none = refl
lines_cut (b ∷ text) rest none =
    ap (λ c. cond c ((b ∷ []) ∷ lines_of (text ++ 10 ∷ rest)) (onto_first b (lines_of (text ++ 10 ∷ rest)))) (not_feed b text none)
    ∙ ap (onto_first b) (lines_cut text rest (λ has. none (Contains-append_right (b ∷ []) text 10 has)))

pub script_cut : (text rest : List ℕ) → (Contains text 10 → ⊥) → script_of (text ++ 10 ∷ rest) ≡ line_of (text ++ 10 ∷ []) ∷ script_of rest
script_cut text rest none = ap (map line_of) (lines_cut text rest none)

pub whole_cut : (text rest : List ℕ) → (Contains text 10 → ⊥) → whole_script (text ++ 10 ∷ rest) ≡ line_of (text ++ 10 ∷ []) ∷ whole_script rest
whole_cut text rest none =
    ap (λ ls. map line_of (filter (ends_with 10) ls)) (lines_cut text rest none)
    ∙ ap (λ c. map line_of (if c then (text ++ 10 ∷ []) ∷ filter (ends_with 10) (lines_of rest) else filter (ends_with 10) (lines_of rest))) (ends_feed text)

pub no_whole : NoWholeLine
no_whole [] none = refl
no_whole (b ∷ bytes) none =
    ap (λ ls. map line_of (filter (ends_with 10) ls)) (line_without_feed (b ∷ bytes) (omega arith) none)
    ∙ ap (λ c. map line_of (if c then (b ∷ bytes) ∷ [] else [])) (ends_none (b ∷ bytes) none)

first_after : (text bytes : List ℕ) (n : ℕ) → (Contains text 10 → ⊥) → AreFirst (whole_script (text ++ take n bytes)) (whole_script (text ++ bytes))
first_after text [] zero none = ([], sym (append-nil (whole_script (text ++ []))))
first_after text [] (suc n) none = ([], sym (append-nil (whole_script (text ++ []))))
first_after text (b ∷ bytes) zero none = (whole_script (text ++ b ∷ bytes), ap (λ ls. ls ++ whole_script (text ++ b ∷ bytes)) (sym (ap whole_script (append-nil text) ∙ no_whole text none)))
first_after text (b ∷ bytes) (suc n) none =
    elim (cases_Bool (is_feed b)) [
      | inl hit ↦ (
          let rest = first_after [] bytes n none_in_none in
          subst (λ x. AreFirst (whole_script (text ++ x ∷ take n bytes)) (whole_script (text ++ x ∷ bytes))) (sym (eqb-eq b 10 hit)) (
            rest.0,
            whole_cut text bytes none ∙ (ap (λ ls. line_of (text ++ 10 ∷ []) ∷ ls) rest.1 ∙ ap (λ ls. ls ++ rest.0) (sym (whole_cut text (take n bytes) none))),
          ))
      | inr miss ↦ (
          let on = first_after (text ++ b ∷ []) bytes n (no_feed_in text (b ∷ []) none (no_feed_one b miss)) in (
            on.0,
            ap whole_script (sym (append_assoc text (b ∷ []) bytes)) ∙ (on.1 ∙ ap (λ xs. whole_script xs ++ on.0) (append_assoc text (b ∷ []) (take n bytes))),
          ))
    ]

pub whole_stays : WholeLinesStay
whole_stays bytes n = first_after [] bytes n none_in_none
