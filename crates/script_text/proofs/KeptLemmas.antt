-- What a cutter keeps in its list of bytes.
use Rattle.std.proofs.Common.{◌≡◌, ℕ, ◌+◌, ◌-◌, ◌<◌, ◌≤◌, ◌||◌, ◌&&◌, not, cond, Bool, true, false, List, [], ◌∷◌, length, take, drop, get_or, Some, None, refl, sym, ap, ap₂, ◌∙◌, arith, ◌++◌, subst, length-drop, length-append}
use Rattle.std.specs.Prelude.{nat_lt, ◌==◌}
use Rattle.std.proofs.lemmas.Bool.Decides.{nat_tests}
use Rattle.std.proofs.lemmas.List.{drop-drop, take_more, take-append-drop, take_all, drop_all, length-take-le}
use Rattle.std.proofs.Math.Seq.{get_or-append_seam, take-append-add}
use Rattle.script_text.specs.LineCutter.{IsFirstFeed, kept_in, kept_of, all_seen}
use Rattle.script_text.specs.Script.{line_of}
use Rattle.script_text.specs.declared.commands.Line.{Line}
use Rattle.script_text.specs.declared.commands.Line.TheVariants.{Malformed}
use Rattle.script_text.proofs.PendingLemmas.{Says, le_false}

-- what has begun, and the unseen after it
parts : (items : List ℕ) (at seen : ℕ) → at ≤ seen → take (seen - at) (drop at items) ++ drop seen items ≡ drop at items
parts items at seen le =
    let e : at + (seen - at) ≡ seen = omega arith in
    ap (λ xs. take (seen - at) (drop at items) ++ xs) (sym (drop-drop (seen - at) at items ∙ ap (λ n. drop n items) e)) ∙ take-append-drop (seen - at) (drop at items)

from_false : (m n : ℕ) → nat_lt m n ≡ false → n ≤ m
from_false m n e = grind (arith, nat_tests)

pub all_seen_short : (items : List ℕ) (at seen n : ℕ) (long : Bool) → at ≤ seen → n ≡ length items → (long || nat_lt 65536 (n - at)) ≡ false → kept_in items at n long ≡ all_seen (kept_in items at seen long)
all_seen_short items at seen n true le is short = absurd cc
all_seen_short items at seen n false le is short =
    let bound : n - at ≤ 65536 = from_false 65536 (n - at) short in
    let size = length-drop at items in
    let all : take (n - at) (drop at items) ≡ drop at items = take_all (n - at) (drop at items) (omega arith) in
    let some : kept_of (drop at items) ≡ Some (drop at items) = ap (λ c. cond c None (Some (drop at items))) (le_false 65536 (length (drop at items)) (omega arith)) in
    let whole : kept_of (take (seen - at) (drop at items) ++ drop seen items) ≡ Some (take (n - at) (drop at items)) = ap kept_of (parts items at seen le) ∙ (some ∙ ap (λ xs. Some xs) (sym all)) in
    let none : drop n items ≡ [] = drop_all n items (omega arith) in
    (λ i. record { begun = sym whole i; unseen = none i })

-- a line begins
pub begins_at : (items : List ℕ) (e : ℕ) → kept_in items e e false ≡ record { begun = Some []; unseen = drop e items }
begins_at items e =
    let zero_is : e - e ≡ 0 = omega arith in
    (λ i. record { begun = Some (take (zero_is i) (drop e items)); unseen = drop e items })

-- the bytes of a line that ends
line_in : (items : List ℕ) (at seen place : ℕ) → at ≤ seen → IsFirstFeed (drop seen items) place
    → take (seen + place + 1 - at) (drop at items) ≡ take (seen - at) (drop at items) ++ (take place (drop seen items) ++ 10 ∷ [])
line_in items at seen place le feed =
    let unseen = drop seen items in
    let begun = take (seen - at) (drop at items) in
    let long = length-drop at items in
    let longer = length-drop seen items in
    let below = feed.below in
    let size : length begun ≡ seen - at = length-take-le (seen - at) (drop at items) (omega arith) in
    let n : seen + place + 1 - at ≡ length begun + (place + 1) = omega arith in
    let front : length (take place unseen) ≡ place = length-take-le place unseen (omega arith) in
    let ten : get_or unseen place 0 ≡ 10 =
    ap (λ xs. get_or xs place 0) feed.bytes_are
    ∙ (ap (λ k. get_or (take place unseen ++ 10 ∷ drop (place + 1) unseen) k 0) (sym front) ∙ get_or-append_seam (take place unseen) 10 (drop (place + 1) unseen) 0) in
    ap₂ take n (sym (parts items at seen le))
    ∙ (take-append-add begun unseen (place + 1) ∙ ap (λ xs. begun ++ xs) (take_more unseen place 0 feed.below ∙ ap (λ x. take place unseen ++ x ∷ []) ten))

pub says_in : (items line : List ℕ) (at seen place : ℕ) (long : Bool) (said : Line) → at ≤ seen → IsFirstFeed (drop seen items) place → line ≡ take (seen + place + 1 - at) (drop at items)
    → (long ≡ true → said ≡ Malformed) → (long ≡ false → said ≡ line_of line) → Says (kept_in items at seen long).begun (take place (drop seen items) ++ 10 ∷ []) said
says_in items line at seen place true said le feed is malformed says = record { long = λ e. malformed refl; line = λ xs e. absurd cc }
says_in items line at seen place false said le feed is malformed says = record {
  long = λ e. absurd cc;
  line = λ xs e.
      let same : take (seen - at) (drop at items) ≡ xs = cc in
      says refl ∙ ap line_of (is ∙ (line_in items at seen place le feed ∙ ap (λ ys. ys ++ (take place (drop seen items) ++ 10 ∷ [])) same));
}

pub says_rest : (items rest : List ℕ) (at seen : ℕ) (long : Bool) (said : Line) → at ≤ seen → rest ≡ drop at items
    → (long ≡ true → said ≡ Malformed) → (long ≡ false → said ≡ line_of rest) → Says (kept_in items at seen long).begun (drop seen items) said
says_rest items rest at seen true said le is malformed says = record { long = λ e. malformed refl; line = λ xs e. absurd cc }
says_rest items rest at seen false said le is malformed says = record {
  long = λ e. absurd cc;
  line = λ xs e.
      let same : take (seen - at) (drop at items) ≡ xs = cc in
      says refl ∙ ap line_of (is ∙ (sym (parts items at seen le) ∙ ap (λ ys. ys ++ drop seen items) same));
}

some_bytes : (n : ℕ) → (true && (n == 0)) ≡ false → 0 < n
some_bytes n e = grind (arith, nat_tests)

pub some_rest : (items rest : List ℕ) (at seen : ℕ) (long : Bool) → at ≤ seen → rest ≡ drop at items → (not long && (length rest == 0)) ≡ false
    → (xs : List ℕ) → (kept_in items at seen long).begun ≡ Some xs → 0 < length (xs ++ drop seen items)
some_rest items rest at seen true le is some xs e = absurd cc
some_rest items rest at seen false le is some xs e =
    let same : take (seen - at) (drop at items) ≡ xs = cc in
    subst (λ ys. 0 < length ys) (is ∙ (sym (parts items at seen le) ∙ ap (λ ys. ys ++ drop seen items) same)) (some_bytes (length rest) some)

no_bytes : (xs : List ℕ) → length xs ≡ 0 → xs ≡ []
no_bytes [] e = refl
no_bytes (x ∷ xs) e = absurd (omega (arith, e))

zero_bytes : (n : ℕ) → (true && (n == 0)) ≡ true → n ≡ 0
zero_bytes n e = grind (arith, nat_tests)

pub nothing_left : (items rest : List ℕ) (at seen : ℕ) (long : Bool) → at ≤ seen → rest ≡ drop at items → (not long && (length rest == 0)) ≡ true
    → ((kept_in items at seen long).begun ≡ Some []) × (drop seen items ≡ [])
nothing_left items rest at seen true le is none = absurd cc
nothing_left items rest at seen false le is none =
    let size : length rest ≡ 0 = zero_bytes (length rest) none in
    let whole = ap length (is ∙ sym (parts items at seen le)) in
    let sum = length-append (take (seen - at) (drop at items)) (drop seen items) in
    (ap (λ xs. Some xs) (no_bytes (take (seen - at) (drop at items)) (omega arith)), no_bytes (drop seen items) (omega arith))
