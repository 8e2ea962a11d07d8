-- Lines up to a mark, and behind it.
use Rattle.std.proofs.Common.{◌≡◌, ℕ, suc, ◌+◌, ◌-◌, ◌<◌, ◌≤◌, Bool, true, false, cond, List, [], ◌∷◌, ◌++◌, length, take, drop, refl, sym, ap, ◌∙◌, append_assoc, length-append, arith}
use Rattle.std.specs.List.{Contains}
use Rattle.std.specs.List.{onto_first}
use Rattle.std.proofs.lemmas.List.{take_at, length-take-le, length-drop, drop-drop}
use Rattle.std.proofs.Math.Seq.{take-length, drop-length, take-add}
use Rattle.script_text.specs.Lines.{is_feed, lines_of}
use Rattle.script_text.specs.Parts.{is_mark, before_mark, behind_mark, all_bytes, cut_lines}
use Rattle.script_text.specs.LineCutter.{IsFirstFeed}
use Rattle.script_text.proofs.PendingLemmas.{lines_cut}
use Rattle.script_text.proofs.LineLemmas.{line_without_feed}

-- the first line ends with the first line feed
pub line-to-feed : (bytes : List ℕ) (place : ℕ) → IsFirstFeed bytes place → lines_of bytes ≡ take (place + 1) bytes ∷ lines_of (drop (place + 1) bytes)
line-to-feed bytes place found =
    let text = take place bytes in
    let rest = drop (place + 1) bytes in
    let long : length (text ++ 10 ∷ []) ≡ place + 1 = omega (arith, length-append text (10 ∷ []), length-take-le place bytes (omega (arith, found.below))) in
    let first : take (place + 1) bytes ≡ text ++ 10 ∷ [] =
    ap (take (place + 1)) (found.bytes_are ∙ sym (append_assoc text (10 ∷ []) rest)) ∙ take_at (text ++ 10 ∷ []) rest (place + 1) long in
    ap lines_of found.bytes_are ∙ (lines_cut text rest found.no_feed ∙ ap (λ line. line ∷ lines_of rest) (sym first))

-- or with the bytes
pub line-to-end : (bytes : List ℕ) → 0 < length bytes → (Contains bytes 10 → ⊥) → lines_of bytes ≡ take (length bytes) bytes ∷ lines_of (drop (length bytes) bytes)
line-to-end bytes some none =
    line_without_feed bytes some none
    ∙ (ap (λ line. line ∷ []) (sym (take-length bytes)) ∙ ap (λ rest. take (length bytes) bytes ∷ lines_of rest) (sym (drop-length bytes)))

onto-first-bytes : (b : ℕ) (lines : List (List ℕ)) → all_bytes (onto_first b lines) ≡ b ∷ all_bytes lines
onto-first-bytes b [] = refl
onto-first-bytes b (line ∷ lines) = refl

all-from : (b : ℕ) (bs : List ℕ) (feed : Bool) → all_bytes (lines_of bs) ≡ bs → all_bytes (cond feed ((b ∷ []) ∷ lines_of bs) (onto_first b (lines_of bs))) ≡ b ∷ bs
all-from b bs true rest = ap (λ all. b ∷ all) rest
all-from b bs false rest = onto-first-bytes b (lines_of bs) ∙ ap (λ all. b ∷ all) rest

-- the lines of bytes are the bytes
pub all-lines : (bytes : List ℕ) → all_bytes (lines_of bytes) ≡ bytes
all-lines [] = refl
all-lines (b ∷ bs) = all-from b bs (is_feed b) (all-lines bs)

-- one line that is no mark
pub before-other : (line : List ℕ) (lines : List (List ℕ)) → is_mark line ≡ false → before_mark (line ∷ lines) ≡ line ++ before_mark lines
before-other line lines other = ap (λ mark. cond mark [] (line ++ before_mark lines)) other

pub behind-other : (line : List ℕ) (lines : List (List ℕ)) → is_mark line ≡ false → behind_mark (line ∷ lines) ≡ behind_mark lines
behind-other line lines other = ap (λ mark. cond mark lines (behind_mark lines)) other

-- so much of bytes was gone over, in which no mark stands
pub record IsPassed (bytes : List ℕ) (at : ℕ) : Type 0 where
  pub within : at ≤ length bytes
  pub before : before_mark (lines_of bytes) ≡ take at bytes ++ before_mark (lines_of (drop at bytes))
  pub behind : behind_mark (lines_of bytes) ≡ behind_mark (lines_of (drop at bytes))

pub passes-line : (bytes : List ℕ) (at len : ℕ) → IsPassed bytes at → len ≤ length (drop at bytes)
    → lines_of (drop at bytes) ≡ take len (drop at bytes) ∷ lines_of (drop len (drop at bytes)) → is_mark (take len (drop at bytes)) ≡ false
    → IsPassed bytes (at + len)
passes-line bytes at len was short first other =
    let line = take len (drop at bytes) in
    let rest = drop len (drop at bytes) in
    let there : drop (at + len) bytes ≡ rest = sym (drop-drop len at bytes) in
    let taken : take (at + len) bytes ≡ take at bytes ++ line = take-add at len bytes in
    record {
      within = omega (arith, was.within, short, length-drop at bytes);
      before = was.before ∙ (ap (λ lines. take at bytes ++ before_mark lines) first
          ∙ (ap (λ more. take at bytes ++ more) (before-other line (lines_of rest) other)
          ∙ (sym (append_assoc (take at bytes) line (before_mark (lines_of rest)))
          ∙ (ap (λ front. front ++ before_mark (lines_of rest)) (sym taken) ∙ ap (λ r. take (at + len) bytes ++ before_mark (lines_of r)) (sym there)))));
      behind = was.behind ∙ (ap behind_mark first ∙ (behind-other line (lines_of rest) other ∙ ap (λ r. behind_mark (lines_of r)) (sym there)));
    }

pub cut-on : (clients at : ℕ) (lines : List (List ℕ)) → at < clients
    → cut_lines (clients - at) lines ≡ before_mark lines ∷ cut_lines (clients - (at + 1)) (behind_mark lines)
cut-on clients at lines below =
    let more : clients - at ≡ suc (clients - (at + 1)) = omega (arith, below) in
    ap (λ marks. cut_lines marks lines) more
