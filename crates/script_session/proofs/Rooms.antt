-- The text of what is handed out fits into its room.
use Rattle.std.proofs.Common.{◌≡◌, ℕ, ◌+◌, ◌*◌, ◌^◌, ◌<◌, ◌≤◌, Bool, true, false, List, [], ◌∷◌, ◌++◌, length, map, take, refl, ap, ◌∙◌, append-nil, length-append, arith, codes, get_or}
use Rattle.std.specs.Prelude.{◌==◌, if◌then◌else◌, sum_by}
use Rattle.std.specs.Fmt.{decimal}
use Rattle.std.specs.List.{flat_map}
use Rattle.std.proofs.lemmas.Fmt.{length-decimal-le}
use Rattle.std.proofs.lemmas.Grind.{flat_map-append}
use Rattle.std.proofs.lemmas.List.{take_more, map_push}
use Rattle.std.proofs.lemmas.List.Concat.{flat_map-cons}
use Rattle.std.proofs.lemmas.List.Sums.{sum_by-append, sum_by-cons, sum_by-take-le}
use Rattle.hex.specs.Hex.{lower_digits}
use Rattle.hex.proofs.HexLemmas.{length-encode_with}
use Rattle.kc_base.specs.declared.callback_list.Callback.{Callback}
use Rattle.kc_base.specs.declared.error_numbers.Errno.TheVariants.{EBADMSG, EINVAL}
use Rattle.transforms.specs.declared.ask.Ask.{Ask}
use Rattle.transforms.specs.AskValue.{ask_size}
use Rattle.transforms.specs.declared.request.Finished.{Finished}
use Rattle.reply_text.specs.Answers.{hex_text, sentence, text_of}
use Rattle.reply_text.specs.declared.answers.Answer.{Answer}
use Rattle.reply_text.specs.declared.answers.Answer.TheVariants as said
use Rattle.reply_text.specs.declared.origin.Origin.{Origin}
use Rattle.reply_text.specs.Origins.{origin_word}
use Rattle.recorded_calls.specs.Bounds.{callback_length, AreWithin}
use Rattle.script_session.specs.ReplyText.{callback_room, collected_said}
use Rattle.script_session.specs.CallbackText.{callback_said}

-- ---- lines

two-words : (a b : List ℕ) → length (sentence (a ∷ b ∷ [])) ≡ length a + length b + 2
two-words a b = omega (arith, length-append (a ++ 32 ∷ b) (codes "\n"), length-append a (32 ∷ b))

three-words : (a b c : List ℕ) → length (sentence (a ∷ b ∷ c ∷ [])) ≡ length a + length b + length c + 3
three-words a b c = omega (arith, length-append (a ++ 32 ∷ (b ++ 32 ∷ c)) (codes "\n"), length-append a (32 ∷ (b ++ 32 ∷ c)), length-append b (32 ∷ c))

line-length : (line : ℕ) → line < 2 ^ 32 → length (decimal line) ≤ 10
line-length line small = length-decimal-le 10 line (omega arith) (omega (arith, small)) (omega (arith, small))

count-length : (count : ℕ) → count < 2 ^ 64 → length (decimal count) ≤ 20
count-length count small = length-decimal-le 20 count (omega arith) (omega (arith, small)) small

digits-length : (bytes : List ℕ) → length (hex_text bytes) ≤ 2 * length bytes + 1
digits-length [] = omega arith
digits-length (b ∷ bytes) = omega (arith, length-encode_with lower_digits (b ∷ bytes))

origin-length : (of : Origin) → of.client < 2 ^ 32 → of.line < 2 ^ 32 → length (origin_word of) ≤ 21
origin-length of few small = by_client (of.client == 0)
  where
    by_client : (first : Bool) → length (if first then decimal of.line else decimal of.client ++ codes "." ++ decimal of.line) ≤ 21
    by_client true =
        let alone : length (decimal of.line) ≤ 21 = omega (arith, line-length of.line small) in
        alone
    by_client false =
        let both : length (decimal of.client ++ codes "." ++ decimal of.line) ≤ 21 =
        omega (arith, length-append (decimal of.client ++ codes ".") (decimal of.line), length-append (decimal of.client) (codes "."), line-length of.client few, line-length of.line small) in
        both

pub started-length : (of : Origin) → of.client < 2 ^ 32 → of.line < 2 ^ 32 → length (text_of (said.Started of)) ≤ 36
started-length of few small = omega (arith, two-words (origin_word of) (codes "started"), origin-length of few small)

pub done-length : (of : Origin) (bytes : List ℕ) → of.client < 2 ^ 32 → of.line < 2 ^ 32 → length (text_of (said.Done of bytes)) ≤ 36 + 2 * length bytes
done-length of bytes few small = omega (arith, three-words (origin_word of) (codes "done") (hex_text bytes), origin-length of few small, digits-length bytes)

pub bad-length : (of : Origin) → of.client < 2 ^ 32 → of.line < 2 ^ 32 → length (text_of (said.Failed of EBADMSG)) ≤ 36
bad-length of few small = omega (arith, three-words (origin_word of) (codes "fail") (codes "EBADMSG"), origin-length of few small)

pub invalid-length : (of : Origin) → of.client < 2 ^ 32 → of.line < 2 ^ 32 → length (text_of (said.Failed of EINVAL)) ≤ 36
invalid-length of few small = omega (arith, three-words (origin_word of) (codes "fail") (codes "EINVAL"), origin-length of few small)

polled-length : (line count : ℕ) → line < 2 ^ 32 → count < 2 ^ 64 → length (text_of (said.Polled line count)) ≤ 64
polled-length line count small few = omega (arith, three-words (decimal line) (codes "polled") (decimal count), line-length line small, count-length count few)

drained-length : (line count : ℕ) → line < 2 ^ 32 → count < 2 ^ 64 → length (text_of (said.Drained line count)) ≤ 64
drained-length line count small few = omega (arith, three-words (decimal line) (codes "drained") (decimal count), line-length line small, count-length count few)

pub collected-length : (waits : Bool) (line count : ℕ) → line < 2 ^ 32 → count < 2 ^ 64 → length (text_of (collected_said line waits count)) ≤ 64
collected-length true line count small few = drained-length line count small few
collected-length false line count small few = polled-length line count small few

pub end-length : (label : List ℕ) (count : ℕ) → count < 2 ^ 64 → length (text_of (said.End label count)) ≤ length label + 64
end-length label count few = omega (arith, three-words (codes "end") label (decimal count), count-length count few)

-- ---- callbacks

rooms-are : (callbacks : List (Callback Finished)) → sum_by callback_room callbacks ≡ 36 * length callbacks + 2 * sum_by callback_length callbacks
rooms-are [] = refl
rooms-are (callback ∷ callbacks) = omega (arith, sum_by-cons callback_room callback callbacks, sum_by-cons callback_length callback callbacks, rooms-are callbacks)

-- what is handed out has its room, and behind it a line of 64 bytes and so many more
pub room-enough : (requests bytes more room spare lines : ℕ) (asks : List Ask) (callbacks : List (Callback Finished))
    → (room < 2 ^ 63 → 2 * bytes + 200 * requests + more + 64 ≤ room) → room < 2 ^ 63 → room ≤ spare → requests ≡ lines → sum_by ask_size asks ≡ bytes → AreWithin lines asks callbacks
    → sum_by callback_room callbacks + more + 64 ≤ spare
room-enough requests bytes more room spare lines asks callbacks is small within many sized few =
    let enough = is small in
    omega (arith, enough, within, many, sized, rooms-are callbacks, few.few, few.short)

-- one more of them
pub room-more : (callbacks : List (Callback Finished)) (i : ℕ) (d : Callback Finished) → i < length callbacks → sum_by callback_room (take (i + 1) callbacks) ≡ sum_by callback_room (take i callbacks) + callback_room (get_or callbacks i d)
room-more callbacks i d lt =
    ap (sum_by callback_room) (take_more callbacks i d lt)
    ∙ (sum_by-append callback_room (take i callbacks) (get_or callbacks i d ∷ []) ∙ ap (λ n. sum_by callback_room (take i callbacks) + n) (one-room (get_or callbacks i d)))
  where
    one-room : (callback : Callback Finished) → sum_by callback_room (callback ∷ []) ≡ callback_room callback
    one-room callback = omega (arith, sum_by-cons callback_room callback [])

pub room-within : (callbacks : List (Callback Finished)) (i : ℕ) (d : Callback Finished) → i < length callbacks → sum_by callback_room (take i callbacks) + callback_room (get_or callbacks i d) ≤ sum_by callback_room callbacks
room-within callbacks i d lt = omega (arith, room-more callbacks i d lt, sum_by-take-le callback_room callbacks (i + 1))

pub flat-one : (answer : Answer) → flat_map text_of (answer ∷ []) ≡ text_of answer
flat-one answer = flat_map-cons text_of answer [] ∙ append-nil (text_of answer)

pub flat-more : (answers : List Answer) (answer : Answer) → flat_map text_of (answers ++ answer ∷ []) ≡ flat_map text_of answers ++ text_of answer
flat-more answers answer = flat_map-append text_of answers (answer ∷ []) ∙ ap (λ x. flat_map text_of answers ++ x) (flat-one answer)

pub said-more : (lines : List Origin) (callbacks : List (Callback Finished)) (i : ℕ) (d : Callback Finished) → i < length callbacks
    → flat_map text_of (map (callback_said lines) (take (i + 1) callbacks)) ≡ flat_map text_of (map (callback_said lines) (take i callbacks)) ++ text_of (callback_said lines (get_or callbacks i d))
said-more lines callbacks i d lt =
    ap (λ cs. flat_map text_of (map (callback_said lines) cs)) (take_more callbacks i d lt)
    ∙ (ap (flat_map text_of) (map_push (callback_said lines) (take i callbacks) (get_or callbacks i d))
    ∙ flat-more (map (callback_said lines) (take i callbacks)) (callback_said lines (get_or callbacks i d)))
