-- What a line is read as.
use Rattle.std.proofs.Common.{◌≡◌, ℕ, ◌+◌, ◌<◌, Bool, true, false, cond, List, [], ◌∷◌, ◌++◌, length, take, get_or, Option, Some, None, Result, Ok, Err, IfOk, refl, sym, ◌∙◌, ap, arith}
use Rattle.std.specs.Prelude.{◌==◌}
use Rattle.std.specs.List.{list_all, slice_split}
use Rattle.std.specs.Option.{option_map}
use Rattle.std.specs.Str.{bytes_eq}
use Rattle.std.proofs.lemmas.List.{take_more, take_all}
use Rattle.std.proofs.lemmas.Slice.Eq.{bytes_eq-Decides}
use Rattle.trace_text.specs.Text.{sentence}
use Rattle.trace_text.specs.Trace.{is_word}
use Rattle.trace_check.specs.declared.lines.Event.{Event}
use Rattle.trace_check.specs.declared.lines.Event.TheVariants as event
use Rattle.trace_check.specs.EventParser.{event_in}
use Rattle.trace_check.specs.AskLines.{ask_of}
use Rattle.std.specs.Arc.{arc_value}
use Rattle.trace_check.specs.Lines.{origin_of, words_of, anywhere, IsLineOf, IsReadAs}
use Rattle.trace_check.proofs.Asks.{words_same, fits_same}
use Rattle.trace_check.proofs.LineWords.{event_read}
use Rattle.trace_check.proofs.Fitting.{IsFit, event_fits}

words_anywhere : (e : Event) → words_of (anywhere e) ≡ words_of e
words_anywhere (event.Registry e) = refl
words_anywhere (event.Board e) = words_same origin_of (λ ask. ask_of (arc_value ask).origin) e (λ ask. refl)

line_sentence : (line : List ℕ) (e : Event) → IsLineOf line e → sentence (words_of e) ≡ line
line_sentence line (event.Registry e) k = sym k.1
line_sentence line (event.Board e) k = sym k.1

line_from : (line : List ℕ) (e : Event) → IsFit (Some (anywhere e)) → sentence (words_of e) ≡ line → IsLineOf line e
line_from line (event.Registry e) f w = (f, sym w)
line_from line (event.Board e) f w = (sym (fits_same origin_of (λ ask. ask_of (arc_value ask).origin) e (λ ask. refl)) ∙ f, sym w)

-- what words are read as, where they are the parts of a line
pub read_as : (o x : Option Event) (words parts : List (List ℕ)) → option_map anywhere o ≡ event_in words → words ≡ parts → o ≡ x → event_in parts ≡ option_map anywhere x
read_as o x words parts e w i = ap event_in (sym w) ∙ (sym e ∙ ap (option_map anywhere) i)

-- a line without its last byte, and that byte
pub without_last : (line body : List ℕ) (n : ℕ) → 0 < length line → n + 1 ≡ length line → body ≡ take n line → line ≡ body ++ get_or line n 0 ∷ []
without_last line body n some len front =
    sym (take_all (n + 1) line (omega arith)) ∙ (take_more line n 0 (omega arith) ∙ ap (λ b. b ++ get_or line n 0 ∷ []) (sym front))

-- where what stands between its blanks aren't all words, or are no event's, the line is no event's
pub read_unworded : (body : List ℕ) (last : ℕ) (line : List ℕ) → line ≡ body ++ last ∷ [] → list_all is_word (slice_split (λ b. b == 32) body) ≡ false → IsReadAs line None
read_unworded body last line cut h e k = (let r = (event_read body last line e cut k).0 in cc)

pub read_none : (body : List ℕ) (last : ℕ) (line : List ℕ) → line ≡ body ++ last ∷ [] → event_in (slice_split (λ b. b == 32) body) ≡ None → IsReadAs line None
read_none body last line cut h e k = (let r = (event_read body last line e cut k).1 in cc)

-- nor where the event that they may be has another line
other_line : (body : List ℕ) (last : ℕ) (line : List ℕ) (e : Event) → line ≡ body ++ last ∷ [] → event_in (slice_split (λ b. b == 32) body) ≡ Some (anywhere e) → bytes_eq (sentence (words_of e)) line ≡ false → IsReadAs line None
other_line body last line e cut here other e' k =
    let r = (event_read body last line e' cut k).1 in
    let same : anywhere e' ≡ anywhere e = (let q = sym r ∙ here in cc) in
    let words : words_of e ≡ words_of e' = sym (words_anywhere e) ∙ (ap words_of (sym same) ∙ words_anywhere e') in
    let is = (bytes_eq-Decides (sentence (words_of e)) line).1 (ap sentence words ∙ line_sentence line e' k) in
    cc

checked : (body : List ℕ) (last : ℕ) (line : List ℕ) (e : Event) (b : Bool) → line ≡ body ++ last ∷ [] → list_all is_word (slice_split (λ b. b == 32) body) ≡ true → event_in (slice_split (λ b. b == 32) body) ≡ Some (anywhere e) → bytes_eq (sentence (words_of e)) line ≡ b → IsReadAs line (cond b (Some e) None)
checked body last line e true cut words here same = line_from line e (event_fits (slice_split (λ b. b == 32) body) (Some (anywhere e)) words here) ((bytes_eq-Decides (sentence (words_of e)) line).0 same)
checked body last line e false cut words here other = other_line body last line e cut here other

pub read_checked : {E : Type 0} (body : List ℕ) (last : ℕ) (line : List ℕ) (e : Event) (r : Result (Option Event) E) → line ≡ body ++ last ∷ [] → list_all is_word (slice_split (λ b. b == 32) body) ≡ true → event_in (slice_split (λ b. b == 32) body) ≡ Some (anywhere e) → IfOk r (λ kept. kept ≡ cond (bytes_eq (sentence (words_of e)) line) (Some e) None) → IfOk r (IsReadAs line)
read_checked body last line e (Ok kept) cut words here k = rw k (checked body last line e (bytes_eq (sentence (words_of e)) line) cut words here refl)
read_checked body last line e (Err x) cut words here k = k
