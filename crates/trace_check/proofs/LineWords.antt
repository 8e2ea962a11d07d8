-- An event's words are printed, and its line is cut into them again.
use Rattle.std.proofs.Common.{◌≡◌, ℕ, ◌<◌, Bool, true, false, ◌&&◌, List, [], ◌∷◌, ◌++◌, length, Option, Some, None, refl, sym, ◌∙◌, ap, arith}
use Rattle.std.specs.Prelude.{◌==◌, codes}
use Rattle.std.specs.Fmt.{decimal}
use Rattle.std.specs.List.{list_all, join_with_byte, slice_split}
use Rattle.std.proofs.lemmas.Bool.{and_parts, and_from}
use Rattle.kc_base.specs.Errno.{name_of}
use Rattle.kc_base.specs.declared.error_numbers.Errno.{Errno}
use Rattle.kc_base.specs.declared.error_numbers.Errno.TheVariants.{ENOENT, E2BIG, EAGAIN, EBUSY, EEXIST, EINVAL, ENFILE, EMFILE, ENOSPC, ENAMETOOLONG, EBADMSG, EINPROGRESS, ENOKEY}
use Rattle.alg_registry.specs.declared.spec.Kind.{Kind}
use Rattle.alg_registry.specs.declared.spec.Kind.TheVariants.{Cipher, Hash, Ghash, Skcipher, Aead, Mac}
use Rattle.alg_registry.specs.declared.spec.Wrap.{Wrap}
use Rattle.alg_registry.specs.declared.spec.Wrap.TheVariants.{Plain, Pcrypt, Cryptd}
use Rattle.alg_registry.specs.declared.entry.Looked.{Looked}
use Rattle.alg_registry.specs.declared.entry.Looked.TheVariants.{Found, Pending, Began, Absent}
use Rattle.alg_registry.specs.declared.entry.Enlisted.{Enlisted}
use Rattle.alg_registry.specs.declared.entry.Enlisted.TheVariants.{Made, Exist, NFile}
use Rattle.alg_registry.specs.declared.entry.EndAnswer.{EndAnswer}
use Rattle.alg_registry.specs.declared.entry.EndAnswer.TheVariants.{Built, Joined, Failed, NoMemory}
use Rattle.alg_registry.specs.declared.entry.RegEntry.{RegEntry}
use Rattle.alg_registry.specs.declared.entry.RegEntry.TheVariants.{Enlist, Look, Claim, End, Waited, Unlist, Get, Put, Refs}
use Rattle.alg_registry.specs.declared.entry.RegEntry.TheVariants as reg
use Rattle.board.specs.declared.entry.Shape.{Shape}
use Rattle.board.specs.declared.entry.Shape.TheVariants.{Pad, Queue, Chain}
use Rattle.board.specs.declared.entry.Entered.{Entered}
use Rattle.board.specs.declared.entry.Entered.TheVariants.{InProgress, Busy, NoSpace}
use Rattle.board.specs.declared.entry.BoardEntry.{BoardEntry}
use Rattle.board.specs.declared.entry.BoardEntry.TheVariants.{Born, Submit, Take, Finish, Enq, Deq, Done, Hold, Go, Collect, Close, Share, Mask, Shut}
use Rattle.std.specs.Arc.{arc_value}
use Rattle.trace_check.specs.declared.lines.AskLine.{AskLine}
use Rattle.reply_text.specs.Origins.{origin_word}
use Rattle.trace_text.specs.Text.{sentence, kind_word, wrap_word, ids_word, plain_word, get_word, enlisted_words, looked_words, end_words, unlisted_words, reg_words, shape_words, backlog_word, entered_words, started_words, mask_word, board_words}
use Rattle.trace_text.specs.Trace.{is_word, has_words, is_unwrapped, end_has_text, has_text, is_u16, is_u32, is_u64, spec_fits, enlisted_fits, looked_fits, end_fits, option_fits, fits, shape_fits, entered_fits, board_fits, origin_fits}
use Rattle.trace_check.specs.EventParser.{event_in}
use Rattle.trace_check.proofs.Numerals.{word_decimal, word_small, word_ids, word_mask, word_origin}
use Rattle.std.proofs.lemmas.List.{length_push}
use Rattle.trace_check.specs.declared.lines.Event.{Event}
use Rattle.trace_check.specs.declared.lines.Event.TheVariants as event
use Rattle.trace_check.specs.Lines.{origin_of, anywhere, IsLineOf}
use Rattle.trace_check.proofs.Numerals.{cut_joined, words_unlike}
use Rattle.trace_check.proofs.Guesses.{registry_again, board_again}

abbrev IsWord : List ℕ → Type 0
IsWord word = is_word word ≡ true

pub record AreWords (words : List (List ℕ)) : Type 0 where
  pub all : list_all is_word words ≡ true

none_more : AreWords []
none_more = record { all = refl }

one_more : (word : List ℕ) (words : List (List ℕ)) → IsWord word → AreWords words → AreWords (word ∷ words)
one_more word words w ws = record { all = and_from (is_word word) (list_all is_word words) w ws.all }

word_kind : (kind : Kind) → IsWord (kind_word kind)
word_kind Cipher = refl
word_kind Hash = refl
word_kind Ghash = refl
word_kind Skcipher = refl
word_kind Aead = refl
word_kind Mac = refl

word_wrap : (wrap : Wrap) → IsWord (wrap_word wrap)
word_wrap Plain = refl
word_wrap Pcrypt = refl
word_wrap Cryptd = refl

word_errno : (errno : Errno) → IsWord (name_of errno)
word_errno ENOENT = refl
word_errno E2BIG = refl
word_errno EAGAIN = refl
word_errno EBUSY = refl
word_errno EEXIST = refl
word_errno EINVAL = refl
word_errno ENFILE = refl
word_errno EMFILE = refl
word_errno ENOSPC = refl
word_errno ENAMETOOLONG = refl
word_errno EBADMSG = refl
word_errno EINPROGRESS = refl
word_errno ENOKEY = refl

word_plain : (plain : Bool) → IsWord (plain_word plain)
word_plain true = refl
word_plain false = refl

word_get : (ok : Bool) → IsWord (get_word ok)
word_get true = refl
word_get false = refl

word_backlog : (backlog : Bool) → IsWord (backlog_word backlog)
word_backlog true = refl
word_backlog false = refl

-- a word, and then a number
counted : (word : List ℕ) (n : ℕ) → IsWord word → is_u64 n ≡ true → AreWords (word ∷ decimal n ∷ [])
counted word n w f = one_more word (decimal n ∷ []) w (one_more (decimal n) [] (word_decimal n f) none_more)

sized : (word : List ℕ) (n : ℕ) → IsWord word → is_u32 n ≡ true → AreWords (word ∷ decimal n ∷ [])
sized word n w f = one_more word (decimal n ∷ []) w (one_more (decimal n) [] (word_small n f) none_more)

words_enlisted : (answer : Enlisted) → enlisted_fits answer ≡ true → AreWords (enlisted_words answer)
words_enlisted (Made id) f = counted (codes "made") id refl f
words_enlisted Exist f = record { all = refl }
words_enlisted NFile f = record { all = refl }

words_looked : (answer : Looked) → looked_fits answer ≡ true → AreWords (looked_words answer)
words_looked (Found id) f = counted (codes "found") id refl f
words_looked (Pending larval) f = counted (codes "pending") larval refl f
words_looked (Began larval) f = counted (codes "began") larval refl f
words_looked Absent f = record { all = refl }

words_unlisted : (answer : Option ℕ) → option_fits answer ≡ true → AreWords (unlisted_words answer)
words_unlisted (Some id) f = counted (codes "ok") id refl f
words_unlisted None f = record { all = refl }

words_end : (answer : EndAnswer) → end_has_text answer ≡ true → end_fits answer ≡ true → AreWords (end_words answer)
words_end (Built id spec) t f =
    let ff = and_parts (is_u64 id) (spec_fits spec) f in
    let fs = and_parts (is_u32 spec.priority) (list_all is_u64 spec.below) ff.1 in
    let tw = and_parts (is_word spec.name) (is_word spec.driver) t in
    one_more (codes "built") _ refl (one_more (decimal id) _ (word_decimal id ff.0) (one_more spec.name _ tw.0 (one_more spec.driver _ tw.1
    (one_more (kind_word spec.kind) _ (word_kind spec.kind) (one_more (wrap_word spec.wrap) _ (word_wrap spec.wrap) (one_more (decimal spec.priority) _ (word_small spec.priority fs.0) (one_more (ids_word spec.below) [] (word_ids spec.below fs.1) none_more)))))))
words_end (Joined id below) t f =
    let ff = and_parts (is_u64 id) (list_all is_u64 below) f in
    one_more (codes "joined") _ refl (one_more (decimal id) _ (word_decimal id ff.0) (one_more (ids_word below) [] (word_ids below ff.1) none_more))
words_end (Failed errno) t f = one_more (codes "failed") _ refl (one_more (name_of errno) [] (word_errno errno) none_more)
words_end NoMemory t f = record { all = refl }

-- the kind and the caller, and the event's name
headed : (kind name : List ℕ) (caller : ℕ) (args : List (List ℕ)) → IsWord kind → IsWord name → is_u32 caller ≡ true → AreWords args → AreWords (kind ∷ decimal caller ∷ name ∷ args)
headed kind name caller args k n c a = one_more kind _ k (one_more (decimal caller) _ (word_small caller c) (one_more name args n a))

alone : (n : ℕ) → is_u64 n ≡ true → AreWords (decimal n ∷ [])
alone n f = one_more (decimal n) [] (word_decimal n f) none_more

pub registry_are : (e : RegEntry) → has_text e ≡ true → fits e ≡ true → AreWords (reg_words e)
registry_are (Enlist caller spec answer) t f =
    let ff = and_parts (is_u32 caller) (is_u32 spec.priority && enlisted_fits answer) f in
    let fs = and_parts (is_u32 spec.priority) (enlisted_fits answer) ff.1 in
    let tt1 = and_parts (has_words spec && (length spec.below == 0)) (is_unwrapped spec.wrap) t in
    let tw = and_parts (is_word spec.name) (is_word spec.driver) (and_parts (has_words spec) (length spec.below == 0) tt1.0).0 in
    headed (codes "r") (codes "enlist") caller _ refl refl ff.0 (one_more spec.name _ tw.0 (one_more spec.driver _ tw.1
    (one_more (kind_word spec.kind) _ (word_kind spec.kind) (one_more (decimal spec.priority) _ (word_small spec.priority fs.0) (words_enlisted answer fs.1)))))
registry_are (Look caller text plain answer) t f =
    let ff = and_parts (is_u32 caller) (looked_fits answer) f in
    headed (codes "r") (codes "look") caller _ refl refl ff.0 (one_more text _ t (one_more (plain_word plain) _ (word_plain plain) (words_looked answer ff.1)))
registry_are (Claim caller larval) t f =
    let ff = and_parts (is_u32 caller) (is_u64 larval) f in headed (codes "r") (codes "claim") caller _ refl refl ff.0 (alone larval ff.1)
registry_are (End caller larval answer) t f =
    let ff = and_parts (is_u32 caller) (is_u64 larval && end_fits answer) f in
    let fe = and_parts (is_u64 larval) (end_fits answer) ff.1 in
    headed (codes "r") (codes "end") caller _ refl refl ff.0 (one_more (decimal larval) _ (word_decimal larval fe.0) (words_end answer t fe.1))
registry_are (Waited caller larval) t f =
    let ff = and_parts (is_u32 caller) (is_u64 larval) f in headed (codes "r") (codes "waited") caller _ refl refl ff.0 (alone larval ff.1)
registry_are (Unlist caller driver answer) t f =
    let ff = and_parts (is_u32 caller) (option_fits answer) f in
    headed (codes "r") (codes "unlist") caller _ refl refl ff.0 (one_more driver _ t (words_unlisted answer ff.1))
registry_are (Get caller id ok) t f =
    let ff = and_parts (is_u32 caller) (is_u64 id) f in
    headed (codes "r") (codes "get") caller _ refl refl ff.0 (one_more (decimal id) _ (word_decimal id ff.1) (one_more (get_word ok) [] (word_get ok) none_more))
registry_are (Put caller id) t f =
    let ff = and_parts (is_u32 caller) (is_u64 id) f in headed (codes "r") (codes "put") caller _ refl refl ff.0 (alone id ff.1)
registry_are (Refs caller driver) t f = headed (codes "r") (codes "refs") caller _ refl refl f (one_more driver [] t none_more)
registry_are (reg.List caller) t f = headed (codes "r") (codes "list") caller [] refl refl f none_more

words_shape : (shape : Shape) → shape_fits shape ≡ true → AreWords (shape_words shape)
words_shape (Pad lists) f = sized (codes "pad") lists refl f
words_shape (Queue max) f = sized (codes "queue") max refl f
words_shape (Chain max lists) f =
    let ff = and_parts (is_u32 max) (is_u32 lists) f in
    one_more (codes "chain") _ refl (one_more (decimal max) _ (word_small max ff.0) (one_more (decimal lists) [] (word_small lists ff.1) none_more))

words_entered : (answer : Entered) → entered_fits answer ≡ true → AreWords (entered_words answer)
words_entered (InProgress number) f = counted (codes "EINPROGRESS") number refl f
words_entered (Busy number) f = counted (codes "EBUSY") number refl f
words_entered NoSpace f = record { all = refl }

words_started : (started : Option ℕ) → option_fits started ≡ true → AreWords (started_words started)
words_started (Some n) f = counted (codes "started") n refl f
words_started None f = record { all = refl }

piped : (name : List ℕ) (caller pipe : ℕ) → IsWord name → (is_u32 caller && is_u64 pipe) ≡ true → AreWords (codes "b" ∷ decimal caller ∷ name ∷ decimal pipe ∷ [])
piped name caller pipe n f = (let ff = and_parts (is_u32 caller) (is_u64 pipe) f in headed (codes "b") name caller _ refl n ff.0 (alone pipe ff.1))

paired : (name : List ℕ) (caller pipe number : ℕ) → IsWord name → (is_u32 caller && (is_u64 pipe && is_u64 number)) ≡ true → AreWords (codes "b" ∷ decimal caller ∷ name ∷ decimal pipe ∷ decimal number ∷ [])
paired name caller pipe number n f =
    let ff = and_parts (is_u32 caller) (is_u64 pipe && is_u64 number) f in
    let fp = and_parts (is_u64 pipe) (is_u64 number) ff.1 in
    headed (codes "b") name caller _ refl n ff.0 (one_more (decimal pipe) _ (word_decimal pipe fp.0) (alone number fp.1))

pub board_are : (e : BoardEntry AskLine) → board_fits origin_of e ≡ true → AreWords (board_words origin_of e)
board_are (Born caller pipe shape) f =
    let ff = and_parts (is_u32 caller) (is_u64 pipe && shape_fits shape) f in
    let fp = and_parts (is_u64 pipe) (shape_fits shape) ff.1 in
    headed (codes "b") (codes "born") caller _ refl refl ff.0 (one_more (decimal pipe) _ (word_decimal pipe fp.0) (words_shape shape fp.1))
board_are (Submit caller pipe number ask) f =
    let ff = and_parts (is_u32 caller) (is_u64 pipe && (is_u64 number && origin_fits (origin_of (arc_value ask)))) f in
    let fp = and_parts (is_u64 pipe) (is_u64 number && origin_fits (origin_of (arc_value ask))) ff.1 in
    let fn = and_parts (is_u64 number) (origin_fits (origin_of (arc_value ask))) fp.1 in
    headed (codes "b") (codes "submit") caller _ refl refl ff.0 (one_more (decimal pipe) _ (word_decimal pipe fp.0) (one_more (decimal number) _ (word_decimal number fn.0) (one_more (origin_word (origin_of (arc_value ask))) [] (word_origin (origin_of (arc_value ask)) fn.1) none_more)))
board_are (Take caller pipe number) f = paired (codes "take") caller pipe number refl f
board_are (Finish caller pipe number) f = paired (codes "finish") caller pipe number refl f
board_are (Enq caller pipe ask backlog answer) f =
    let ff = and_parts (is_u32 caller) (is_u64 pipe && (origin_fits (origin_of (arc_value ask)) && entered_fits answer)) f in
    let fp = and_parts (is_u64 pipe) (origin_fits (origin_of (arc_value ask)) && entered_fits answer) ff.1 in
    let fn = and_parts (origin_fits (origin_of (arc_value ask))) (entered_fits answer) fp.1 in
    headed (codes "b") (codes "enq") caller _ refl refl ff.0 (one_more (decimal pipe) _ (word_decimal pipe fp.0) (one_more (origin_word (origin_of (arc_value ask))) _ (word_origin (origin_of (arc_value ask)) fn.0) (one_more (backlog_word backlog) _ (word_backlog backlog) (words_entered answer fn.1))))
board_are (Deq caller pipe number started) f =
    let ff = and_parts (is_u32 caller) (is_u64 pipe && (is_u64 number && option_fits started)) f in
    let fp = and_parts (is_u64 pipe) (is_u64 number && option_fits started) ff.1 in
    let fn = and_parts (is_u64 number) (option_fits started) fp.1 in
    headed (codes "b") (codes "deq") caller _ refl refl ff.0 (one_more (decimal pipe) _ (word_decimal pipe fp.0) (one_more (decimal number) _ (word_decimal number fn.0) (words_started started fn.1)))
board_are (Done caller pipe number) f = paired (codes "done") caller pipe number refl f
board_are (Hold caller pipe) f = piped (codes "hold") caller pipe refl f
board_are (Go caller pipe) f = piped (codes "go") caller pipe refl f
board_are (Collect caller pipe to) f = paired (codes "collect") caller pipe to refl f
board_are (Close caller pipe) f = piped (codes "close") caller pipe refl f
board_are (Share caller pipe) f = piped (codes "share") caller pipe refl f
board_are (Mask caller pipe mask) f =
    let ff = and_parts (is_u32 caller) (is_u64 pipe && is_u16 mask) f in
    let fp = and_parts (is_u64 pipe) (is_u16 mask) ff.1 in
    headed (codes "b") (codes "mask") caller _ refl refl ff.0 (one_more (decimal pipe) _ (word_decimal pipe fp.0) (one_more (mask_word mask) [] (word_mask mask) none_more))
board_are (Shut caller) f = headed (codes "b") (codes "shut") caller [] refl refl f none_more

-- a line of printed words is cut into them again
same_front : (a b : List ℕ) (x y : ℕ) → a ++ x ∷ [] ≡ b ++ y ∷ [] → a ≡ b
same_front [] [] x y e = refl
same_front [] (c ∷ b) x y e = absurd (let l = ap length e in let k = length_push b y in omega arith)
same_front (c ∷ a) [] x y e = absurd (let l = ap length e in let k = length_push a x in omega arith)
same_front (c ∷ a) (d ∷ b) x y e = let h : c ≡ d = cc in let t : a ++ x ∷ [] ≡ b ++ y ∷ [] = cc in let r = same_front a b x y t in cc

pub words_again : (body : List ℕ) (last : ℕ) (kind : List ℕ) (words : List (List ℕ)) → AreWords (kind ∷ words) → body ++ last ∷ [] ≡ sentence (kind ∷ words) → slice_split (λ b. b == 32) body ≡ kind ∷ words
words_again body last kind words v e =
    ap (slice_split (λ b. b == 32)) (same_front body (join_with_byte 32 (kind ∷ words)) last 10 e) ∙ cut_joined 32 kind words (words_unlike 32 (kind ∷ words) (omega arith) v.all)

-- What a line was guessed to be, compared with the line, tells what it is.
split_first : (body : List ℕ) (last : ℕ) (words : List (List ℕ)) → AreWords words → body ++ last ∷ [] ≡ sentence words → 0 < length words → slice_split (λ b. b == 32) body ≡ words
split_first body last [] v line n = absurd (omega arith)
split_first body last (kind ∷ words) v line n = words_again body last kind words v line

some_registry : (e : RegEntry) → 0 < length (reg_words e)
some_registry (Enlist caller spec answer) = omega arith
some_registry (Look caller text plain answer) = omega arith
some_registry (Claim caller larval) = omega arith
some_registry (End caller larval answer) = omega arith
some_registry (Waited caller larval) = omega arith
some_registry (Unlist caller driver answer) = omega arith
some_registry (Get caller id ok) = omega arith
some_registry (Put caller id) = omega arith
some_registry (Refs caller driver) = omega arith
some_registry (reg.List caller) = omega arith

some_board : (e : BoardEntry AskLine) → 0 < length (board_words origin_of e)
some_board (Born caller pipe shape) = omega arith
some_board (Submit caller pipe number ask) = omega arith
some_board (Take caller pipe number) = omega arith
some_board (Finish caller pipe number) = omega arith
some_board (Enq caller pipe ask backlog answer) = omega arith
some_board (Deq caller pipe number started) = omega arith
some_board (Done caller pipe number) = omega arith
some_board (Hold caller pipe) = omega arith
some_board (Go caller pipe) = omega arith
some_board (Collect caller pipe to) = omega arith
some_board (Close caller pipe) = omega arith
some_board (Share caller pipe) = omega arith
some_board (Mask caller pipe mask) = omega arith
some_board (Shut caller) = omega arith

-- an event's own line is cut into words, and read as that event
pub event_read : (body : List ℕ) (last : ℕ) (line : List ℕ) (e : Event) → line ≡ body ++ last ∷ [] → IsLineOf line e
    → (list_all is_word (slice_split (λ b. b == 32) body) ≡ true) × (event_in (slice_split (λ b. b == 32) body) ≡ Some (anywhere e))
event_read body last line (event.Registry e) cut k =
    let p = and_parts (has_text e) (fits e) k.0 in
    let v = registry_are e p.0 p.1 in
    let w = split_first body last (reg_words e) v (sym cut ∙ k.1) (some_registry e) in
    (ap (list_all is_word) w ∙ v.all, ap event_in w ∙ registry_again e p.0 p.1)
event_read body last line (event.Board e) cut k =
    let v = board_are e k.0 in
    let w = split_first body last (board_words origin_of e) v (sym cut ∙ k.1) (some_board e) in
    (ap (list_all is_word) w ∙ v.all, ap event_in w ∙ board_again e k.0)
