-- What words are read as is an event: its numbers are within their types, and its names are among the words.
use Rattle.std.proofs.Common.{◌≡◌, ℕ, ◌+◌, ◌*◌, ◌-◌, ◌^◌, ◌<◌, Bool, true, false, cond, ◌&&◌, List, [], ◌∷◌, map, Option, Some, None, refl, ap, subst, arith}
use Rattle.std.specs.Prelude.{nat_le, codes, unwrap_or, MatchOption, ⊤}
use Rattle.std.specs.List.{list_all, slice_split}
use Rattle.std.specs.Option.{option_map}
use Rattle.std.specs.Str.{bytes_eq}
use Rattle.std.proofs.lemmas.Bool.{and_parts, and_from, lt-ltb}
use Rattle.alg_registry.specs.declared.entry.Looked.TheVariants.{Found, Pending, Began}
use Rattle.alg_registry.specs.declared.entry.Enlisted.TheVariants.{Exist, NFile}
use Rattle.alg_registry.specs.declared.entry.EndAnswer.{EndAnswer}
use Rattle.alg_registry.specs.declared.entry.EndAnswer.TheVariants.{NoMemory}
use Rattle.alg_registry.specs.declared.entry.RegEntry.{RegEntry}
use Rattle.alg_registry.specs.declared.entry.RegEntry.TheVariants.{Enlist}
use Rattle.alg_registry.specs.declared.entry.RegEntry.TheVariants as reg
use Rattle.board.specs.declared.entry.Shape.TheVariants.{Pad, Queue}
use Rattle.board.specs.declared.entry.Entered.TheVariants.{InProgress, Busy}
use Rattle.board.specs.declared.entry.BoardEntry.{BoardEntry}
use Rattle.board.specs.declared.entry.BoardEntry.TheVariants as says
use Rattle.trace_text.specs.Trace.{is_word, end_has_text, has_text, is_u16, is_u32, is_u64, enlisted_fits, looked_fits, end_fits, option_fits, shape_fits, entered_fits, is_event, board_fits, origin_fits}
use Rattle.trace_check.specs.declared.lines.Event.{Event}
use Rattle.trace_check.specs.declared.lines.Event.TheVariants as event
use Rattle.trace_check.specs.declared.lines.AskLine.{AskLine}
use Rattle.trace_check.specs.Lines.{origin_of}
use Rattle.trace_check.specs.EventParser.{digit_after, number_at, number_of, small_of, is_comma, ids_of, kind_of, enlisted_of, plain_spec, enlist_of, looked_of, look_of, built_of, joined_of, failed_of, ending_of, end_of, unlist_of, get_of, refs_of, lone_number, pair_in, numbered_of, registry_of, shape_of, born_of, submit_of, entered_of, enq_of, started_of, deq_of, short_of, hex_value, mask_in, mask_of, board_of, event_in, origin_in, origin_read, is_dot}

abbrev AreWords : List (List ℕ) → Type 0
AreWords words = list_all is_word words ≡ true

first_word : (word : List ℕ) (words : List (List ℕ)) → AreWords (word ∷ words) → is_word word ≡ true
first_word word words h = (and_parts (is_word word) (list_all is_word words) h).0

more_words : (word : List ℕ) (words : List (List ℕ)) → AreWords (word ∷ words) → AreWords words
more_words word words h = (and_parts (is_word word) (list_all is_word words) h).1

-- a choice of two that pass
either : {X : Type 0} (P : X → Type 0) (b : Bool) (x y : X) → P x → P y → P (cond b x y)
either P true x y p q = p
either P false x y p q = q

-- Numbers.
digit_fits : (a b : Bool) (n : ℕ) → is_u64 n ≡ b → option_fits (cond (a && b) (Some n) None) ≡ true
digit_fits true true n h = h
digit_fits true false n h = refl
digit_fits false b n h = refl

digits_fit : (o : Option ℕ) (digits : List ℕ) → option_fits o ≡ true → option_fits (number_at o digits) ≡ true
digits_fit None [] h = refl
digits_fit None (c ∷ cs) h = refl
digits_fit (Some v) [] h = h
digits_fit (Some v) (c ∷ cs) h = digits_fit (digit_after v c) cs (digit_fits (nat_le 48 c) (is_u64 (v * 10 + (c - 48))) (v * 10 + (c - 48)) refl)

or_none : (o : Option ℕ) → option_fits o ≡ true → is_u64 (unwrap_or o 0) ≡ true
or_none None h = refl
or_none (Some n) h = h

number_fits : (word : List ℕ) → is_u64 (number_of word) ≡ true
number_fits word = or_none (number_at (Some 0) word) (digits_fit (Some 0) word refl)

small_by : (b : Bool) (n : ℕ) → is_u32 n ≡ b → is_u32 (cond b n 0) ≡ true
small_by true n h = h
small_by false n h = refl

small_fits : (word : List ℕ) → is_u32 (small_of word) ≡ true
small_fits word = small_by (is_u32 (number_of word)) (number_of word) refl

numbers_fit : (words : List (List ℕ)) → list_all is_u64 (map number_of words) ≡ true
numbers_fit [] = refl
numbers_fit (word ∷ words) = and_from (is_u64 (number_of word)) (list_all is_u64 (map number_of words)) (number_fits word) (numbers_fit words)

ids_fit : (word : List ℕ) → list_all is_u64 (ids_of word) ≡ true
ids_fit word = either (λ ids. list_all is_u64 ids ≡ true) (bytes_eq word (codes "-")) [] (map number_of (slice_split is_comma word)) refl (numbers_fit (slice_split is_comma word))

mask_fits : (word : List ℕ) → is_u16 (mask_in word) ≡ true
mask_fits [] = refl
mask_fits (a ∷ []) = refl
mask_fits (a ∷ b ∷ []) = refl
mask_fits (a ∷ b ∷ c ∷ []) = refl
mask_fits (a ∷ b ∷ c ∷ d ∷ []) =
    four (hex_value a) (hex_value b) (hex_value c) (hex_value d) (omega arith) (omega arith) (omega arith) (omega arith)
  where
    four : (a b c d : ℕ) → a < 16 → b < 16 → c < 16 → d < 16 → is_u16 (a * 4096 + b * 256 + c * 16 + d) ≡ true
    four a b c d h i j k = lt-ltb (a * 4096 + b * 256 + c * 16 + d) (2 ^ 16) (omega arith)
mask_fits (a ∷ b ∷ c ∷ d ∷ e ∷ more) = refl

-- Parts of events.
enlisted_fit : (words : List (List ℕ)) → enlisted_fits (enlisted_of words) ≡ true
enlisted_fit [] = refl
enlisted_fit (word ∷ []) = either (λ a. enlisted_fits a ≡ true) (bytes_eq word (codes "EEXIST")) Exist NFile refl refl
enlisted_fit (word ∷ id ∷ []) = number_fits id
enlisted_fit (word ∷ id ∷ x ∷ more) = refl

looked_fit : (words : List (List ℕ)) → looked_fits (looked_of words) ≡ true
looked_fit [] = refl
looked_fit (word ∷ []) = refl
looked_fit (word ∷ number ∷ []) =
    either (λ a. looked_fits a ≡ true) (bytes_eq word (codes "found")) (Found (number_of number)) _ (number_fits number)
    (either (λ a. looked_fits a ≡ true) (bytes_eq word (codes "pending")) (Pending (number_of number)) (Began (number_of number)) (number_fits number) (number_fits number))
looked_fit (word ∷ number ∷ x ∷ more) = refl

-- what a larval ended with: its names are words, and its numbers fit
IsGoodEnd : EndAnswer → Type 0
IsGoodEnd answer = (end_has_text answer ≡ true) × (end_fits answer ≡ true)

built_good : (words : List (List ℕ)) → AreWords words → IsGoodEnd (built_of words)
unfolding IsGoodEnd
built_good [] h = (refl, refl)
built_good (a ∷ []) h = (refl, refl)
built_good (a ∷ b ∷ []) h = (refl, refl)
built_good (id ∷ name ∷ driver ∷ []) h = (refl, refl)
built_good (id ∷ name ∷ driver ∷ a ∷ []) h = (refl, refl)
built_good (id ∷ name ∷ driver ∷ a ∷ b ∷ []) h = (refl, refl)
built_good (id ∷ name ∷ driver ∷ a ∷ b ∷ c ∷ []) h = (refl, refl)
built_good (id ∷ name ∷ driver ∷ kind ∷ wrap ∷ priority ∷ below ∷ []) h =
    let rest = kind ∷ wrap ∷ priority ∷ below ∷ [] in
    let n = more_words id (name ∷ driver ∷ rest) h in (
      and_from (is_word name) (is_word driver) (first_word name (driver ∷ rest) n) (first_word driver rest (more_words name (driver ∷ rest) n)),
      and_from (is_u64 (number_of id)) _ (number_fits id) (and_from (is_u32 (small_of priority)) (list_all is_u64 (ids_of below)) (small_fits priority) (ids_fit below)),
    )
built_good (id ∷ name ∷ driver ∷ a ∷ b ∷ c ∷ d ∷ e ∷ more) h = (refl, refl)

joined_good : (words : List (List ℕ)) → IsGoodEnd (joined_of words)
unfolding IsGoodEnd
joined_good [] = (refl, refl)
joined_good (a ∷ []) = (refl, refl)
joined_good (id ∷ below ∷ []) = (refl, and_from (is_u64 (number_of id)) (list_all is_u64 (ids_of below)) (number_fits id) (ids_fit below))
joined_good (a ∷ b ∷ c ∷ more) = (refl, refl)

failed_good : (words : List (List ℕ)) → IsGoodEnd (failed_of words)
unfolding IsGoodEnd
failed_good [] = (refl, refl)
failed_good (errno ∷ []) = (refl, refl)
failed_good (a ∷ b ∷ more) = (refl, refl)

none_good : IsGoodEnd NoMemory
unfolding IsGoodEnd
none_good = (refl, refl)

ending_good : (word : List ℕ) (words : List (List ℕ)) → AreWords words → IsGoodEnd (ending_of word words)
ending_good word words h =
    either IsGoodEnd (bytes_eq word (codes "built")) (built_of words) _ (built_good words h)
    (either IsGoodEnd (bytes_eq word (codes "joined")) (joined_of words) _ (joined_good words)
    (either IsGoodEnd (bytes_eq word (codes "failed")) (failed_of words) NoMemory (failed_good words) none_good))

-- Events of a registry.
IsReg : Option RegEntry → Type 0
IsReg o = MatchOption o ⊤ (λ e. is_event e ≡ true)

enlist_good : (caller : ℕ) (words : List (List ℕ)) → is_u32 caller ≡ true → AreWords words → IsReg (enlist_of caller words)
unfolding IsReg
enlist_good caller [] c h = tt
enlist_good caller (a ∷ []) c h = tt
enlist_good caller (a ∷ b ∷ []) c h = tt
enlist_good caller (a ∷ b ∷ x ∷ []) c h = tt
enlist_good caller (name ∷ driver ∷ kind ∷ priority ∷ answer) c h =
    let w = and_from (is_word name) (is_word driver) (first_word name (driver ∷ kind ∷ priority ∷ answer) h) (first_word driver (kind ∷ priority ∷ answer) (more_words name (driver ∷ kind ∷ priority ∷ answer) h)) in
    let t : has_text (Enlist caller (plain_spec name driver (kind_of kind) (small_of priority)) (enlisted_of answer)) ≡ true = ap (λ b. b && true && true) w in
    and_from (has_text (Enlist caller (plain_spec name driver (kind_of kind) (small_of priority)) (enlisted_of answer))) _ t
    (and_from (is_u32 caller) _ c (and_from (is_u32 (small_of priority)) (enlisted_fits (enlisted_of answer)) (small_fits priority) (enlisted_fit answer)))

look_good : (caller : ℕ) (words : List (List ℕ)) → is_u32 caller ≡ true → AreWords words → IsReg (look_of caller words)
unfolding IsReg
look_good caller [] c h = tt
look_good caller (a ∷ []) c h = tt
look_good caller (text ∷ sight ∷ answer) c h = and_from (is_word text) _ (first_word text (sight ∷ answer) h) (and_from (is_u32 caller) (looked_fits (looked_of answer)) c (looked_fit answer))

end_good : (caller : ℕ) (words : List (List ℕ)) → is_u32 caller ≡ true → AreWords words → IsReg (end_of caller words)
unfolding IsReg IsGoodEnd
end_good caller [] c h = tt
end_good caller (a ∷ []) c h = tt
end_good caller (larval ∷ word ∷ words) c h =
    let g = ending_good word words (more_words word words (more_words larval (word ∷ words) h)) in
    and_from (end_has_text (ending_of word words)) _ g.0 (and_from (is_u32 caller) _ c (and_from (is_u64 (number_of larval)) (end_fits (ending_of word words)) (number_fits larval) g.1))

unlist_good : (caller : ℕ) (words : List (List ℕ)) → is_u32 caller ≡ true → AreWords words → IsReg (unlist_of caller words)
unfolding IsReg
unlist_good caller [] c h = tt
unlist_good caller (a ∷ []) c h = tt
unlist_good caller (driver ∷ word ∷ []) c h = and_from (is_word driver) _ (first_word driver (word ∷ []) h) (and_from (is_u32 caller) true c refl)
unlist_good caller (driver ∷ word ∷ id ∷ []) c h = and_from (is_word driver) _ (first_word driver (word ∷ id ∷ []) h) (and_from (is_u32 caller) (is_u64 (number_of id)) c (number_fits id))
unlist_good caller (a ∷ b ∷ x ∷ y ∷ more) c h = tt

get_good : (caller : ℕ) (words : List (List ℕ)) → is_u32 caller ≡ true → IsReg (get_of caller words)
unfolding IsReg
get_good caller [] c = tt
get_good caller (a ∷ []) c = tt
get_good caller (id ∷ word ∷ []) c = and_from (is_u32 caller) (is_u64 (number_of id)) c (number_fits id)
get_good caller (a ∷ b ∷ x ∷ more) c = tt

refs_good : (caller : ℕ) (words : List (List ℕ)) → is_u32 caller ≡ true → AreWords words → IsReg (refs_of caller words)
unfolding IsReg
refs_good caller [] c h = tt
refs_good caller (driver ∷ []) c h = and_from (is_word driver) (is_u32 caller) (first_word driver [] h) c
refs_good caller (a ∷ b ∷ more) c h = tt

numbered_good : (caller : ℕ) (name : List ℕ) (words : List (List ℕ)) → is_u32 caller ≡ true → IsReg (numbered_of caller name (lone_number words))
unfolding IsReg
numbered_good caller name [] c = tt
numbered_good caller name (number ∷ []) c =
    let f = and_from (is_u32 caller) (is_u64 (number_of number)) c (number_fits number) in
    let P : Option RegEntry → Type 0 = λ o. MatchOption o ⊤ (λ e. is_event e ≡ true) in
    either P (bytes_eq name (codes "claim")) _ _ f (either P (bytes_eq name (codes "waited")) _ _ f (either P (bytes_eq name (codes "put")) _ _ f tt))
numbered_good caller name (a ∷ b ∷ more) c = tt

list_good : (caller : ℕ) → is_u32 caller ≡ true → IsReg (Some (reg.List caller))
unfolding IsReg
list_good caller c = c

registry_good : (caller : ℕ) (name : List ℕ) (words : List (List ℕ)) → is_u32 caller ≡ true → AreWords words → IsReg (registry_of caller name words)
registry_good caller name words c h =
    either IsReg (bytes_eq name (codes "enlist")) _ _ (enlist_good caller words c h)
    (either IsReg (bytes_eq name (codes "look")) _ _ (look_good caller words c h)
    (either IsReg (bytes_eq name (codes "end")) _ _ (end_good caller words c h)
    (either IsReg (bytes_eq name (codes "unlist")) _ _ (unlist_good caller words c h)
    (either IsReg (bytes_eq name (codes "get")) _ _ (get_good caller words c)
    (either IsReg (bytes_eq name (codes "refs")) _ _ (refs_good caller words c h)
    (either IsReg (bytes_eq name (codes "list")) _ _ (list_good caller c) (numbered_good caller name words c)))))))

-- Events of a board.
IsBrd : Option (BoardEntry AskLine) → Type 0
IsBrd o = MatchOption o ⊤ (λ e. board_fits origin_of e ≡ true)

shape_fit : (word : List ℕ) (size : ℕ) → is_u32 size ≡ true → shape_fits (shape_of word size) ≡ true
shape_fit word size f = either (λ s. shape_fits s ≡ true) (bytes_eq word (codes "pad")) (Pad size) (Queue size) f f

entered_fit : (words : List (List ℕ)) → entered_fits (entered_of words) ≡ true
entered_fit [] = refl
entered_fit (word ∷ []) = refl
entered_fit (word ∷ number ∷ []) = either (λ a. entered_fits a ≡ true) (bytes_eq word (codes "EBUSY")) (Busy (number_of number)) (InProgress (number_of number)) (number_fits number) (number_fits number)
entered_fit (word ∷ number ∷ x ∷ more) = refl

started_fit : (words : List (List ℕ)) → option_fits (started_of words) ≡ true
started_fit [] = refl
started_fit (word ∷ []) = refl
started_fit (word ∷ number ∷ []) = number_fits number
started_fit (word ∷ number ∷ x ∷ more) = refl

origin_in_fits : (parts : List (List ℕ)) → origin_fits (origin_in parts) ≡ true
origin_in_fits [] = refl
origin_in_fits (line ∷ []) = small_fits line
origin_in_fits (client ∷ line ∷ []) = and_from (is_u32 (small_of client)) (is_u32 (small_of line)) (small_fits client) (small_fits line)
origin_in_fits (a ∷ b ∷ x ∷ more) = refl

origin_read_fits : (word : List ℕ) → origin_fits (origin_read word) ≡ true
origin_read_fits word = origin_in_fits (slice_split is_dot word)

born_good : (caller : ℕ) (words : List (List ℕ)) → is_u32 caller ≡ true → IsBrd (born_of caller words)
unfolding IsBrd
born_good caller [] c = tt
born_good caller (a ∷ []) c = tt
born_good caller (a ∷ b ∷ []) c = tt
born_good caller (pipe ∷ word ∷ size ∷ []) c = and_from (is_u32 caller) _ c (and_from (is_u64 (number_of pipe)) _ (number_fits pipe) (shape_fit word (small_of size) (small_fits size)))
born_good caller (pipe ∷ word ∷ max ∷ lists ∷ []) c =
    and_from (is_u32 caller) _ c (and_from (is_u64 (number_of pipe)) _ (number_fits pipe) (and_from (is_u32 (small_of max)) (is_u32 (small_of lists)) (small_fits max) (small_fits lists)))
born_good caller (a ∷ b ∷ x ∷ y ∷ z ∷ more) c = tt

submit_good : (caller : ℕ) (words : List (List ℕ)) → is_u32 caller ≡ true → IsBrd (submit_of caller words)
unfolding IsBrd
submit_good caller [] c = tt
submit_good caller (a ∷ []) c = tt
submit_good caller (a ∷ b ∷ []) c = tt
submit_good caller (pipe ∷ number ∷ line ∷ []) c =
    and_from (is_u32 caller) _ c (and_from (is_u64 (number_of pipe)) _ (number_fits pipe) (and_from (is_u64 (number_of number)) (origin_fits (origin_read line)) (number_fits number) (origin_read_fits line)))
submit_good caller (a ∷ b ∷ x ∷ y ∷ more) c = tt

enq_good : (caller : ℕ) (words : List (List ℕ)) → is_u32 caller ≡ true → IsBrd (enq_of caller words)
unfolding IsBrd
enq_good caller [] c = tt
enq_good caller (a ∷ []) c = tt
enq_good caller (a ∷ b ∷ []) c = tt
enq_good caller (pipe ∷ line ∷ backlog ∷ answer) c =
    and_from (is_u32 caller) _ c (and_from (is_u64 (number_of pipe)) _ (number_fits pipe) (and_from (origin_fits (origin_read line)) (entered_fits (entered_of answer)) (origin_read_fits line) (entered_fit answer)))

deq_good : (caller : ℕ) (words : List (List ℕ)) → is_u32 caller ≡ true → IsBrd (deq_of caller words)
unfolding IsBrd
deq_good caller [] c = tt
deq_good caller (a ∷ []) c = tt
deq_good caller (pipe ∷ number ∷ answer) c =
    and_from (is_u32 caller) _ c (and_from (is_u64 (number_of pipe)) _ (number_fits pipe) (and_from (is_u64 (number_of number)) (option_fits (started_of answer)) (number_fits number) (started_fit answer)))

mask_good : (caller : ℕ) (words : List (List ℕ)) → is_u32 caller ≡ true → IsBrd (mask_of caller words)
unfolding IsBrd
mask_good caller [] c = tt
mask_good caller (a ∷ []) c = tt
mask_good caller (pipe ∷ mask ∷ []) c = and_from (is_u32 caller) _ c (and_from (is_u64 (number_of pipe)) (is_u16 (mask_in mask)) (number_fits pipe) (mask_fits mask))
mask_good caller (a ∷ b ∷ x ∷ more) c = tt

shut_good : (caller : ℕ) → is_u32 caller ≡ true → IsBrd (Some (says.Shut caller))
unfolding IsBrd
shut_good caller c = c

short_good : (caller : ℕ) (name : List ℕ) (words : List (List ℕ)) → is_u32 caller ≡ true → IsBrd (short_of caller name (lone_number words) (pair_in words))
unfolding IsBrd
short_good caller name [] c = tt
short_good caller name (pipe ∷ []) c =
    let f = and_from (is_u32 caller) (is_u64 (number_of pipe)) c (number_fits pipe) in
    let P : Option (BoardEntry AskLine) → Type 0 = λ o. MatchOption o ⊤ (λ e. board_fits origin_of e ≡ true) in
    either P (bytes_eq name (codes "hold")) _ _ f (either P (bytes_eq name (codes "go")) _ _ f (either P (bytes_eq name (codes "close")) _ _ f (either P (bytes_eq name (codes "share")) _ _ f tt)))
short_good caller name (pipe ∷ number ∷ []) c =
    let f = and_from (is_u32 caller) _ c (and_from (is_u64 (number_of pipe)) (is_u64 (number_of number)) (number_fits pipe) (number_fits number)) in
    let P : Option (BoardEntry AskLine) → Type 0 = λ o. MatchOption o ⊤ (λ e. board_fits origin_of e ≡ true) in
    either P (bytes_eq name (codes "take")) _ _ f (either P (bytes_eq name (codes "finish")) _ _ f (either P (bytes_eq name (codes "done")) _ _ f (either P (bytes_eq name (codes "collect")) _ _ f tt)))
short_good caller name (a ∷ b ∷ x ∷ more) c = tt

board_good : (caller : ℕ) (name : List ℕ) (words : List (List ℕ)) → is_u32 caller ≡ true → IsBrd (board_of caller name words)
board_good caller name words c =
    either IsBrd (bytes_eq name (codes "born")) _ _ (born_good caller words c)
    (either IsBrd (bytes_eq name (codes "submit")) _ _ (submit_good caller words c)
    (either IsBrd (bytes_eq name (codes "enq")) _ _ (enq_good caller words c)
    (either IsBrd (bytes_eq name (codes "deq")) _ _ (deq_good caller words c)
    (either IsBrd (bytes_eq name (codes "mask")) _ _ (mask_good caller words c)
    (either IsBrd (bytes_eq name (codes "shut")) _ _ (shut_good caller c) (short_good caller name words c))))))

-- Either.
abbrev pub IsFit : Option Event → Type 0
IsFit None = ⊤
IsFit (Some (event.Registry e)) = is_event e ≡ true
IsFit (Some (event.Board e)) = board_fits origin_of e ≡ true

fit_reg : (o : Option RegEntry) → IsReg o → IsFit (option_map event.Registry o)
unfolding IsReg
fit_reg None h = tt
fit_reg (Some e) h = h

fit_board : (o : Option (BoardEntry AskLine)) → IsBrd o → IsFit (option_map event.Board o)
unfolding IsBrd
fit_board None h = tt
fit_board (Some e) h = h

read_fits : (words : List (List ℕ)) → AreWords words → IsFit (event_in words)
read_fits [] h = tt
read_fits (a ∷ []) h = tt
read_fits (a ∷ b ∷ []) h = tt
read_fits (kind ∷ caller ∷ name ∷ args) h =
    let w = more_words name args (more_words caller (name ∷ args) (more_words kind (caller ∷ name ∷ args) h)) in
    either IsFit (bytes_eq kind (codes "r")) _ _ (fit_reg (registry_of (small_of caller) name args) (registry_good (small_of caller) name args (small_fits caller) w)) (fit_board (board_of (small_of caller) name args) (board_good (small_of caller) name args (small_fits caller)))

pub event_fits : (words : List (List ℕ)) (o : Option Event) → AreWords words → event_in words ≡ o → IsFit o
event_fits words o h e = subst IsFit e (read_fits words h)
