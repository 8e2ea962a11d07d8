-- No list of bytes in a line is longer than its text.
use Rattle.std.proofs.Common.{◌≡◌, ℕ, ◌+◌, ◌-◌, ◌≤◌, Bool, true, false, cond, List, [], ◌∷◌, length, Option, Some, None, inl, inr, sym, subst, arith, lit<, length-take}
use Rattle.std.specs.Prelude.{nat_lt, filter, IfSome, IfOk, All, nat_le, ◌&&◌, Result, Ok, Err, codes}
use Rattle.std.specs.List.{concat, onto_first, slice_split, list_all}
use Rattle.std.specs.Result.{result_ok}
use Rattle.std.specs.Str.{bytes_eq}
use Rattle.hex.specs.Hex.{decode_of}
use Rattle.sg_walk.specs.Segments.{Segmented, segmented}
use Rattle.script_text.proofs.HexLemmas.{decoded_up_to}
use Rattle.script_text.proofs.PartLemmas.{parts_fit}
use Rattle.script_text.specs.Lines.{ends_with, without_last, without_return}
use Rattle.std.proofs.lemmas.Option.{IfSome_then}
use Rattle.std.proofs.lemmas.List.Elements.{All-nil, All-cons}
use Rattle.std.proofs.lemmas.Bool.{cases_lt}
use borrow.Author.Tests.{lt-ltb}
use Rattle.script_text.specs.declared.commands.Line.{Line}
use Rattle.script_text.specs.declared.commands.Line.TheVariants.{Nothing, Malformed}
use Rattle.script_text.specs.Tokens.{tokens_of, is_blank, is_visible, is_comment}
use Rattle.script_text.specs.Arguments.{◌>>=◌, hex_of, hexes_of, are_segments, is_bar, text_of, label_of, lone_label_of, is_label, number_of, mask_of, length_of, names_of, backlog_of}
use Rattle.script_text.specs.Commands.{aes_row, register_row, unregister_row, probe_row, alloc_row, key_row, authsize_row, aead_row, mac_row, bulk_row, mask_row, label_row, refs_row, list_row, command_of}
use Rattle.script_text.specs.Script.{command_line, line_of_tokens, line_of_text}
use Rattle.script_text.specs.Sizes.{IsShort, IsShortCommand, IsShortLine}
use Rattle.script_text.specs.declared.commands.Command.{Command}
use Rattle.script_text.specs.declared.commands.Command.TheVariants as says

-- ---- tokens

-- each of the lists has at most n elements
abbrev pub AllUpTo : ℕ → List (List ℕ) → Type 0
AllUpTo n [] = Unit {0}
AllUpTo n (xs ∷ xss) = (length xs ≤ n) × AllUpTo n xss

up_to_more : (n m : ℕ) (xss : List (List ℕ)) → n ≤ m → AllUpTo n xss → AllUpTo m xss
up_to_more n m [] le h = tt
up_to_more n m (xs ∷ xss) le h = (omega (arith, h.0), up_to_more n m xss le h.1)

onto_first_up_to : (n b : ℕ) (xss : List (List ℕ)) → AllUpTo n xss → AllUpTo (n + 1) (onto_first b xss)
onto_first_up_to n b [] h = (omega arith, tt)
onto_first_up_to n b (xs ∷ xss) h = (omega (arith, h.0), up_to_more n (n + 1) xss (omega arith) h.1)

cond_up_to : (n : ℕ) (c : Bool) (xss yss : List (List ℕ)) → AllUpTo n xss → AllUpTo n yss → AllUpTo n (cond c xss yss)
cond_up_to n true xss yss h k = h
cond_up_to n false xss yss h k = k

split_up_to : (p : ℕ → Bool) (text : List ℕ) → AllUpTo (length text) (slice_split p text)
split_up_to p [] = (omega arith, tt)
split_up_to p (b ∷ bs) =
    let parts = slice_split p bs in
    let h : AllUpTo (length bs) parts = split_up_to p bs in
    cond_up_to (length (b ∷ bs)) (p b) ([] ∷ parts) (onto_first b parts)
    (omega arith, up_to_more (length bs) (length (b ∷ bs)) parts (omega arith) h)
    (up_to_more (length bs + 1) (length (b ∷ bs)) (onto_first b parts) (omega arith) (onto_first_up_to (length bs) b parts h))

filter_up_to : (n : ℕ) (p : List ℕ → Bool) (xss : List (List ℕ)) → AllUpTo n xss → AllUpTo n (filter p xss)
filter_up_to n p [] h = tt
filter_up_to n p (xs ∷ xss) h =
    let rest = filter_up_to n p xss h.1 in
    cond_up_to n (p xs) (xs ∷ filter p xss) (filter p xss) (h.0, rest) rest

tokens_up_to : (n : ℕ) (text : List ℕ) → length text ≤ n → AllUpTo n (tokens_of text)
tokens_up_to n text le = up_to_more (length text) n (tokens_of text) le (filter_up_to (length text) _ _ (split_up_to is_blank text))

-- ---- arguments

-- what is spelled, if anything is, is short
abbrev pub SpellsShort : Option (List ℕ) → Type 0
SpellsShort spelled = IfSome spelled IsShort

-- each of the lists is short
abbrev pub AllShort : List (List ℕ) → Type 0
AllShort [] = Unit {0}
AllShort (xs ∷ xss) = IsShort xs × AllShort xss

short_from_up_to : (xss : List (List ℕ)) → AllUpTo 65536 xss → AllShort xss
short_from_up_to [] h = tt
short_from_up_to (xs ∷ xss) h = (omega (arith, h.0), short_from_up_to xss h.1)

all_from : (xss : List (List ℕ)) → AllShort xss → All IsShort xss
all_from [] h = All-nil IsShort
all_from (xs ∷ xss) h = All-cons IsShort xs xss h.0 (all_from xss h.1)

label_short : (token : List ℕ) → IsShort token → SpellsShort (label_of token)
label_short token h = elim (is_label token) as (λ c. SpellsShort (cond c (Some token) None)) [ true ↦ h | false ↦ tt ]

lone_label_short : (args : List (List ℕ)) → AllShort args → SpellsShort (lone_label_of args)
lone_label_short (token ∷ []) h = label_short token h.0
lone_label_short other h = tt

hex_short : (token : List ℕ) → IsShort token → SpellsShort (hex_of token)
hex_short token h =
    elim (bytes_eq token (codes "-")) as (λ c. SpellsShort (cond c (Some []) (result_ok (decode_of token)))) [
      | true ↦ lit< tt
      | false ↦ IfSome_then (result_ok (decode_of token)) (decoded_up_to token) (λ bytes le. omega arith)
    ]

text_short_in : (token : List ℕ) (spelled : Option (List (List ℕ))) → IsShort token → IfSome spelled (λ parts. length (concat parts) ≤ length token)
    → IfSome (spelled >>= (λ parts. cond (are_segments parts) (Some (segmented parts)) None)) (λ text. IsShort text.text)
text_short_in token (Some parts) h fits = elim (are_segments parts) as (λ c. IfSome (cond c (Some (segmented parts)) None) (λ text. IsShort text.text)) [ true ↦ omega (arith, h, fits) | false ↦ tt ]
text_short_in token None h fits = tt

segments_short : (token : List ℕ) → IsShort token → IfSome (text_of token) (λ text. IsShort text.text)
segments_short token h = text_short_in token (hexes_of (slice_split is_bar token)) h (parts_fit token)

-- ---- rows

-- the command that is spelled, if one is, has short lists alone
abbrev pub RowIsShort : Option Command → Type 0
RowIsShort row = IfSome row IsShortCommand

-- a row's next argument, which is short
after : (first : Option (List ℕ)) (next : List ℕ → Option Command) → SpellsShort first → ((bytes : List ℕ) → IsShort bytes → RowIsShort (next bytes)) → RowIsShort (first >>= next)
after (Some bytes) next h k = k bytes h
after None next h k = tt

-- a text, which is short
after_text : (first : Option Segmented) (next : Segmented → Option Command) → IfSome first (λ text. IsShort text.text)
    → ((text : Segmented) → IsShort text.text → RowIsShort (next text)) → RowIsShort (first >>= next)
after_text (Some text) next h k = k text h
after_text None next h k = tt

-- and one that is no list
after_any : {A : Type 0} (first : Option A) (next : A → Option Command) → ((x : A) → RowIsShort (next x)) → RowIsShort (first >>= next)
after_any (Some x) next k = k x
after_any None next k = tt

aes_short : (args : List (List ℕ)) → AllShort args → RowIsShort (aes_row args)
aes_short (key ∷ block ∷ []) h = after (hex_of key) _ (hex_short key h.0) (λ k hk. after (hex_of block) _ (hex_short block h.1.0) (λ b hb. (hk, hb)))
aes_short other h = tt

register_short : (args : List (List ℕ)) → AllShort args → RowIsShort (register_row args)
register_short (driver ∷ priority ∷ []) h = after_any (number_of priority) _ (λ n. h.0)
register_short other h = tt

unregister_short : (args : List (List ℕ)) → AllShort args → RowIsShort (unregister_row args)
unregister_short (driver ∷ []) h = h.0
unregister_short other h = tt

names_short : (args : List (List ℕ)) → AllShort args → IfSome (names_of args) (λ names. All IsShort names)
names_short args h = elim (nat_lt 0 (length args) && nat_le (length args) 16) as (λ c. IfSome (cond c (Some args) None) (λ names. All IsShort names)) [ true ↦ all_from args h | false ↦ tt ]

probe_of : (names : Option (List (List ℕ))) → IfSome names (λ names. All IsShort names) → RowIsShort (names >>= (λ names. Some (says.Probe names)))
probe_of (Some names) h = h
probe_of None h = tt

probe_short : (args : List (List ℕ)) → AllShort args → RowIsShort (probe_row args)
probe_short args h = probe_of (names_of args) (names_short args h)

alloc_short : (args : List (List ℕ)) → AllShort args → RowIsShort (alloc_row args)
alloc_short (label ∷ name ∷ more) h = after (label_of label) _ (label_short label h.0) (λ l hl. after_any (length_of more) _ (λ n. (hl, h.1.0)))
alloc_short other h = tt

key_short : (args : List (List ℕ)) → AllShort args → RowIsShort (key_row args)
key_short (label ∷ key ∷ []) h = after (label_of label) _ (label_short label h.0) (λ l hl. after (hex_of key) _ (hex_short key h.1.0) (λ k hk. (hl, hk)))
key_short other h = tt

authsize_short : (args : List (List ℕ)) → AllShort args → RowIsShort (authsize_row args)
authsize_short (label ∷ size ∷ []) h = after (label_of label) _ (label_short label h.0) (λ l hl. after_any (number_of size) _ (λ n. hl))
authsize_short other h = tt

aead_short : (command : List ℕ → List ℕ → List ℕ → Segmented → Bool → Command)
    → ((l iv a : List ℕ) (t : Segmented) (b : Bool) → IsShort l → IsShort iv → IsShort a → IsShort t.text → IsShortCommand (command l iv a t b))
    → (args : List (List ℕ)) → AllShort args → RowIsShort (aead_row command args)
aead_short command put (label ∷ iv ∷ aad ∷ text ∷ more) h =
    after (label_of label) _ (label_short label h.0) (λ l hl.
    after (hex_of iv) _ (hex_short iv h.1.0) (λ i hi.
    after (hex_of aad) _ (hex_short aad h.1.1.0) (λ a ha.
    after_text (text_of text) _ (segments_short text h.1.1.1.0) (λ t ht.
    after_any (backlog_of more) _ (λ b. put l i a t b hl hi ha ht)))))
aead_short command put other h = tt

mac_short : (args : List (List ℕ)) → AllShort args → RowIsShort (mac_row args)
mac_short (label ∷ text ∷ more) h =
    after (label_of label) _ (label_short label h.0) (λ l hl. after_text (text_of text) _ (segments_short text h.1.0) (λ t ht. after_any (backlog_of more) _ (λ b. (hl, ht))))
mac_short other h = tt

bulk_short : (args : List (List ℕ)) → AllShort args → RowIsShort (bulk_row args)
bulk_short (label ∷ size ∷ seed ∷ []) h =
    after (label_of label) _ (label_short label h.0) (λ l hl. after_any (number_of size) _ (λ n. after_any (number_of seed) _ (λ m. hl)))
bulk_short other h = tt

mask_short : (args : List (List ℕ)) → AllShort args → RowIsShort (mask_row args)
mask_short (label ∷ mask ∷ []) h = after (label_of label) _ (label_short label h.0) (λ l hl. after_any (mask_of mask) _ (λ m. hl))
mask_short other h = tt

label_row_short : (command : List ℕ → Command) → ((l : List ℕ) → IsShort l → IsShortCommand (command l))
    → (args : List (List ℕ)) → AllShort args → RowIsShort (label_row command args)
label_row_short command put args h = after (lone_label_of args) _ (lone_label_short args h) (λ l hl. put l hl)

refs_short : (args : List (List ℕ)) → AllShort args → RowIsShort (refs_row args)
refs_short (driver ∷ []) h = h.0
refs_short other h = tt

list_short : (args : List (List ℕ)) → AllShort args → RowIsShort (list_row args)
list_short [] h = tt
list_short other h = tt

-- ---- lines

either : (c : Bool) (x y : Option Command) → RowIsShort x → RowIsShort y → RowIsShort (cond c x y)
either true x y h k = h
either false x y h k = k

-- a row that is short
record ShortRow : Type 0 where
  row : Option Command
  short : RowIsShort row

-- this row at its word, and else the others
abbrev pick : (name word : List ℕ) (row : Option Command) → RowIsShort row → ShortRow → ShortRow
pick name word row h others = record {
  row = cond (bytes_eq name word) row others.row;
  short = either (bytes_eq name word) row others.row h others.short;
}

command_short : (name : List ℕ) (args : List (List ℕ)) → AllShort args → RowIsShort (command_of name args)
command_short name args h =
    let rows : ShortRow =
    pick name (codes "aes") (aes_row args) (aes_short args h) (
    pick name (codes "register") (register_row args) (register_short args h) (
    pick name (codes "unregister") (unregister_row args) (unregister_short args h) (
    pick name (codes "probe") (probe_row args) (probe_short args h) (
    pick name (codes "alloc") (alloc_row args) (alloc_short args h) (
    pick name (codes "key") (key_row args) (key_short args h) (
    pick name (codes "authsize") (authsize_row args) (authsize_short args h) (
    pick name (codes "enc") (aead_row says.Enc args) (aead_short says.Enc (λ l i a t b hl hi ha ht. (hl, hi, ha, ht)) args h) (
    pick name (codes "dec") (aead_row says.Dec args) (aead_short says.Dec (λ l i a t b hl hi ha ht. (hl, hi, ha, ht)) args h) (
    pick name (codes "mac") (mac_row args) (mac_short args h) (
    pick name (codes "bulk") (bulk_row args) (bulk_short args h) (
    pick name (codes "mask") (mask_row args) (mask_short args h) (
    pick name (codes "hold") (label_row says.Hold args) (label_row_short says.Hold (λ l hl. hl) args h) (
    pick name (codes "go") (label_row says.Go args) (label_row_short says.Go (λ l hl. hl) args h) (
    pick name (codes "poll") (label_row says.Poll args) (label_row_short says.Poll (λ l hl. hl) args h) (
    pick name (codes "drain") (label_row says.Drain args) (label_row_short says.Drain (λ l hl. hl) args h) (
    pick name (codes "free") (label_row says.Free args) (label_row_short says.Free (λ l hl. hl) args h) (
    pick name (codes "refs") (refs_row args) (refs_short args h) (
    pick name (codes "list") (list_row args) (list_short args h) (
    record { row = None; short = tt }))))))))))))))))))) in
    rows.short

command_line_short : (row : Option Command) → RowIsShort row → IsShortLine (command_line row)
command_line_short (Some command) h = h
command_line_short None h = tt

line_either : (c : Bool) (x y : Line) → IsShortLine x → IsShortLine y → IsShortLine (cond c x y)
line_either true x y h k = h
line_either false x y h k = k

tokens_short : (tokens : List (List ℕ)) → AllShort tokens → IsShortLine (line_of_tokens tokens)
tokens_short [] h = tt
tokens_short (name ∷ args) h =
    let visible = list_all (list_all is_visible) (name ∷ args) in
    let command = command_line (command_of name args) in
    line_either (is_comment name) Nothing (cond visible command Malformed) tt
    (line_either visible command Malformed (command_line_short (command_of name args) (command_short name args h.1)) tt)

-- what a text says, of no more bytes than are counted
text_short : (count : ℕ) (text : List ℕ) → length text ≤ count → IsShortLine (line_of_text count text)
text_short count text le =
    elim (cases_lt 65536 count) [
      | inl long ↦ subst (λ c. IsShortLine (cond c Malformed (line_of_tokens (tokens_of text)))) (sym (lt-ltb 65536 count long)) tt
      | inr fits ↦ line_either (nat_lt 65536 count) Malformed (line_of_tokens (tokens_of text)) tt (tokens_short (tokens_of text) (short_from_up_to (tokens_of text) (tokens_up_to 65536 text (omega arith))))
    ]

pub without_return_le : (text : List ℕ) → length (without_return text) ≤ length text
without_return_le text = elim (ends_with 13 text) as (λ c. length (cond c (without_last text) text) ≤ length text) [ true ↦ omega (arith, length-take (length text - 1) text) | false ↦ omega arith ]

pub said_short : {E : Type 0} (count : ℕ) (text : List ℕ) (result : Result Line E) → length text ≤ count → IfOk result (λ said. said ≡ line_of_text count text) → IfOk result IsShortLine
said_short count text (Ok said) le is = subst IsShortLine (sym is) (text_short count text le)
said_short count text (Err e) le is = tt
