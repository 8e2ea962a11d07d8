-- The names of algorithms are words, and a line of a script asks of a driver whose name is one.
use Rattle.std.specs.Prelude.{cond, IsTrue, nat_lt, ◌==◌, All, bytes_eq, codes}
use Rattle.std.proofs.Common.{◌≡◌, ℕ, Bool, true, false, not, eqb, List, [], ◌∷◌, length, get_or, Option, Some, None, refl, sym, ap, ◌∙◌, true≢false, lt-ltb, ne_eqb, arith}
use Rattle.std.specs.List.{list_all, slice_split}
use Rattle.std.specs.Option.{option_map_or}
use Rattle.std.proofs.lemmas.Bool.{and_from, and_parts, true_from_ne_false}
use Rattle.std.proofs.lemmas.Bool.Decides.{nat_tests}
use Rattle.std.proofs.lemmas.List.Elements.{All-map, filter_passes}
use Rattle.std.proofs.lemmas.List.Sums.{list_all-from_AllPass}
use Rattle.alg_names.specs.Name.{Tree, Args, node, end, is_word_byte}
use Rattle.alg_names.specs.Reader.{begins, in_word, closed, Reading, lost, reading, behind_name, step, run, start}
use Rattle.alg_names.specs.Spelled.{tree_behind, tree_of}
use Rattle.templates.specs.Table.{is_allowed, table}
use Rattle.sg_walk.specs.Segments.{Segmented}
use Rattle.script_text.specs.Lines.{lines_of, ends_with, without_last, without_return}
use Rattle.script_text.specs.Tokens.{tokens_of, is_blank, is_comment}
use Rattle.script_text.specs.Arguments.{◌>>=◌, hex_of, text_of, label_of, lone_label_of, number_of, mask_of, length_of, names_of, backlog_of}
use Rattle.script_text.specs.Commands.{aes_row, register_row, unregister_row, probe_row, alloc_row, key_row, authsize_row, aead_row, mac_row, bulk_row, mask_row, label_row, refs_row, list_row}
use Rattle.script_text.specs.Commands.{command_of}
use Rattle.script_text.specs.Script.{command_line, line_of_tokens, line_of_text, line_of, script_of}
use Rattle.script_text.specs.declared.commands.Command.{Command}
use Rattle.script_text.specs.declared.commands.Command.TheVariants as says
use Rattle.script_text.specs.declared.commands.Line.{Line}
use Rattle.script_text.specs.declared.commands.Line.TheVariants.{Nothing, Malformed, Cmd}
use Rattle.trace_text.specs.Trace.{is_visible, is_word}
use Rattle.trace_laws.specs.DriverNames.{NamesWords}

has_bytes : (b : ℕ) (bs : List ℕ) → nat_lt 0 (length (b ∷ bs)) ≡ true
has_bytes b bs = lt-ltb 0 (length (b ∷ bs)) (omega arith)

-- ---- names

-- a byte that isn't visible stands in no word
hidden_word : (b : ℕ) → is_visible b ≡ false → is_word_byte b ≡ false
hidden_word b hidden = grind (arith, nat_tests)

-- and is none of the visible marks
hidden_mark : (b mark : ℕ) → is_visible mark ≡ true → is_visible b ≡ false → eqb b mark ≡ false
hidden_mark b mark shown hidden = ne_eqb b mark (λ e. true≢false (sym shown ∙ ap is_visible (sym e) ∙ hidden))

hidden_behind : (fs : List (List ℕ × Args)) (t : Tree) (b : ℕ) → is_visible b ≡ false → behind_name fs t b ≡ lost
hidden_behind [] t b hidden = refl
hidden_behind (f ∷ fs) t b hidden = rw (hidden_mark b 44 refl hidden, hidden_mark b 41 refl hidden)

-- no reading goes on behind such a byte
hidden_lost : (r : Reading) (b : ℕ) → is_visible b ≡ false → step r b ≡ lost
hidden_lost lost b hidden = refl
hidden_lost (reading fs begins) b hidden = rw (hidden_word b hidden)
hidden_lost (reading fs (in_word w)) b hidden = rw (hidden_word b hidden, hidden_mark b 40 refl hidden) (hidden_behind fs (node w end) b hidden)
hidden_lost (reading fs (closed t)) b hidden = hidden_behind fs t b hidden

lost_has_no_tree : (bs : List ℕ) (t : Tree) → tree_behind (run lost bs) ≡ Some t → ⊥
lost_has_no_tree [] t is = cc
lost_has_no_tree (b ∷ bs) t is = lost_has_no_tree bs t is

read_is_visible : (r : Reading) (bs : List ℕ) (t : Tree) → tree_behind (run r bs) ≡ Some t → list_all is_visible bs ≡ true
read_is_visible r [] t is = refl
read_is_visible r (b ∷ bs) t is =
    and_from (is_visible b) (list_all is_visible bs)
    (true_from_ne_false (is_visible b) (λ hidden. lost_has_no_tree bs t (ap (λ s. tree_behind (run s bs)) (sym (hidden_lost r b hidden)) ∙ is)))
    (read_is_visible (step r b) bs t is)

pub tree_is_word : (text : List ℕ) (t : Tree) → tree_of text ≡ Some t → is_word text ≡ true
unfolding tree_of
tree_is_word [] t is = cc
tree_is_word (b ∷ bs) t is = and_from (nat_lt 0 (length (b ∷ bs))) (list_all is_visible (b ∷ bs)) (has_bytes b bs) (read_is_visible start (b ∷ bs) t is)

named_is_word : (text : List ℕ) (found : Option Tree) → tree_of text ≡ found → IsTrue (option_map_or (is_allowed text) found false) → is_word text ≡ true
named_is_word text (Some t) is named = tree_is_word text t is
named_is_word text None is named = absurd (true≢false (sym named))

pub name_is_word : (text : List ℕ) → IsTrue (table.is_name text) → is_word text ≡ true
unfolding table
name_is_word text named = named_is_word text (tree_of text) refl named

-- ---- tokens

full_has_bytes : (token : List ℕ) → not (length token == 0) ≡ true → nat_lt 0 (length token) ≡ true
full_has_bytes [] full = full
full_has_bytes (b ∷ bs) full = has_bytes b bs

-- tokens that aren't empty and that can be printed are words
tokens_are_words : (tokens : List (List ℕ)) → list_all (λ part. not (length part == 0)) tokens ≡ true → list_all (list_all is_visible) tokens ≡ true → list_all is_word tokens ≡ true
tokens_are_words [] full visible = refl
tokens_are_words (token ∷ tokens) full visible =
    let fulls = and_parts (not (length token == 0)) (list_all (λ part. not (length part == 0)) tokens) full in
    let visibles = and_parts (list_all is_visible token) (list_all (list_all is_visible) tokens) visible in
    and_from (is_word token) (list_all is_word tokens)
    (and_from (nat_lt 0 (length token)) (list_all is_visible token) (full_has_bytes token fulls.0) visibles.0)
    (tokens_are_words tokens fulls.1 visibles.1)

tokens_are_full : (text : List ℕ) → list_all (λ part. not (length part == 0)) (tokens_of text) ≡ true
tokens_are_full text =
    list_all-from_AllPass (λ part. not (length part == 0)) (tokens_of text) (filter_passes (λ part. not (length part == 0)) (slice_split is_blank text))

-- ---- rows

-- the command that is spelled, if one is, asks of a driver only by a word
abbrev RowNamesWords : Option Command → Type 0
RowNamesWords row = NamesWords (command_line row)

after : {A : Type 0} (first : Option A) (next : A → Option Command) → ((x : A) → RowNamesWords (next x)) → RowNamesWords (first >>= next)
after (Some x) next words = words x
after None next words = tt

aes_words : (args : List (List ℕ)) → RowNamesWords (aes_row args)
aes_words (key ∷ block ∷ []) = after (hex_of key) _ (λ k. after (hex_of block) _ (λ b. tt))
aes_words other = tt

register_words : (args : List (List ℕ)) → RowNamesWords (register_row args)
register_words (driver ∷ priority ∷ []) = after (number_of priority) _ (λ n. tt)
register_words other = tt

unregister_words : (args : List (List ℕ)) → list_all is_word args ≡ true → RowNamesWords (unregister_row args)
unregister_words (driver ∷ []) words = (and_parts (is_word driver) true words).0
unregister_words other words = tt

probe_words : (args : List (List ℕ)) → RowNamesWords (probe_row args)
probe_words args = after (names_of args) _ (λ names. tt)

alloc_words : (args : List (List ℕ)) → RowNamesWords (alloc_row args)
alloc_words (label ∷ name ∷ more) = after (label_of label) _ (λ l. after (length_of more) _ (λ n. tt))
alloc_words other = tt

key_words : (args : List (List ℕ)) → RowNamesWords (key_row args)
key_words (label ∷ key ∷ []) = after (label_of label) _ (λ l. after (hex_of key) _ (λ k. tt))
key_words other = tt

authsize_words : (args : List (List ℕ)) → RowNamesWords (authsize_row args)
authsize_words (label ∷ size ∷ []) = after (label_of label) _ (λ l. after (number_of size) _ (λ n. tt))
authsize_words other = tt

aead_words : (command : List ℕ → List ℕ → List ℕ → Segmented → Bool → Command) → ((l iv a : List ℕ) (t : Segmented) (b : Bool) → NamesWords (Cmd (command l iv a t b)))
    → (args : List (List ℕ)) → RowNamesWords (aead_row command args)
aead_words command words (label ∷ iv ∷ aad ∷ text ∷ more) =
    after (label_of label) _ (λ l.
    after (hex_of iv) _ (λ i.
    after (hex_of aad) _ (λ a.
    after (text_of text) _ (λ t.
    after (backlog_of more) _ (λ b. words l i a t b)))))
aead_words command words other = tt

mac_words : (args : List (List ℕ)) → RowNamesWords (mac_row args)
mac_words (label ∷ text ∷ more) = after (label_of label) _ (λ l. after (text_of text) _ (λ t. after (backlog_of more) _ (λ b. tt)))
mac_words other = tt

bulk_words : (args : List (List ℕ)) → RowNamesWords (bulk_row args)
bulk_words (label ∷ size ∷ seed ∷ []) = after (label_of label) _ (λ l. after (number_of size) _ (λ n. after (number_of seed) _ (λ m. tt)))
bulk_words other = tt

mask_words : (args : List (List ℕ)) → RowNamesWords (mask_row args)
mask_words (label ∷ mask ∷ []) = after (label_of label) _ (λ l. after (mask_of mask) _ (λ m. tt))
mask_words other = tt

label_words : (command : List ℕ → Command) → ((l : List ℕ) → NamesWords (Cmd (command l))) → (args : List (List ℕ)) → RowNamesWords (label_row command args)
label_words command words args = after (lone_label_of args) _ words

refs_words : (args : List (List ℕ)) → list_all is_word args ≡ true → RowNamesWords (refs_row args)
refs_words (driver ∷ []) words = (and_parts (is_word driver) true words).0
refs_words other words = tt

list_words : (args : List (List ℕ)) → RowNamesWords (list_row args)
list_words [] = tt
list_words other = tt

-- ---- lines

either : (c : Bool) (x y : Option Command) → RowNamesWords x → RowNamesWords y → RowNamesWords (cond c x y)
either true x y h k = h
either false x y h k = k

command_words : (name : List ℕ) (args : List (List ℕ)) → list_all is_word args ≡ true → RowNamesWords (command_of name args)
command_words name args words =
    either (bytes_eq name (codes "aes")) (aes_row args) _ (aes_words args) (
    either (bytes_eq name (codes "register")) (register_row args) _ (register_words args) (
    either (bytes_eq name (codes "unregister")) (unregister_row args) _ (unregister_words args words) (
    either (bytes_eq name (codes "probe")) (probe_row args) _ (probe_words args) (
    either (bytes_eq name (codes "alloc")) (alloc_row args) _ (alloc_words args) (
    either (bytes_eq name (codes "key")) (key_row args) _ (key_words args) (
    either (bytes_eq name (codes "authsize")) (authsize_row args) _ (authsize_words args) (
    either (bytes_eq name (codes "enc")) (aead_row says.Enc args) _ (aead_words says.Enc (λ l i a t b. tt) args) (
    either (bytes_eq name (codes "dec")) (aead_row says.Dec args) _ (aead_words says.Dec (λ l i a t b. tt) args) (
    either (bytes_eq name (codes "mac")) (mac_row args) _ (mac_words args) (
    either (bytes_eq name (codes "bulk")) (bulk_row args) _ (bulk_words args) (
    either (bytes_eq name (codes "mask")) (mask_row args) _ (mask_words args) (
    either (bytes_eq name (codes "hold")) (label_row says.Hold args) _ (label_words says.Hold (λ l. tt) args) (
    either (bytes_eq name (codes "go")) (label_row says.Go args) _ (label_words says.Go (λ l. tt) args) (
    either (bytes_eq name (codes "poll")) (label_row says.Poll args) _ (label_words says.Poll (λ l. tt) args) (
    either (bytes_eq name (codes "drain")) (label_row says.Drain args) _ (label_words says.Drain (λ l. tt) args) (
    either (bytes_eq name (codes "free")) (label_row says.Free args) _ (label_words says.Free (λ l. tt) args) (
    either (bytes_eq name (codes "refs")) (refs_row args) _ (refs_words args words) (
    either (bytes_eq name (codes "list")) (list_row args) None (list_words args) tt))))))))))))))))))

line_either : (c : Bool) (x y : Line) → NamesWords x → NamesWords y → NamesWords (cond c x y)
line_either true x y h k = h
line_either false x y h k = k

tokens_words : (tokens : List (List ℕ)) → list_all (λ part. not (length part == 0)) tokens ≡ true → NamesWords (line_of_tokens tokens)
tokens_words [] full = tt
tokens_words (name ∷ args) full = line_either (is_comment name) Nothing _ tt (here (list_all (list_all is_visible) (name ∷ args)) refl)
  where
    here : (c : Bool) → list_all (list_all is_visible) (name ∷ args) ≡ c → NamesWords (cond c (command_line (command_of name args)) Malformed)
    here true visible = command_words name args (and_parts (is_word name) (list_all is_word args) (tokens_are_words (name ∷ args) full visible)).1
    here false visible = tt

text_words : (count : ℕ) (text : List ℕ) → NamesWords (line_of_text count text)
text_words count text = line_either (nat_lt 65536 count) Malformed (line_of_tokens (tokens_of text)) tt (tokens_words (tokens_of text) (tokens_are_full text))

line_words : (line : List ℕ) → NamesWords (line_of line)
line_words line = line_either (ends_with 10 line) _ _ (text_words _ (without_return (without_last line))) (text_words (length line) line)

pub lines_name_words : (script : List ℕ) → All NamesWords (script_of script)
lines_name_words script = All-map NamesWords line_of (lines_of script) (λ k d within. line_words (get_or (lines_of script) k d))
