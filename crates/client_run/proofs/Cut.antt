-- The parts of an input: as many as there are clients and one more, and none longer than the input.
use Rattle.std.proofs.Common.{◌≡◌, ◌≤◌, ◌+◌, ℕ, zero, suc, Bool, true, false, List, [], ◌∷◌, ◌++◌, length, refl, sym, ap, subst, ◌∙◌, arith}
use Rattle.std.specs.Prelude.{All, if◌then◌else◌, ◌^◌, Option, Result}
use Rattle.std.specs.Io.KnownBytes.{Consumes, IsAtEnd}
use Rattle.std.specs.List.{onto_first}
use Rattle.std.proofs.lemmas.List.{length-append}
use Rattle.std.proofs.lemmas.List.Elements.{All-nil, All-cons, All-head, All-tail}
use Rattle.alg_registry.specs.declared.entry.RegEntry.{RegEntry}
use Rattle.board.specs.declared.entry.BoardEntry.{BoardEntry}
use Rattle.transforms.specs.declared.ask.Ask.{Ask}
use Rattle.client_run.specs.declared.with_workers.Output.{Output}
use Rattle.client_run.specs.WithWorkers.{PartsRan}
use Rattle.client_run.specs.Clients.{IsCut}
use Rattle.script_text.specs.Lines.{lines_of, is_feed}
use Rattle.script_text.specs.Parts.{is_mark, before_mark, behind_mark, all_bytes, cut_lines, parts_of}

pub count-parts : (clients : ℕ) (lines : List (List ℕ)) → length (cut_lines clients lines) ≡ clients + 1
count-parts zero lines = refl
count-parts (suc clients) lines = (let e = count-parts clients (behind_mark lines) in omega arith)

onto-length : (b : ℕ) (lines : List (List ℕ)) → length (all_bytes (onto_first b lines)) ≡ suc (length (all_bytes lines))
onto-length b [] = refl
onto-length b (line ∷ lines) = refl

all-length : (bytes : List ℕ) → length (all_bytes (lines_of bytes)) ≡ length bytes
all-length [] = refl
all-length (b ∷ bs) = by_feed (is_feed b) (all-length bs)
  where
    by_feed : (t : Bool) → length (all_bytes (lines_of bs)) ≡ length bs → length (all_bytes (if t then (b ∷ []) ∷ lines_of bs else onto_first b (lines_of bs))) ≡ suc (length bs)
    by_feed true later = (omega arith)
    by_feed false later = (let e = onto-length b (lines_of bs) in omega arith)

before-short : (lines : List (List ℕ)) → length (before_mark lines) ≤ length (all_bytes lines)
before-short [] = (omega arith)
before-short (line ∷ lines) = by_mark (is_mark line) (before-short lines)
  where
    by_mark : (t : Bool) → length (before_mark lines) ≤ length (all_bytes lines) → length (if t then [] else line ++ before_mark lines) ≤ length (line ++ all_bytes lines)
    by_mark true later = (omega arith)
    by_mark false later = (let a = length-append line (before_mark lines) in let b = length-append line (all_bytes lines) in omega arith)

behind-short : (lines : List (List ℕ)) → length (all_bytes (behind_mark lines)) ≤ length (all_bytes lines)
behind-short [] = (omega arith)
behind-short (line ∷ lines) = by_mark (is_mark line) (behind-short lines)
  where
    by_mark : (t : Bool) → length (all_bytes (behind_mark lines)) ≤ length (all_bytes lines) → length (all_bytes (if t then lines else behind_mark lines)) ≤ length (line ++ all_bytes lines)
    by_mark true later = (let b = length-append line (all_bytes lines) in omega arith)
    by_mark false later = (let b = length-append line (all_bytes lines) in omega arith)

cut-short : (clients most : ℕ) (lines : List (List ℕ)) → length (all_bytes lines) ≤ most → All (λ part. length part ≤ most) (cut_lines clients lines)
cut-short zero most lines le = All-cons (λ part. length part ≤ most) (all_bytes lines) [] le (All-nil (λ part. length part ≤ most))
cut-short (suc clients) most lines le =
    All-cons (λ part. length part ≤ most) (before_mark lines) (cut_lines clients (behind_mark lines))
    (let a = before-short lines in omega arith)
    (cut-short clients most (behind_mark lines) (let a = behind-short lines in omega arith))

pub parts-short : (clients most : ℕ) (input : List ℕ) → length input ≤ most → All (λ part. length part ≤ most) (parts_of clients input)
parts-short clients most input le = cut-short clients most (lines_of input) (let e = all-length input in omega arith)

pub cut-count : (clients : ℕ) (left left' : Option (List ℕ)) (parts : List (List ℕ)) → IsCut clients left left' parts → length parts ≡ clients + 1
cut-count clients left left' parts c = ap (λ ps. length ps) c.cut ∙ count-parts clients (lines_of c.input)

pub cut-most : (clients : ℕ) (left left' : Option (List ℕ)) (parts : List (List ℕ)) → IsCut clients left left' parts → All (λ part. length part ≤ 2 ^ 28) parts
cut-most clients left left' parts c = subst (λ ps. All (λ part. length part ≤ 2 ^ 28) ps) (sym c.cut) (parts-short clients (2 ^ 28) c.input c.short)

-- an input that was read whole, and its parts
pub cut-of : (clients : ℕ) (left left' : Option (List ℕ)) (input text : List ℕ) (parts : List (List ℕ)) → Consumes left left' input × IsAtEnd left' × (length input ≤ 2 ^ 28) → text ≡ input → parts ≡ parts_of clients text
    → IsCut clients left left' parts
cut-of clients left left' input text parts read same cut = record {
  input = input;
  read = read.0;
  at_end = read.1;
  short = read.2;
  cut = cut ∙ ap (parts_of clients) same;
}

-- the first part and the others
pub cut-first : (parts rest : List (List ℕ)) (first : List ℕ) → parts ≡ first ∷ rest → All (λ part. length part ≤ 2 ^ 28) parts → (length first ≤ 2 ^ 28) × All (λ part. length part ≤ 2 ^ 28) rest
cut-first parts rest first is all =
    let each = subst (λ ps. All (λ part. length part ≤ 2 ^ 28) ps) is all in
    (All-head (λ part. length part ≤ 2 ^ 28) first rest each, All-tail (λ part. length part ≤ 2 ^ 28) first rest each)

pub cut-ran : {F : Type 0} (workers clients : ℕ) (parts rest : List (List ℕ)) (first : List ℕ) (r : List RegEntry) (b : List (BoardEntry Ask)) (output : Result Output F) → parts ≡ first ∷ rest → length rest + 1 ≡ length parts → length parts ≡ clients + 1
    → PartsRan workers (length rest) (first ∷ rest) r b output → PartsRan workers clients parts r b output
cut-ran workers clients parts rest first r b output is count whole ran =
    let n : length rest ≡ clients = omega arith in
    subst (λ ps. PartsRan workers clients ps r b output) (sym is) (subst (λ m. PartsRan workers m (first ∷ rest) r b output) n ran)
