-- What a load leaves in the histories, and what it comes to there.
use Rattle.std.specs.Prelude.{ℕ, ◌≡◌, ◌≤◌, List, [], map, length, IsSome, All}
use Rattle.std.specs.List.{flat_map}
use Rattle.sha2.specs.Sha256.{sha256}
use Rattle.alg_registry.specs.declared.entry.RegEntry.{RegEntry}
use Rattle.alg_registry.specs.Legal.{LegalReg}
use Rattle.alg_registry.specs.Made.{Made}
use Rattle.alg_registry.specs.Rows.{caller_of}
use Rattle.board.specs.declared.entry.BoardEntry.{BoardEntry}
use Rattle.board.specs.Entries.{entries_of, submissions, completes_from, caller_of as board_caller}
use Rattle.board.specs.Legal.{LegalBoard}
use Rattle.board.specs.Order.{handed_out}
use Rattle.templates.specs.Table.{table}
use Rattle.transforms.specs.declared.ask.Ask.{Ask}
use Rattle.reply_text.specs.declared.answers.Answer.{Answer}
use Rattle.reply_text.specs.declared.answers.Answer.TheVariants.{Done}
use Rattle.dialogues.specs.BoardCalls.{Asked, asked_by, board_calls}
use Rattle.dialogues.specs.InTurn.{AreInTurnBy}
use Rattle.dialogues.specs.RegistryCalls.{reg_calls}
use Rattle.dialogues.specs.Transcripts.{Transcript, IsTranscript}
use Rattle.load_mode.specs.Requests.{load_requests, of_a, of_g, digest_of}
use Rattle.load_mode.specs.Lines.{load_dialogue}

-- the bytes of a completion
abbrev pub bytes_told : Answer → List ℕ
bytes_told (Done line bytes) = bytes
bytes_told _ = []

abbrev pub digest_told : List Answer → List ℕ
digest_told answers = sha256 (flat_map bytes_told answers)

-- The load's turn is done: its calls are those of the histories and no more, made one after the other, and this is the
-- hash of all that the completions told.
pub record IsLoadTranscript (workers seed count : ℕ) (r : List RegEntry) (b : List (BoardEntry Ask)) (digest : List ℕ) : Type 0 where
  pub turn : Transcript
  pub is : IsTranscript (load_dialogue workers seed count) turn
  pub registry : turn.registry ≡ reg_calls 0 r
  pub board : turn.board ≡ board_calls 0 b
  pub ended : IsSome turn.after
  pub in_turn : AreInTurnBy 1 0 (reg_calls 0 r) [] r
  pub digest_is : digest ≡ digest_told turn.answers

-- the pipeline of this number has accepted these requests, in order, and handed out the completion of each, in order
-- and once
pub record IsLoadedWith (asks : List Asked) (p : ℕ) (b : List (BoardEntry Ask)) : Type 0 where
  pub accepted : map asked_by (submissions (entries_of p b)) ≡ asks
  pub handed_out : handed_out (entries_of p b) ≡ completes_from 0 (length asks)

-- both pipelines are loaded
pub record AreLoaded (seed count : ℕ) (b : List (BoardEntry Ask)) : Type 0 where
  pub on_a : IsLoadedWith (of_a (load_requests seed count)) 0 b
  pub on_g : IsLoadedWith (of_g (load_requests seed count)) 1 b

-- Over legal and faithful histories whose callers are the load and at most 16 workers, whatever these do, its hash is
-- that of the requests' values, and both pipelines are loaded.
abbrev pub LoadsComeTo : Type 0
LoadsComeTo =
    (workers seed count : ℕ) (r : List RegEntry) (b : List (BoardEntry Ask)) (digest : List ℕ)
    → count ≤ 100000
    → LegalReg r → Made table r → All (λ e. caller_of e ≤ 16) r
    → LegalBoard b → All (λ e. board_caller e ≤ 16) b
    → IsLoadTranscript workers seed count r b digest
    → (digest ≡ digest_of (load_requests seed count)) × AreLoaded seed count b
