-- What passes have seen, and the histories that go on from it.
use Rattle.std.proofs.Common.{◌≡◌, ℕ, List, [], ◌++◌, ap, ◌∙◌, append-nil}
use Rattle.alg_registry.specs.declared.entry.RegEntry.{RegEntry}
use Rattle.alg_registry.specs.Rows.{caller_of as reg_caller}
use Rattle.board.specs.declared.entry.BoardEntry.{BoardEntry}
use Rattle.board.specs.Entries.{caller_of as board_caller}
use Rattle.crew.specs.Peers.{OthersFollow}
use Rattle.dialogues.specs.BoardCalls.{board_calls, is_called}
use Rattle.dialogues.specs.RegistryCalls.{reg_calls, AllSettled}
use Rattle.templates.specs.LookResults.{is_asked}
use Rattle.transforms.specs.declared.ask.Ask.{Ask}
use Rattle.turn_lock.specs.Turns.{Known, of}
use Rattle.script_run.proofs.Following.{none-of, not-asked, not-called}
use Rattle.client_run.specs.Laws.{Laws}

-- ---- nobody of this number made an entry

pub unasked : Laws → (n : ℕ) (h : List RegEntry) → of reg_caller n h ≡ [] → reg_calls n h ≡ []
unfolding reg_calls
unasked laws n h none = laws.unasked h n [] h (none-of reg_caller n (is_asked n) (not-asked n) h none)

pub uncalled : Laws → (n : ℕ) (h : List (BoardEntry Ask)) → of board_caller n h ≡ [] → board_calls n h ≡ []
unfolding board_calls
uncalled laws n h none = laws.uncalled n [] h (none-of board_caller n (is_called n) (not-called n) h none)

-- ---- others alone follow: a caller's calls stay

pub reg_calls-same : Laws → (k : Known RegEntry) (h : List RegEntry) → AllSettled (reg_calls k.number k.seen) → OthersFollow reg_caller k h → reg_calls k.number h ≡ reg_calls k.number k.seen
reg_calls-same laws k h settled others =
    ap (λ xs. reg_calls k.number xs) others.1
    ∙ (laws.registry_calls k.number k.seen others.0 settled
    ∙ (ap (λ cs. reg_calls k.number k.seen ++ cs) (laws.unasked (k.seen ++ others.0) k.number k.seen others.0 (none-of reg_caller k.number (is_asked k.number) (not-asked k.number) others.0 others.2))
    ∙ append-nil (reg_calls k.number k.seen)))

pub board_calls-same : Laws → (k : Known (BoardEntry Ask)) (h : List (BoardEntry Ask)) → OthersFollow board_caller k h → board_calls k.number h ≡ board_calls k.number k.seen
board_calls-same laws k h others =
    ap (λ xs. board_calls k.number xs) others.1
    ∙ (laws.board_calls k.number k.seen others.0
    ∙ (ap (λ cs. board_calls k.number k.seen ++ cs) (laws.uncalled k.number k.seen others.0 (none-of board_caller k.number (is_called k.number) (not-called k.number) others.0 others.2))
    ∙ append-nil (board_calls k.number k.seen)))
