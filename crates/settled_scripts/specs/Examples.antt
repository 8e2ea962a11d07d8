-- Worked scripts: what they are answered, and whether they are settled.
use Rattle.std.specs.Prelude.{ℕ, Bool, true, false, List, [], ◌∷◌, ◌++◌, Some, None, replicate, map, codes}
use Rattle.kc_base.specs.declared.error_numbers.Errno.{Errno}
use Rattle.kc_base.specs.declared.error_numbers.Errno.TheVariants.{ENOENT, EINPROGRESS, EBUSY, ENOSPC, EINVAL}
use Rattle.transforms.specs.Cuts.{in_one}
use Rattle.script_text.specs.declared.commands.Command.TheVariants.{Alloc, Register, Unregister, Key, Enc, Mask, Hold, Go, Poll, Drain, Free, Refs}
use Rattle.script_text.specs.declared.commands.Command.TheVariants as command
use Rattle.script_text.specs.declared.commands.Line.{Line}
use Rattle.script_text.specs.declared.commands.Line.TheVariants.{Cmd}
use Rattle.reply_text.specs.declared.answers.Answer.{Answer}
use Rattle.reply_text.specs.declared.answers.Answer.TheVariants as said
use Rattle.settled_scripts.specs.Settled.{Passed, passed}

abbrev pub answers_of : List Line → List Answer
answers_of lines = let p : Passed = passed lines in p.answers

abbrev pub alloc : List ℕ → List ℕ → Line
alloc label name = Cmd (Alloc label name None)

-- ---- names: they are found by what was built for them, and by drivers

abbrev pub sharing : List Line
sharing =
    alloc (codes "p") (codes "pcrypt(gcm(aes))")
    ∷ alloc (codes "g") (codes "gcm(aes)")
    ∷ alloc (codes "s") (codes "gcm_base(ctr(aes-generic),ghash-generic)")
    ∷ alloc (codes "r") (codes "rfc4106(gcm(aes))")
    ∷ Cmd (Refs (codes "gcm_base(ctr(aes-generic),ghash-generic)"))
    ∷ []

abbrev pub sharing_answers : List Answer
sharing_answers =
    said.Made 1 (codes "pcrypt(gcm_base(ctr(aes-generic),ghash-generic))")
    ∷ said.Made 2 (codes "pcrypt(gcm_base(ctr(aes-generic),ghash-generic))")
    ∷ said.Made 3 (codes "gcm_base(ctr(aes-generic),ghash-generic)")
    ∷ said.Made 4 (codes "rfc4106(gcm_base(ctr(aes-generic),ghash-generic))")
    ∷ said.Refs 5 3 true
    ∷ []

-- ---- references: what a transform stands on stays until it is free

abbrev pub unregistering : List Line
unregistering =
    alloc (codes "c") (codes "cbc(aes)")
    ∷ Cmd (Unregister (codes "aes-generic"))
    ∷ alloc (codes "d") (codes "cbc(aes)")
    ∷ Cmd (Refs (codes "aes-generic"))
    ∷ Cmd (Free (codes "c"))
    ∷ Cmd (Refs (codes "aes-generic"))
    ∷ Cmd (Register (codes "aes-generic") 300)
    ∷ Cmd command.List
    ∷ []

abbrev pub unregistering_answers : List Answer
unregistering_answers =
    said.Made 1 (codes "cbc(aes-generic)")
    ∷ said.Ok 2
    ∷ said.Refused 3 ENOENT
    ∷ said.Refs 4 1 false
    ∷ said.Ok 5
    ∷ said.Refused 6 ENOENT
    ∷ said.Ok 7
    ∷ said.Alg 8 (codes "sha256") (codes "sha256-generic") 100 0
    ∷ said.Alg 8 (codes "ghash") (codes "ghash-generic") 100 0
    ∷ said.Alg 8 (codes "aes") (codes "aes-generic") 300 0
    ∷ said.Listed 8 3
    ∷ []

-- ---- queues

-- a queue of two
abbrev pub queue : List Line
queue = Cmd (Alloc (codes "q") (codes "cryptd(cbc(aes))") (Some 2)) ∷ Cmd (Key (codes "q") (replicate 16 0)) ∷ []

abbrev pub sealing : Bool → Line
sealing backlog = Cmd (Enc (codes "q") (replicate 16 0) [] (in_one (replicate 16 0)) backlog)

abbrev pub held_first : List Line
held_first =
    queue
    ++ Cmd (Hold (codes "q"))
    ∷ sealing false ∷ sealing false ∷ sealing true ∷ sealing false
    ∷ Cmd (Drain (codes "q"))
    ∷ Cmd (Go (codes "q"))
    ∷ Cmd (Drain (codes "q"))
    ∷ []

abbrev pub two_at_a_time : List Line
two_at_a_time = queue ++ sealing false ∷ sealing false ∷ Cmd (Drain (codes "q")) ∷ sealing false ∷ sealing false ∷ []

-- what the third request meets depends on who works
abbrev pub three_at_once : List Line
three_at_once = queue ++ sealing false ∷ sealing false ∷ sealing false ∷ []

abbrev pub held_late : List Line
held_late = queue ++ sealing false ∷ Cmd (Hold (codes "q")) ∷ sealing false ∷ sealing true ∷ []

abbrev pub polling : List Line
polling = queue ++ sealing false ∷ Cmd (Poll (codes "q")) ∷ []

-- what was answered, without the bytes
pub data Kind : Type 0 where
  Started : (line : ℕ) → Kind
  Done : (line : ℕ) → Kind
  Drained : (line count : ℕ) → Kind
  Refused : (line : ℕ) → (errno : Errno) → Kind
  Other : Kind

abbrev pub kind_of : Answer → Kind
kind_of (said.Started of) = Started of.line
kind_of (said.Done of bytes) = Done of.line
kind_of (said.Drained line count) = Drained line count
kind_of (said.Refused line errno) = Refused line errno
kind_of answer = Other

abbrev pub kinds_of : List Line → List Kind
kinds_of lines = map kind_of (answers_of lines)

abbrev pub held_first_kinds : List Kind
held_first_kinds =
    Other ∷ Other ∷ Other
    ∷ Refused 4 EINPROGRESS ∷ Refused 5 EINPROGRESS ∷ Refused 6 EBUSY ∷ Refused 7 ENOSPC
    ∷ Refused 8 EINVAL
    ∷ Other
    ∷ Started 6 ∷ Done 4 ∷ Done 5 ∷ Done 6 ∷ Drained 10 3
    ∷ []

-- ---- chains

-- a chain of two
abbrev pub chain : List Line
chain = Cmd (Alloc (codes "q") (codes "cryptd(pcrypt(gcm(aes)))") (Some 2)) ∷ Cmd (Key (codes "q") (replicate 16 0)) ∷ []

abbrev pub sealing_on_chain : Bool → Line
sealing_on_chain backlog = Cmd (Enc (codes "q") (replicate 12 0) [] (in_one (replicate 16 0)) backlog)

abbrev pub held_chain : List Line
held_chain =
    chain
    ++ Cmd (Hold (codes "q"))
    ∷ sealing_on_chain false ∷ sealing_on_chain true ∷ sealing_on_chain false
    ∷ Cmd (Go (codes "q"))
    ∷ Cmd (Drain (codes "q"))
    ∷ []

abbrev pub held_chain_kinds : List Kind
held_chain_kinds =
    Other ∷ Other ∷ Other
    ∷ Refused 4 EINPROGRESS ∷ Refused 5 EINPROGRESS ∷ Refused 6 ENOSPC
    ∷ Other
    ∷ Done 4 ∷ Done 5 ∷ Drained 8 2
    ∷ []

-- whether the fourth is told to have started before the first is completed depends on who works
abbrev pub backlog_of_chain : List Line
backlog_of_chain =
    chain
    ++ Cmd (Hold (codes "q"))
    ∷ sealing_on_chain false ∷ sealing_on_chain false ∷ sealing_on_chain true ∷ sealing_on_chain true
    ∷ []

-- ---- masks

-- a pad, and a mask of it between requests
abbrev pub pad : List Line
pad = alloc (codes "p") (codes "pcrypt(gcm(aes))") ∷ Cmd (Key (codes "p") (replicate 16 0)) ∷ []

abbrev pub sealing_on_pad : Line
sealing_on_pad = Cmd (Enc (codes "p") (replicate 12 0) [] (in_one (replicate 16 0)) false)

abbrev pub masking : ℕ → Line
masking bits = Cmd (Mask (codes "p") bits)

-- what was accepted before stays, and is completed
abbrev pub masked : List Line
masked =
    pad
    ++ sealing_on_pad ∷ masking 0 ∷ sealing_on_pad ∷ masking 65535 ∷ sealing_on_pad
    ∷ Cmd (Drain (codes "p"))
    ∷ []

abbrev pub masked_kinds : List Kind
masked_kinds =
    Other ∷ Other
    ∷ Refused 3 EINPROGRESS ∷ Other ∷ Refused 5 EINVAL ∷ Other ∷ Refused 7 EINPROGRESS
    ∷ Done 3 ∷ Done 7 ∷ Drained 8 2
    ∷ []

-- the second worker alone may do the request, if there is one; without it nobody may, and none is accepted
abbrev pub masked_to_second : List Line
masked_to_second = pad ++ masking 2 ∷ sealing_on_pad ∷ []
