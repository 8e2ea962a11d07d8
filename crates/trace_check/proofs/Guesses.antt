-- An event's own words are read as that event, wherever its ask lies in memory.
use Rattle.std.proofs.Common.{◌≡◌, ℕ, Bool, true, false, ◌&&◌, List, [], ◌∷◌, length, Option, Some, None, refl, sym, ◌∙◌, ap}
use Rattle.std.specs.Prelude.{◌==◌, codes}
use Rattle.std.specs.Fmt.{decimal}
use Rattle.std.specs.List.{list_all}
use Rattle.std.specs.Option.{option_map}
use Rattle.std.specs.Str.{bytes_eq}
use Rattle.std.specs.Arc.{arc_value}
use Rattle.std.proofs.lemmas.Bool.{and_parts}
use Rattle.kc_base.specs.Errno.{name_of}
use Rattle.kc_base.specs.declared.error_numbers.Errno.{Errno}
use Rattle.kc_base.specs.declared.error_numbers.Errno.TheVariants.{ENOENT, E2BIG, EAGAIN, EBUSY, EEXIST, EINVAL, ENFILE, EMFILE, ENOSPC, ENAMETOOLONG, EBADMSG, EINPROGRESS, ENOKEY}
use Rattle.alg_registry.specs.declared.spec.Kind.{Kind}
use Rattle.alg_registry.specs.declared.spec.Kind.TheVariants.{Cipher, Hash, Ghash, Skcipher, Aead, Mac}
use Rattle.alg_registry.specs.declared.spec.Wrap.{Wrap}
use Rattle.alg_registry.specs.declared.spec.Wrap.TheVariants.{Plain, Pcrypt, Cryptd}
use Rattle.alg_registry.specs.declared.spec.Spec.{Spec}
use Rattle.alg_registry.specs.declared.entry.Looked.{Looked}
use Rattle.alg_registry.specs.declared.entry.Looked.TheVariants.{Found, Pending, Began, Absent}
use Rattle.alg_registry.specs.declared.entry.Enlisted.{Enlisted}
use Rattle.alg_registry.specs.declared.entry.Enlisted.TheVariants.{Made, Exist, NFile}
use Rattle.alg_registry.specs.declared.entry.EndAnswer.{EndAnswer}
use Rattle.alg_registry.specs.declared.entry.EndAnswer.TheVariants.{Built, Joined, Failed, NoMemory}
use Rattle.alg_registry.specs.declared.entry.RegEntry.{RegEntry}
use Rattle.alg_registry.specs.declared.entry.RegEntry.TheVariants.{Enlist, Look, Claim, End, Waited, Unlist, Get, Put, Refs}
use Rattle.alg_registry.specs.declared.entry.RegEntry.TheVariants as reg
use Rattle.board.specs.declared.entry.Shape.{Shape}
use Rattle.board.specs.declared.entry.Shape.TheVariants.{Pad, Queue, Chain}
use Rattle.board.specs.declared.entry.Entered.{Entered}
use Rattle.board.specs.declared.entry.Entered.TheVariants.{InProgress, Busy, NoSpace}
use Rattle.board.specs.declared.entry.BoardEntry.{BoardEntry}
use Rattle.board.specs.declared.entry.BoardEntry.TheVariants.{Born, Submit, Take, Finish, Enq, Deq, Done, Hold, Go, Collect, Close, Share, Mask, Shut}
use Rattle.trace_check.specs.declared.lines.Event.TheVariants as event
use Rattle.trace_check.specs.declared.lines.AskLine.{AskLine}
use Rattle.trace_text.specs.Text.{kind_word, wrap_word, ids_word, plain_word, get_word, enlisted_words, looked_words, reg_words, shape_words, backlog_word, entered_words, started_words, board_words}
use Rattle.trace_text.specs.Trace.{has_words, is_unwrapped, has_text, is_u16, is_u32, is_u64, spec_fits, enlisted_fits, looked_fits, end_fits, option_fits, fits, shape_fits, entered_fits, board_fits, origin_fits}
use Rattle.trace_check.specs.EventParser.{number_of, small_of, ids_of, kind_of, wrap_of, errno_of, enlisted_of, looked_of, entered_of, started_of, board_of, event_in}
use Rattle.trace_check.specs.Lines.{origin_of}
use Rattle.trace_check.specs.AskLines.{ask_of, unplaced}
use Rattle.trace_check.proofs.Numerals.{number_again, small_again, ids_again, mask_again, origin_again}
use Rattle.trace_check.proofs.RegParts.{no_ids, unwrapped}

kind_again : (kind : Kind) → kind_of (kind_word kind) ≡ kind
kind_again Cipher = refl
kind_again Hash = refl
kind_again Ghash = refl
kind_again Skcipher = refl
kind_again Aead = refl
kind_again Mac = refl

wrap_again : (wrap : Wrap) → wrap_of (wrap_word wrap) ≡ wrap
wrap_again Plain = refl
wrap_again Pcrypt = refl
wrap_again Cryptd = refl

errno_again : (errno : Errno) → errno_of (name_of errno) ≡ errno
errno_again ENOENT = refl
errno_again E2BIG = refl
errno_again EAGAIN = refl
errno_again EBUSY = refl
errno_again EEXIST = refl
errno_again EINVAL = refl
errno_again ENFILE = refl
errno_again EMFILE = refl
errno_again ENOSPC = refl
errno_again ENAMETOOLONG = refl
errno_again EBADMSG = refl
errno_again EINPROGRESS = refl
errno_again ENOKEY = refl

plain_again : (plain : Bool) → bytes_eq (plain_word plain) (codes "plain") ≡ plain
plain_again true = refl
plain_again false = refl

get_again : (ok : Bool) → bytes_eq (get_word ok) (codes "ok") ≡ ok
get_again true = refl
get_again false = refl

backlog_again : (backlog : Bool) → bytes_eq (backlog_word backlog) (codes "backlog") ≡ backlog
backlog_again true = refl
backlog_again false = refl

enlisted_again : (answer : Enlisted) → enlisted_fits answer ≡ true → enlisted_of (enlisted_words answer) ≡ answer
enlisted_again (Made id) f = ap Made (number_again id f)
enlisted_again Exist f = refl
enlisted_again NFile f = refl

looked_again : (answer : Looked) → looked_fits answer ≡ true → looked_of (looked_words answer) ≡ answer
looked_again (Found id) f = ap Found (number_again id f)
looked_again (Pending larval) f = ap Pending (number_again larval f)
looked_again (Began larval) f = ap Began (number_again larval f)
looked_again Absent f = refl

spec_is : (name driver : List ℕ) (kind kind' : Kind) (wrap wrap' : Wrap) (priority priority' : ℕ) (below below' : List ℕ) → kind ≡ kind' → wrap ≡ wrap' → priority ≡ priority' → below ≡ below'
    → (let s : Spec = record { name = name; driver = driver; kind = kind; wrap = wrap; priority = priority; below = below } in s) ≡ record { name = name; driver = driver; kind = kind'; wrap = wrap'; priority = priority'; below = below' }
spec_is name driver kind kind' wrap wrap' priority priority' below below' k w p b = λ i. record { name = name; driver = driver; kind = k i; wrap = w i; priority = p i; below = b i }

pub registry_again : (e : RegEntry) → has_text e ≡ true → fits e ≡ true → event_in (reg_words e) ≡ Some (event.Registry e)
registry_again (Enlist caller spec answer) t f =
    let tt1 = and_parts (has_words spec && (length spec.below == 0)) (is_unwrapped spec.wrap) t in
    let below : spec.below ≡ [] = no_ids spec.below (and_parts (has_words spec) (length spec.below == 0) tt1.0).1 in
    let wrap : spec.wrap ≡ Plain = unwrapped spec.wrap tt1.1 in
    let ff = and_parts (is_u32 caller) (is_u32 spec.priority && enlisted_fits answer) f in
    let fs = and_parts (is_u32 spec.priority) (enlisted_fits answer) ff.1 in
    let priority : small_of (decimal spec.priority) ≡ spec.priority = small_again spec.priority fs.0 in
    let c : small_of (decimal caller) ≡ caller = small_again caller ff.0 in
    let a : enlisted_of (enlisted_words answer) ≡ answer = enlisted_again answer fs.1 in
    let k = spec_is spec.name spec.driver (kind_of (kind_word spec.kind)) spec.kind Plain spec.wrap (small_of (decimal spec.priority)) spec.priority [] spec.below (kind_again spec.kind) (sym wrap) priority (sym below) in
    λ i. Some (event.Registry (Enlist (c i) (k i) (a i)))
registry_again (Look caller text plain answer) t f =
    let ff = and_parts (is_u32 caller) (looked_fits answer) f in
    λ i. Some (event.Registry (Look (small_again caller ff.0 i) text (plain_again plain i) (looked_again answer ff.1 i)))
registry_again (Claim caller larval) t f =
    let ff = and_parts (is_u32 caller) (is_u64 larval) f in
    λ i. Some (event.Registry (Claim (small_again caller ff.0 i) (number_again larval ff.1 i)))
registry_again (End caller larval answer) t f =
    let ff = and_parts (is_u32 caller) (is_u64 larval && end_fits answer) f in
    let fe = and_parts (is_u64 larval) (end_fits answer) ff.1 in
    ending caller larval answer (small_again caller ff.0) (number_again larval fe.0) fe.1
  where
    ending : (caller larval : ℕ) (answer : EndAnswer) → small_of (decimal caller) ≡ caller → number_of (decimal larval) ≡ larval → end_fits answer ≡ true → event_in (reg_words (End caller larval answer)) ≡ Some (event.Registry (End caller larval answer))
    ending caller larval (Built id spec) c l f =
        let ff = and_parts (is_u64 id) (spec_fits spec) f in
        let fs = and_parts (is_u32 spec.priority) (list_all is_u64 spec.below) ff.1 in
        let k = spec_is spec.name spec.driver (kind_of (kind_word spec.kind)) spec.kind (wrap_of (wrap_word spec.wrap)) spec.wrap (small_of (decimal spec.priority)) spec.priority (ids_of (ids_word spec.below)) spec.below (kind_again spec.kind) (wrap_again spec.wrap) (small_again spec.priority fs.0) (ids_again spec.below fs.1) in
        λ i. Some (event.Registry (End (c i) (l i) (Built (number_again id ff.0 i) (k i))))
    ending caller larval (Joined id below) c l f =
        let ff = and_parts (is_u64 id) (list_all is_u64 below) f in
        λ i. Some (event.Registry (End (c i) (l i) (Joined (number_again id ff.0 i) (ids_again below ff.1 i))))
    ending caller larval (Failed errno) c l f = λ i. Some (event.Registry (End (c i) (l i) (Failed (errno_again errno i))))
    ending caller larval NoMemory c l f = λ i. Some (event.Registry (End (c i) (l i) NoMemory))
registry_again (Waited caller larval) t f =
    let ff = and_parts (is_u32 caller) (is_u64 larval) f in
    λ i. Some (event.Registry (Waited (small_again caller ff.0 i) (number_again larval ff.1 i)))
registry_again (Unlist caller driver (Some id)) t f =
    let ff = and_parts (is_u32 caller) (is_u64 id) f in
    λ i. Some (event.Registry (Unlist (small_again caller ff.0 i) driver (Some (number_again id ff.1 i))))
registry_again (Unlist caller driver None) t f =
    let ff = and_parts (is_u32 caller) true f in
    λ i. Some (event.Registry (Unlist (small_again caller ff.0 i) driver None))
registry_again (Get caller id ok) t f =
    let ff = and_parts (is_u32 caller) (is_u64 id) f in
    λ i. Some (event.Registry (Get (small_again caller ff.0 i) (number_again id ff.1 i) (get_again ok i)))
registry_again (Put caller id) t f =
    let ff = and_parts (is_u32 caller) (is_u64 id) f in
    λ i. Some (event.Registry (Put (small_again caller ff.0 i) (number_again id ff.1 i)))
registry_again (Refs caller driver) t f = λ i. Some (event.Registry (Refs (small_again caller f i) driver))
registry_again (reg.List caller) t f = λ i. Some (event.Registry (reg.List (small_again caller f i)))

shape_again : (shape : Shape) → shape_fits shape ≡ true → (caller pipe : ℕ) → board_of caller (codes "born") (decimal pipe ∷ shape_words shape) ≡ Some (Born caller (number_of (decimal pipe)) shape)
shape_again (Pad lists) f caller pipe = λ i. Some (Born caller (number_of (decimal pipe)) (Pad (small_again lists f i)))
shape_again (Queue max) f caller pipe = λ i. Some (Born caller (number_of (decimal pipe)) (Queue (small_again max f i)))
shape_again (Chain max lists) f caller pipe =
    let ff = and_parts (is_u32 max) (is_u32 lists) f in
    λ i. Some (Born caller (number_of (decimal pipe)) (Chain (small_again max ff.0 i) (small_again lists ff.1 i)))

entered_again : (answer : Entered) → entered_fits answer ≡ true → entered_of (entered_words answer) ≡ answer
entered_again (InProgress number) f = ap InProgress (number_again number f)
entered_again (Busy number) f = ap Busy (number_again number f)
entered_again NoSpace f = refl

started_again : (started : Option ℕ) → option_fits started ≡ true → started_of (started_words started) ≡ started
started_again (Some n) f = ap Some (number_again n f)
started_again None f = refl

pub board_again : (e : BoardEntry AskLine) → board_fits origin_of e ≡ true → event_in (board_words origin_of e) ≡ Some (event.Board (unplaced e))
board_again (Born caller pipe shape) f =
    let ff = and_parts (is_u32 caller) (is_u64 pipe && shape_fits shape) f in
    let fp = and_parts (is_u64 pipe) (shape_fits shape) ff.1 in
    ap (option_map event.Board) (shape_again shape fp.1 (small_of (decimal caller)) pipe)
    ∙ (λ i. Some (event.Board (Born (small_again caller ff.0 i) (number_again pipe fp.0 i) shape)))
board_again (Submit caller pipe number ask) f =
    let ff = and_parts (is_u32 caller) (is_u64 pipe && (is_u64 number && origin_fits (origin_of (arc_value ask)))) f in
    let fp = and_parts (is_u64 pipe) (is_u64 number && origin_fits (origin_of (arc_value ask))) ff.1 in
    let fn = and_parts (is_u64 number) (origin_fits (origin_of (arc_value ask))) fp.1 in
    λ i. Some (event.Board (Submit (small_again caller ff.0 i) (number_again pipe fp.0 i) (number_again number fn.0 i) (ask_of (origin_again (origin_of (arc_value ask)) fn.1 i))))
board_again (Enq caller pipe ask backlog answer) f =
    let ff = and_parts (is_u32 caller) (is_u64 pipe && (origin_fits (origin_of (arc_value ask)) && entered_fits answer)) f in
    let fp = and_parts (is_u64 pipe) (origin_fits (origin_of (arc_value ask)) && entered_fits answer) ff.1 in
    let fn = and_parts (origin_fits (origin_of (arc_value ask))) (entered_fits answer) fp.1 in
    λ i. Some (event.Board (Enq (small_again caller ff.0 i) (number_again pipe fp.0 i) (ask_of (origin_again (origin_of (arc_value ask)) fn.0 i)) (backlog_again backlog i) (entered_again answer fn.1 i)))
board_again (Deq caller pipe number started) f =
    let ff = and_parts (is_u32 caller) (is_u64 pipe && (is_u64 number && option_fits started)) f in
    let fp = and_parts (is_u64 pipe) (is_u64 number && option_fits started) ff.1 in
    let fn = and_parts (is_u64 number) (option_fits started) fp.1 in
    λ i. Some (event.Board (Deq (small_again caller ff.0 i) (number_again pipe fp.0 i) (number_again number fn.0 i) (started_again started fn.1 i)))
board_again (Take caller pipe number) f =
    let ff = and_parts (is_u32 caller) (is_u64 pipe && is_u64 number) f in
    let fp = and_parts (is_u64 pipe) (is_u64 number) ff.1 in
    λ i. Some (event.Board (Take (small_again caller ff.0 i) (number_again pipe fp.0 i) (number_again number fp.1 i)))
board_again (Finish caller pipe number) f =
    let ff = and_parts (is_u32 caller) (is_u64 pipe && is_u64 number) f in
    let fp = and_parts (is_u64 pipe) (is_u64 number) ff.1 in
    λ i. Some (event.Board (Finish (small_again caller ff.0 i) (number_again pipe fp.0 i) (number_again number fp.1 i)))
board_again (Done caller pipe number) f =
    let ff = and_parts (is_u32 caller) (is_u64 pipe && is_u64 number) f in
    let fp = and_parts (is_u64 pipe) (is_u64 number) ff.1 in
    λ i. Some (event.Board (Done (small_again caller ff.0 i) (number_again pipe fp.0 i) (number_again number fp.1 i)))
board_again (Collect caller pipe to) f =
    let ff = and_parts (is_u32 caller) (is_u64 pipe && is_u64 to) f in
    let fp = and_parts (is_u64 pipe) (is_u64 to) ff.1 in
    λ i. Some (event.Board (Collect (small_again caller ff.0 i) (number_again pipe fp.0 i) (number_again to fp.1 i)))
board_again (Hold caller pipe) f =
    let ff = and_parts (is_u32 caller) (is_u64 pipe) f in
    λ i. Some (event.Board (Hold (small_again caller ff.0 i) (number_again pipe ff.1 i)))
board_again (Go caller pipe) f =
    let ff = and_parts (is_u32 caller) (is_u64 pipe) f in
    λ i. Some (event.Board (Go (small_again caller ff.0 i) (number_again pipe ff.1 i)))
board_again (Close caller pipe) f =
    let ff = and_parts (is_u32 caller) (is_u64 pipe) f in
    λ i. Some (event.Board (Close (small_again caller ff.0 i) (number_again pipe ff.1 i)))
board_again (Share caller pipe) f =
    let ff = and_parts (is_u32 caller) (is_u64 pipe) f in
    λ i. Some (event.Board (Share (small_again caller ff.0 i) (number_again pipe ff.1 i)))
board_again (Mask caller pipe mask) f =
    let ff = and_parts (is_u32 caller) (is_u64 pipe && is_u16 mask) f in
    let fp = and_parts (is_u64 pipe) (is_u16 mask) ff.1 in
    λ i. Some (event.Board (Mask (small_again caller ff.0 i) (number_again pipe fp.0 i) (mask_again mask fp.1 i)))
board_again (Shut caller) f = λ i. Some (event.Board (Shut (small_again caller f i)))
