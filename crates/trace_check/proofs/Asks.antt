-- What is judged of an event, and kept after it, is the same whatever its ask; its words depend on the ask's line
-- alone.
use Rattle.std.proofs.Common.{◌≡◌, Bool, ◌&&◌, List, [], ◌∷◌, Option, Some, None, refl, ap}
use Rattle.std.specs.Prelude.{slice_get, codes}
use Rattle.std.specs.Fmt.{decimal}
use Rattle.std.specs.declared.sync.Arc.{Arc}
use Rattle.std.specs.declared.alloc.Global.{Global}
use Rattle.std.specs.Arc.{arc_value}
use Rattle.board.specs.declared.entry.BoardEntry.{BoardEntry}
use Rattle.board.specs.declared.entry.BoardEntry.TheVariants.{Born, Submit, Take, Finish, Enq, Deq, Done, Hold, Go, Collect, Close, Share, Mask, Shut}
use Rattle.trace_text.specs.Text.{board_words, backlog_word, entered_words}
use Rattle.trace_text.specs.Trace.{board_fits, is_u32, is_u64, entered_fits, origin_fits}
use Rattle.reply_text.specs.Origins.{origin_word}
use Rattle.reply_text.specs.declared.origin.Origin.{Origin}
use Rattle.trace_check.specs.Pipes.{PipeState, judged_on, judged_at, judged, pipes_after, is_shut_by}
use Rattle.trace_check.specs.Lines.{origin_of}
use Rattle.trace_check.specs.declared.lines.AskLine.{AskLine}
use Rattle.trace_check.specs.AskLines.{with_asks}

on_same : {A B : Type 0} (f : Arc A Global → Arc B Global) (s : PipeState) (e : BoardEntry A) → judged_on s (with_asks f e) ≡ judged_on s e
on_same f s (Born caller pipe shape) = refl
on_same f s (Submit caller pipe number ask) = refl
on_same f s (Take caller pipe number) = refl
on_same f s (Finish caller pipe number) = refl
on_same f s (Enq caller pipe ask backlog answer) = refl
on_same f s (Deq caller pipe number started) = refl
on_same f s (Done caller pipe number) = refl
on_same f s (Hold caller pipe) = refl
on_same f s (Go caller pipe) = refl
on_same f s (Collect caller pipe to) = refl
on_same f s (Close caller pipe) = refl
on_same f s (Share caller pipe) = refl
on_same f s (Mask caller pipe mask) = refl
on_same f s (Shut caller) = refl

at_same : {A B : Type 0} (f : Arc A Global → Arc B Global) (p : Option PipeState) (e : BoardEntry A) → judged_at p (with_asks f e) ≡ judged_at p e
at_same f None e = refl
at_same f (Some s) e = on_same f s e

pub judged_same : {A B : Type 0} (f : Arc A Global → Arc B Global) (ps : List PipeState) (shut : Bool) (e : BoardEntry A) → judged ps shut (with_asks f e) ≡ judged ps shut e
judged_same f ps shut (Born caller pipe shape) = refl
judged_same f ps shut (Submit caller pipe number ask) = at_same f (slice_get ps pipe) (Submit caller pipe number ask)
judged_same f ps shut (Take caller pipe number) = at_same f (slice_get ps pipe) (Take caller pipe number)
judged_same f ps shut (Finish caller pipe number) = at_same f (slice_get ps pipe) (Finish caller pipe number)
judged_same f ps shut (Enq caller pipe ask backlog answer) = at_same f (slice_get ps pipe) (Enq caller pipe ask backlog answer)
judged_same f ps shut (Deq caller pipe number started) = at_same f (slice_get ps pipe) (Deq caller pipe number started)
judged_same f ps shut (Done caller pipe number) = at_same f (slice_get ps pipe) (Done caller pipe number)
judged_same f ps shut (Hold caller pipe) = at_same f (slice_get ps pipe) (Hold caller pipe)
judged_same f ps shut (Go caller pipe) = at_same f (slice_get ps pipe) (Go caller pipe)
judged_same f ps shut (Collect caller pipe to) = at_same f (slice_get ps pipe) (Collect caller pipe to)
judged_same f ps shut (Close caller pipe) = at_same f (slice_get ps pipe) (Close caller pipe)
judged_same f ps shut (Share caller pipe) = at_same f (slice_get ps pipe) (Share caller pipe)
judged_same f ps shut (Mask caller pipe mask) = at_same f (slice_get ps pipe) (Mask caller pipe mask)
judged_same f ps shut (Shut caller) = refl

pub after_same : {A B : Type 0} (f : Arc A Global → Arc B Global) (ps : List PipeState) (e : BoardEntry A) → pipes_after ps (with_asks f e) ≡ pipes_after ps e
after_same f ps (Born caller pipe shape) = refl
after_same f ps (Submit caller pipe number ask) = refl
after_same f ps (Take caller pipe number) = refl
after_same f ps (Finish caller pipe number) = refl
after_same f ps (Enq caller pipe ask backlog answer) = refl
after_same f ps (Deq caller pipe number started) = refl
after_same f ps (Done caller pipe number) = refl
after_same f ps (Hold caller pipe) = refl
after_same f ps (Go caller pipe) = refl
after_same f ps (Collect caller pipe to) = refl
after_same f ps (Close caller pipe) = refl
after_same f ps (Share caller pipe) = refl
after_same f ps (Mask caller pipe mask) = refl
after_same f ps (Shut caller) = refl

pub shut_same : {A B : Type 0} (f : Arc A Global → Arc B Global) (shut : Bool) (e : BoardEntry A) → is_shut_by shut (with_asks f e) ≡ is_shut_by shut e
shut_same f shut (Born caller pipe shape) = refl
shut_same f shut (Submit caller pipe number ask) = refl
shut_same f shut (Take caller pipe number) = refl
shut_same f shut (Finish caller pipe number) = refl
shut_same f shut (Enq caller pipe ask backlog answer) = refl
shut_same f shut (Deq caller pipe number started) = refl
shut_same f shut (Done caller pipe number) = refl
shut_same f shut (Hold caller pipe) = refl
shut_same f shut (Go caller pipe) = refl
shut_same f shut (Collect caller pipe to) = refl
shut_same f shut (Close caller pipe) = refl
shut_same f shut (Share caller pipe) = refl
shut_same f shut (Mask caller pipe mask) = refl
shut_same f shut (Shut caller) = refl

pub words_same : {A : Type 0} (line : A → Origin) (f : Arc A Global → Arc AskLine Global) (e : BoardEntry A) → ((ask : Arc A Global) → origin_of (arc_value (f ask)) ≡ line (arc_value ask)) → board_words origin_of (with_asks f e) ≡ board_words line e
words_same line f (Born caller pipe shape) same = refl
words_same line f (Submit caller pipe number ask) same = ap (λ l. codes "b" ∷ decimal caller ∷ codes "submit" ∷ decimal pipe ∷ decimal number ∷ origin_word l ∷ []) (same ask)
words_same line f (Take caller pipe number) same = refl
words_same line f (Finish caller pipe number) same = refl
words_same line f (Enq caller pipe ask backlog answer) same = ap (λ l. codes "b" ∷ decimal caller ∷ codes "enq" ∷ decimal pipe ∷ origin_word l ∷ backlog_word backlog ∷ entered_words answer) (same ask)
words_same line f (Deq caller pipe number started) same = refl
words_same line f (Done caller pipe number) same = refl
words_same line f (Hold caller pipe) same = refl
words_same line f (Go caller pipe) same = refl
words_same line f (Collect caller pipe to) same = refl
words_same line f (Close caller pipe) same = refl
words_same line f (Share caller pipe) same = refl
words_same line f (Mask caller pipe mask) same = refl
words_same line f (Shut caller) same = refl

pub fits_same : {A : Type 0} (line : A → Origin) (f : Arc A Global → Arc AskLine Global) (e : BoardEntry A) → ((ask : Arc A Global) → origin_of (arc_value (f ask)) ≡ line (arc_value ask)) → board_fits origin_of (with_asks f e) ≡ board_fits line e
fits_same line f (Born caller pipe shape) same = refl
fits_same line f (Submit caller pipe number ask) same = ap (λ l. is_u32 caller && (is_u64 pipe && (is_u64 number && origin_fits l))) (same ask)
fits_same line f (Take caller pipe number) same = refl
fits_same line f (Finish caller pipe number) same = refl
fits_same line f (Enq caller pipe ask backlog answer) same = ap (λ l. is_u32 caller && (is_u64 pipe && (origin_fits l && entered_fits answer))) (same ask)
fits_same line f (Deq caller pipe number started) same = refl
fits_same line f (Done caller pipe number) same = refl
fits_same line f (Hold caller pipe) same = refl
fits_same line f (Go caller pipe) same = refl
fits_same line f (Collect caller pipe to) same = refl
fits_same line f (Close caller pipe) same = refl
fits_same line f (Share caller pipe) same = refl
fits_same line f (Mask caller pipe mask) same = refl
fits_same line f (Shut caller) same = refl
