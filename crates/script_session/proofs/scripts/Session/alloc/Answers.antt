use Rattle.std.proofs.Common.{refl, sym, ap, ◌∙◌, arith, length}
use Rattle.alg_names.specs.Name.{spelling}
use Rattle.dialogues.specs.Names.{name_read}
use Rattle.std.specs.Prelude.{is_some}
use Rattle.dialogues.specs.ScriptState.{live_of, shared_of, either_of}
use Rattle.script_session.specs.States.{State}
use Rattle.script_session.proofs.Arms.{answer-holds}
use Rattle.script_session.proofs.Breaking.{or-breaks, stops-none}
use Rattle.script_session.proofs.Alloc.{nobody, alloc-live, alloc-full, alloc-faulty, alloc-unfit, looks-arm}
use Rattle.script_session.proofs.scripts.Session.alloc.Goals as goal

pub returns-then-has_label : goal.returns-then-has_label
returns-then-has_label g c =
    let s = c.args.self.now in
    or-breaks _ _ c.answer_errno.result c.answer_errno.ensures
    (λ all. answer-holds _ s s _ _ all
    (alloc-live s.workers s.script_state c.args.number c.args.wanted.now.label.now c.args.name.now c.args.wanted.now.length
    (ap (λ l. is_some (either_of s.script_state l)) (sym c.as_slice.ensures) ∙ (sym c.has_label.ensures ∙ c.if-has_label.true))) refl refl refl refl c.requires.state.stands c.requires.state.posted)
    c.requires.state.posted

pub returns-then-len-ge-MOST_LIVE : goal.returns-then-len-ge-MOST_LIVE
returns-then-len-ge-MOST_LIVE g c =
    let s = c.args.self.now in
    or-breaks _ _ c.answer_errno-then-len-ge-MOST_LIVE.result c.answer_errno-then-len-ge-MOST_LIVE.ensures
    (λ all. answer-holds _ s s _ _ all
    (alloc-full s.workers s.script_state c.args.number c.args.wanted.now.label.now c.args.name.now c.args.wanted.now.length
    (ap (λ l. is_some (either_of s.script_state l)) (sym c.as_slice.ensures) ∙ (sym c.has_label.ensures ∙ c.if-has_label.false))
    (let view = ap (λ (x : State). length x.script_state.lives) c.self.view_is in omega (arith, view, c.if-len-ge-MOST_LIVE.true, c.len.ensures))) refl refl refl refl c.requires.state.stands c.requires.state.posted)
    c.requires.state.posted

pub returns-in-Err-Fault : goal.returns-in-Err-Fault
returns-in-Err-Fault g c =
    let s = c.args.self.now in
    let read = rw c.in-Err-Fault.field-0-is at c.in-Err-Fault.ensures in
    or-breaks _ _ c.answer_errno-in-Err-Fault.result (rw c.in-Err-Fault.errno-is at c.answer_errno-in-Err-Fault.ensures)
    (λ all. answer-holds _ s s _ _ all
    (alloc-faulty s.workers s.script_state c.args.number c.args.wanted.now.label.now c.args.name.now c.args.wanted.now.length c.in-Err-Fault.errno
    (ap (λ l. is_some (either_of s.script_state l)) (sym c.as_slice.ensures) ∙ (sym c.has_label.ensures ∙ c.if-has_label.false))
    (let view = ap (λ (x : State). length x.script_state.lives) c.self.view_is in omega (arith, view, c.if-len-ge-MOST_LIVE.false, c.len.ensures))
    (ap name_read (sym c.as_slice-2.ensures) ∙ read.err)) refl refl refl refl c.requires.state.stands c.requires.state.posted)
    c.requires.state.posted

pub returns-then-not-fits_queue : goal.returns-then-not-fits_queue
returns-then-not-fits_queue g c =
    let s = c.args.self.now in
    or-breaks _ _ c.answer_errno-then-not-fits_queue.result c.answer_errno-then-not-fits_queue.ensures
    (λ all. answer-holds _ s s _ _ all
    (alloc-unfit s.workers s.script_state c.args.number c.args.wanted.now.label.now c.args.name.now c.args.wanted.now.length c.in-Ok.name
    (ap (λ l. is_some (either_of s.script_state l)) (sym c.as_slice.ensures) ∙ (sym c.has_label.ensures ∙ c.if-has_label.false))
    (let view = ap (λ (x : State). length x.script_state.lives) c.self.view_is in omega (arith, view, c.if-len-ge-MOST_LIVE.false, c.len.ensures))
    (ap name_read (sym c.as_slice-2.ensures) ∙ c.in-Ok.ensures.ok) (sym c.fits_queue.ensures ∙ c.if-not-fits_queue.true)) refl refl refl refl c.requires.state.stands c.requires.state.posted)
    c.requires.state.posted

pub find-requires-clause-free : goal.find-requires-clause-free
find-requires-clause-free g c =
    let s = c.args.self.now in
    nobody (live_of s.script_state c.args.wanted.now.label.now) (shared_of s.script_state c.args.wanted.now.label.now)
    (ap (λ l. is_some (either_of s.script_state l)) (sym c.as_slice.ensures) ∙ (sym c.has_label.ensures ∙ c.if-has_label.false))

pub returns : goal.returns
returns g c =
    let s = c.args.self.now in
    looks-arm s _ c.args.number c.args.wanted.now.label.now c.args.name.now (spelling c.in-Ok.name) c.args.wanted.now.length c.in-Ok.name _ _ c.find.result
    (ap (λ l. is_some (either_of s.script_state l)) (sym c.as_slice.ensures) ∙ (sym c.has_label.ensures ∙ c.if-has_label.false))
    (let view = ap (λ (x : State). length x.script_state.lives) c.self.view_is in omega (arith, view, c.if-len-ge-MOST_LIVE.false, c.len.ensures))
    (ap name_read (sym c.as_slice-2.ensures) ∙ c.in-Ok.ensures.ok) (sym c.fits_queue.ensures ∙ c.if-not-fits_queue.false) (c.in-Ok.ensures.spelled ∙ c.as_slice-2.ensures) c.find.ensures

pub returns-in-Err-Memory : goal.returns-in-Err-Memory
returns-in-Err-Memory g c = stops-none _ c.args.self.now c.requires.state.stands
