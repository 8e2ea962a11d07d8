use Rattle.std.proofs.Common.{◌∙◌, [], ap, refl}
use Rattle.script_session.proofs.Arms.{answer-holds}
use Rattle.std.specs.BTreeMap.{get}
use Rattle.std.specs.Ordering.{nat_cmp}
use Rattle.board.proofs.Kept.{loan_here}
use Rattle.script_session.proofs.Filed.{filed-set}
use Rattle.script_session.specs.ReplyText.{collects}
use Rattle.script_session.proofs.Piped.{collect-free}
use Rattle.dialogues.specs.Dialogues.{missing}
use Rattle.dialogues.specs.ScriptState.{shared_of}
use Rattle.script_session.proofs.Living.{no-live, loan-there, pipe-there, bytes-at, text-arm, written}
use Rattle.script_session.proofs.Said.{or-breaks, says-by, breaks-off_same}
use Rattle.script_session.proofs.scripts.Session.collect.Goals as goal

pub returns-in_default : goal.returns-in_default
returns-in_default g c =
    let s = c.args.self.now in
    let none = no-live s c.self.inside.lives c.self.invariant c.self.view_is c.args.label.now c.as_slice.result.now c.as_slice.ensures c.in_default.ensures in
    or-breaks c.put_one.result c.put_one.ensures.ok c.put_one.ensures.err
    (says-by _ s s _ _ _ (answer-holds _ s s _ [] _ (collect-free c.args.waits s.script_state c.args.number c.args.label.now _ none (c.missing-errno.ensures ∙ ap (λ l. missing (shared_of s.script_state l)) c.as_slice-in_default.ensures)) refl refl refl refl c.requires.state.stands c.requires.state.posted refl))
    (breaks-off_same _ s _ _ c.requires.state.stands c.requires.state.posted)

pub unwrap-live-requires : goal.unwrap-live-requires
unwrap-live-requires g c = loan-there c.args.self.now c.self.inside.lives c.self.invariant c.self.view_is c.args.label.now c.as_slice.result.now c.as_slice.ensures c.in-Some.place c.in-Some.ensures c.get_mut.result c.get_mut.ensures.value

pub invariant_of-self : goal.invariant_of-self
invariant_of-self g c =
    let is = loan_here (get nat_cmp c.self.inside.lives.transforms c.in-Some.place) c.get_mut.result c.unwrap-live.result c.get_mut.ensures.value c.unwrap-live.ensures in
    let set = c.get_mut.follows.holds c.collect_live.new.live in
    filed-set c.self.inside.lives _ c.in-Some.place c.unwrap-live.result.now c.collect_live.new.live c.self.invariant is c.collect_live.ensures.named refl refl set.0 set.1

pub collect_live-requires-clause-pipe : goal.collect_live-requires-clause-pipe
collect_live-requires-clause-pipe g c =
    let is = loan_here (get nat_cmp c.self.inside.lives.transforms c.in-Some.place) c.get_mut.result c.unwrap-live.result c.get_mut.ensures.value c.unwrap-live.ensures in
    pipe-there c.args.self.now c.self.inside.lives c.self.invariant c.self.view_is c.args.label.now c.as_slice.result.now c.as_slice.ensures c.in-Some.place c.in-Some.ensures c.unwrap-live.result.now is c.requires.state.posted

pub collect_live-requires-clause-bytes : goal.collect_live-requires-clause-bytes
collect_live-requires-clause-bytes g c =
    bytes-at c.args.self.now c.self.inside.lives c.self.invariant c.self.view_is c.args.label.now c.as_slice.result.now c.as_slice.ensures c.requires.state.posted

pub returns : goal.returns
returns g c =
    let s = c.args.self.now in
    let is = loan_here (get nat_cmp c.self.inside.lives.transforms c.in-Some.place) c.get_mut.result c.unwrap-live.result c.get_mut.ensures.value c.unwrap-live.ensures in
    let set = written s c.self.inside.lives c.self.invariant c.self.view_is c.args.label.now c.as_slice.result.now c.as_slice.ensures c.in-Some.place c.in-Some.ensures c.unwrap-live.result.now c.collect_live.new.live _ is c.collect_live.ensures.named (c.get_mut.follows.holds c.collect_live.new.live).0 in
    text-arm s c.self.inside.lives c.self.invariant c.self.view_is c.args.label.now c.as_slice.result.now c.as_slice.ensures c.in-Some.place c.in-Some.ensures c.unwrap-live.result.now c.collect_live.new.live _
    (λ label script_state. collects c.args.waits script_state c.args.number label) c.collect_live.new.caller _ _ c.collect_live.result is set c.collect_live.ensures.lock c.requires.state.stands c.requires.state.posted c.collect_live.ensures.held
