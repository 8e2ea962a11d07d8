use Rattle.std.proofs.Common.{map, arith}
use Rattle.trace_check.specs.Registers.{row_of, larval_of}
use Rattle.trace_check.proofs.Boarding.{none_left}
use Rattle.trace_check.proofs.RegLoop.{register_goes_on, wrong_entry_at, few_taken}
use Rattle.trace_check.proofs.registry_check.first_wrong_from.Goals as goal

pub returns-in-Some : goal.returns-in-Some
returns-in-Some c =
    let v = c.deref.ensures.value in let w = c.deref-in-loop-place.ensures.value in let x = c.deref-in-loop-place-2.ensures.value in
    let j = c.in_ok-reason.ensures in let i = c.in-Some.is in
    wrong_entry_at c.args.events.now c.loop-place.place c.index-events-place.result c.in-Some.reason (map row_of c.loop-place.entries.items) (map larval_of c.loop-place.larvals.items) c.loop-place.references.items
    (omega arith) c.index-events-place.is (cc) c.loop-place.invariant

pub advance_entries-requires : goal.advance_entries-requires
advance_entries-requires c =
    few_taken c.args.events.now c.loop-place.place c.loop-place.entries.items (map larval_of c.loop-place.larvals.items) c.loop-place.references.items (omega arith) c.loop-place.invariant

pub loop-place-preserved : goal.loop-place-preserved
loop-place-preserved c =
    let v = c.deref.ensures.value in let w = c.deref-in-loop-place.ensures.value in let x = c.deref-in-loop-place-2.ensures.value in
    let j = c.in_ok-reason.ensures in let n = none_left c.in_ok-reason.field-0 c.in_default.not-Some in
    register_goes_on c.args.events.now c.loop-place.place c.index-events-place.result (map row_of c.loop-place.entries.items) _ (map larval_of c.loop-place.larvals.items) _ c.loop-place.references.items _
    c.requires.text (omega arith) c.index-events-place.is (cc) c.in_ok-advance_entries.ensures c.in_ok-advance_larvals.ensures c.in_ok-advance_references.ensures c.loop-place.invariant
