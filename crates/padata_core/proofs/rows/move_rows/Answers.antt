use Rattle.std.proofs.Common.{ap, sym, ◌∙◌}
use Rattle.padata_core.specs.Rows.{Slot, put, first_is}
use Rattle.padata_core.proofs.Finishing.{row_at, finish_rising}
use Rattle.padata_core.proofs.Moving.{moved_none, moved_some, moved_room}
use Rattle.padata_core.proofs.rows.move_rows.Goals.{in-Some, in_default}
use Rattle.padata_core.proofs.rows.move_rows.Goals as goal

pub put-requires-clause-room : goal.put-requires-clause-room
put-requires-clause-room g c =
    (let i = c.loop-number.invariant in
    rw (row_at c.loop-number.new.items c.args.more c.args.from c.loop-number.number c.args.share c.loop-number.number c.index_mut-target.result.now i.moved c.index_mut-target.ensures.value) (moved_room c.args.old.now.items c.loop-number.old.items c.loop-number.new.items c.in-Some.out c.args.lists c.args.more c.args.from c.loop-number.number c.args.to c.args.room c.args.share i c.loop-number-test.true c.requires.enough))

pub put-requires-clause-rising : goal.put-requires-clause-rising
put-requires-clause-rising g c =
    (let i = c.loop-number.invariant in
    rw (row_at c.loop-number.new.items c.args.more c.args.from c.loop-number.number c.args.share c.loop-number.number c.index_mut-target.result.now i.moved c.index_mut-target.ensures.value) (finish_rising c.loop-number.new.items c.args.more c.args.from c.loop-number.number c.args.share c.loop-number.number i.moved))

pub loop-number-preserved : goal.loop-number-preserved
loop-number-preserved g c =
    (let i = c.loop-number.invariant in
    let row = row_at c.loop-number.old.items c.args.lists c.loop-number.number c.args.to c.args.room c.loop-number.number c.index_mut-row.result.now i.left c.index_mut-row.ensures.value in
    elim c.match-take_first.branch [
      | in-Some w ↦ (let e = w.in-Some.ensures in
          let target = row_at c.loop-number.new.items c.args.more c.args.from c.loop-number.number c.args.share c.loop-number.number w.index_mut-target.result.now i.moved w.index_mut-target.ensures.value in
          rw w.new-is (moved_some c.args.old.now.items c.loop-number.old.items c.loop-number.new.items w.in-Some.out c.take_first.new.self w.put.new.self c.args.lists c.args.more c.args.from c.loop-number.number c.args.to c.args.room c.args.share i (ap (λ (h : Slot _). h.entries) (sym row) ∙ e.0) (e.1 ∙ ap (λ (h : Slot _). h.room) row) (w.put.ensures ∙ ap (λ (h : Slot _). record h { entries = put c.loop-number.number w.in-Some.out h.entries }) target)))
      | in_default w ↦ (let e = w.in_default.ensures in rw w.new-is (moved_none c.args.old.now.items c.loop-number.old.items c.loop-number.new.items c.take_first.new.self c.args.lists c.args.more c.args.from c.loop-number.number c.args.to c.args.room c.args.share i c.loop-number-test.true (ap (λ (h : Slot _). first_is c.loop-number.number h.entries) (sym row) ∙ e.0) (e.1 ∙ row)))
    ])
