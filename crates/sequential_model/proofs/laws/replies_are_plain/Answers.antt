use Rattle.sequential_model.proofs.Behaving.{BoardLaws}
use Rattle.sequential_model.proofs.Telling.{replies_are_plain as plain}
use Rattle.sequential_model.proofs.laws.replies_are_plain.Goals as goal

pub returns : goal.returns
returns c =
    let laws : BoardLaws = record {
      more = c.histories_go_on.ensures.more;
      alone = c.histories_go_on.ensures.alone;
      each = c.histories_go_on.ensures.each;
      one = c.histories_go_on.ensures.one;
      birth = c.entries_leave.ensures.birth;
      joins = c.entries_join.ensures.joins;
      leaves = c.entries_join.ensures.leaves;
      nothing = c.only_collects_hand_out.ensures.nothing;
      holds = c.queues_hold.ensures.held;
      pads = c.pads_and_queues_tell.ensures.pads;
      queues = c.pads_and_queues_tell.ensures.queues;
      order = c.completions_in_order.ensures.in_order;
      handed = c.completions_in_order.ensures.front_of;
      waits = c.completions_in_order.ensures.waits;
      starts = c.starts_of_the_backlog.ensures.alone;
      all_out = c.collects_hand_out_all.ensures;
      front_all = c.fronts_tell_all.ensures.all;
      leave = c.numbers_in_order.ensures.leave;
      passed = c.numbers_in_order.ensures.front;
      serial = c.numbers_in_order.ensures.serial;
    } in
    plain laws
