use Rattle.load_mode.proofs.Loads.{loads_come_to}
use Rattle.load_mode.proofs.Summing.{BoardLaws}
use Rattle.load_mode.proofs.laws.loads_come_to.Goals as goal

pub returns : goal.returns
returns c =
    let laws : BoardLaws = record {
      more = c.histories_go_on.ensures.more;
      handed = c.completions_in_order.ensures.front_of;
      nothing = c.only_collects_hand_out.ensures.nothing;
      pads = c.pads_and_queues_tell.ensures.pads;
    } in
    loads_come_to laws c.turns_are_plain.ensures c.passes_follow.ensures.passes c.passes_follow.ensures.posts
