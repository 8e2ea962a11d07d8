use Rattle.board.proofs.run_queue.RunQueue.set.Goals as goal

pub returns-then-ready : goal.returns-then-ready
returns-then-ready c = record {
  others = λ p n. c.add.ensures.kept p;
  member = λ m. (c.add.ensures.kept c.args.pipe).0 m;
  stays = λ r s. (c.add.ensures.kept c.args.pipe).1 s;
  queued = λ s r w m. c.add.ensures.added m;
}
