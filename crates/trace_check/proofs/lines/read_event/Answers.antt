use Rattle.std.proofs.Common.{◌-◌, ℕ, List, Some, None, length, map, get_or, Bor, arith}
use Rattle.std.specs.Prelude.{◌==◌}
use Rattle.std.specs.List.{slice_split}
use Rattle.trace_check.proofs.ReadLemmas.{without_last, read_as, read_unworded, read_none, read_checked}
use Rattle.trace_check.proofs.lines.read_event.Goals as goal

pub returns-then-not-are_words : goal.returns-then-not-are_words
returns-then-not-are_words c =
    let cut = without_last c.args.line.now c.split_at.result.0.now (length c.args.line.now - 1) c.requires (omega arith) c.split_at.ensures.front in
    read_unworded c.split_at.result.0.now (get_or c.args.line.now (length c.args.line.now - 1) 0) c.args.line.now cut (let e = c.are_words.ensures in let w = c.in_ok-words.ensures in let v = c.deref.ensures.value in let t = c.if-not-are_words.true in cc)

pub returns-in-Some : goal.returns-in-Some
returns-in-Some c =
    let cut = without_last c.args.line.now c.split_at.result.0.now (length c.args.line.now - 1) c.requires (omega arith) c.split_at.ensures.front in
    read_checked c.split_at.result.0.now (get_or c.args.line.now (length c.args.line.now - 1) 0) c.args.line.now c.in-Some.event c.checked_event.result cut
    (let e = c.are_words.ensures in let w = c.in_ok-words.ensures in let v = c.deref.ensures.value in let t = c.if-not-are_words.false in cc)
    (read_as c.in_ok-event.field-0 (Some c.in-Some.event) (map (λ (word : Bor (List ℕ)). word.now) c.deref-2.result.now) (slice_split (λ b. b == 32) c.split_at.result.0.now) c.in_ok-event.ensures (let w = c.in_ok-words.ensures in let v = c.deref-2.ensures.value in cc) c.in-Some.is)
    c.checked_event.ensures

pub returns : goal.returns
returns c =
    let cut = without_last c.args.line.now c.split_at.result.0.now (length c.args.line.now - 1) c.requires (omega arith) c.split_at.ensures.front in
    read_none c.split_at.result.0.now (get_or c.args.line.now (length c.args.line.now - 1) 0) c.args.line.now cut
    (read_as c.in_ok-event.field-0 None (map (λ (word : Bor (List ℕ)). word.now) c.deref-2.result.now) (slice_split (λ b. b == 32) c.split_at.result.0.now) c.in_ok-event.ensures (let w = c.in_ok-words.ensures in let v = c.deref-2.ensures.value in cc) c.in-None.is)
